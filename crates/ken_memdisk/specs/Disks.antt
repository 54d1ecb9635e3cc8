-- What contracts see of a disk in memory.
use Rattle.std.specs.Prelude.{Bool}
use Rattle.ken_disk.specs.Story.{Story}
use Rattle.ken_memdisk.specs.Calls.{CallCounts}

-- all that it holds and held
pub record Held : Type 0 where
  pub story : Story
  -- it has the memory that its next sync needs
  pub ready : Bool

-- and its calls
pub record InMemory : Type 0 where
  pub held : Held
  pub calls : CallCounts
