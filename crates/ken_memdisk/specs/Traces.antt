-- What contracts see of a disk in memory, and nothing that runs keeps.
use Rattle.std.specs.Prelude.{ℕ, List}
use Rattle.ken_disk.specs.Fates.{Origin}

-- whose disk it is, and the picks of its restarts, newest first
pub record Traced : Type 0 where
  pub origin : Origin
  pub picks : List ℕ
