-- A lease that was found among the blocks, and a command as the definitions have it.
use Rattle.std.specs.Prelude.{◌≡◌, ℕ, ◌+◌, List, length, Some}
use Rattle.ken_model.specs.declared.values.Block.{Block}
use Rattle.ken_model.specs.Heap.{block_at}
use Rattle.ken_model.specs.KeyValue.{pair_of}
use Rattle.ken_leases.specs.declared.blocks.Found.{Found}
use Rattle.ken_leases.specs.declared.commands.Action.{Action}
use Rattle.ken_leases.specs.declared.commands.Command.{Command}
use Rattle.ken_leases.specs.declared.commands.Parts.{Parts}
use Rattle.ken_leases.specs.declared.commands.Named.{Named}
use Rattle.ken_leases.specs.Leases.{lease_of}

-- the block at its place is the name's lease
pub record IsLeaseAt (name : List ℕ) (blocks : List Block) (found : Found) : Type 0 where
  pub bytes : List ℕ
  pub stands : block_at found.place blocks ≡ Some bytes
  pub pair : pair_of name blocks ≡ Some (record { place = found.place; bytes = bytes })
  pub long : length bytes ≡ length name + 18
  pub lease : lease_of name blocks ≡ Some found.lease

abbrev pub command_view : Command → List ℕ × Action
command_view c = (c.name.now, c.action)

abbrev pub parts_view : Parts → List ℕ × List ℕ
parts_view p = (p.before.now, p.after.now)

abbrev pub named_view : Named → List ℕ × ℕ
named_view n = (n.name.now, n.term)
