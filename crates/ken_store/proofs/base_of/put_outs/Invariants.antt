use Rattle.std.proofs.Common.{◌≡◌, ◌++◌, take}
use Rattle.ken_store.specs.Turnovers.{outs_above}
use Rattle.ken_store.proofs.base_of.put_outs.Given as goal

abbrev pub invariant-loop-out : goal.invariant-loop-out
invariant-loop-out l = l.outs.items ≡ l.initial.outs.items ++ outs_above l.emitted (take l.out-index l.items)
