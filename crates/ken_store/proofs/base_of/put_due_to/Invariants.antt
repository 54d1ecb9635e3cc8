use Rattle.std.proofs.Common.{◌≡◌, ◌++◌, filter, take}
use Rattle.std.specs.List.{flat_map}
use Rattle.ken_store.specs.Turnovers.{record_dues, is_due}
use Rattle.ken_store.proofs.base_of.put_due_to.Given as goal

abbrev pub invariant-loop-item : goal.invariant-loop-item
invariant-loop-item l = l.messages.items ≡ l.initial.messages.items ++ filter (is_due l.acked l.to) (flat_map record_dues (take l.item-index l.records))
