use Rattle.std.proofs.Common.{◌≡◌, ◌++◌, take}
use Rattle.std.specs.List.{flat_map}
use Rattle.ken_store.specs.Turnovers.{outs_above}
use Rattle.ken_record.specs.declared.record.Record.{Record}
use Rattle.ken_store.proofs.base_of.outs_above.Given as goal

abbrev pub invariant-loop-item : goal.invariant-loop-item
invariant-loop-item l = l.outs.items ≡ l.initial.outs.items ++ outs_above l.emitted (flat_map (λ (r : Record). r.outs) (take l.item-index l.records))
