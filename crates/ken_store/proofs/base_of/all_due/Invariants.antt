use Rattle.std.proofs.Common.{◌≡◌, ◌++◌}
use Rattle.std.specs.List.{flat_map, range_with_len}
use Rattle.ken_store.specs.Turnovers.{record_dues, unacked_to}
use Rattle.ken_store.proofs.base_of.all_due.Given as goal

abbrev pub invariant-loop-to : goal.invariant-loop-to
invariant-loop-to l = l.messages.items ≡ flat_map (unacked_to l.acked (l.base ++ flat_map record_dues l.records)) (range_with_len 0 l.to)
