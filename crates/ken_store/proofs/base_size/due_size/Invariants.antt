use Rattle.std.proofs.Common.{◌≡◌, ◌*◌, ◌≤◌, ◌^◌, ◌++◌, length}
use Rattle.std.specs.List.{flat_map, range_with_len}
use Rattle.ken_record.specs.Spelling.{due}
use Rattle.ken_store.specs.Turnovers.{record_dues, unacked_to}
use Rattle.ken_store.proofs.base_size.due_size.Given as goal

abbrev pub invariant-loop-to : goal.invariant-loop-to
invariant-loop-to l = record {
  size : l.size ≡ length (flat_map due (flat_map (unacked_to l.acked (l.base ++ flat_map record_dues l.records)) (range_with_len 0 l.to)));
  most : l.size ≤ 2 ^ 56 * l.to;
}
