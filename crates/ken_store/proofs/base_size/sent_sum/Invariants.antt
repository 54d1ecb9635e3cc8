use Rattle.std.proofs.Common.{◌≡◌, ◌*◌, ◌≤◌, map, filter, take, length}
use Rattle.std.specs.List.{flat_map}
use Rattle.ken_record.specs.Spelling.{due}
use Rattle.ken_store.specs.Turnovers.{due_of, is_due}
use Rattle.ken_store.proofs.base_size.sent_sum.Given as goal

abbrev pub invariant-loop-sent : goal.invariant-loop-sent
invariant-loop-sent l = record {
  size : l.size ≡ length (flat_map due (filter (is_due l.acked l.to) (map (due_of l.item.stamp) (take l.sent-index l.item.sends))));
  most : l.size ≤ 531 * l.sent-index;
}
