use Rattle.std.proofs.Common.{◌≡◌, ◌*◌, ◌≤◌, filter, take, length}
use Rattle.std.specs.List.{flat_map}
use Rattle.ken_record.specs.Spelling.{due}
use Rattle.ken_store.specs.Turnovers.{is_due}
use Rattle.ken_store.proofs.base_size.due_sum.Given as goal

abbrev pub invariant-loop-message : goal.invariant-loop-message
invariant-loop-message l = record {
  size : l.size ≡ length (flat_map due (filter (is_due l.acked l.to) (take l.message-index l.messages)));
  most : l.size ≤ 531 * l.message-index;
}
