use Rattle.std.proofs.Common.{◌≡◌, ◌+◌, ◌*◌, ◌≤◌, ◌++◌, take, length}
use Rattle.std.specs.List.{flat_map}
use Rattle.ken_record.specs.Spelling.{due}
use Rattle.ken_store.specs.Turnovers.{record_dues, unacked_to}
use Rattle.ken_store.proofs.base_size.due_size_to.Given as goal

abbrev pub invariant-loop-item : goal.invariant-loop-item
invariant-loop-item l = record {
  size : l.size ≡ length (flat_map due (unacked_to l.acked (l.base ++ flat_map record_dues (take l.item-index l.records)) l.to));
  most : l.size ≤ 531 * length l.base + 8496 * l.item-index;
}
