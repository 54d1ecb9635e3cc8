use Rattle.std.proofs.Common.{◌≡◌, ◌+◌, ◌*◌, ◌≤◌, ◌++◌, take, length}
use Rattle.std.specs.List.{flat_map}
use Rattle.ken_record.specs.declared.record.Record.{Record}
use Rattle.ken_record.specs.Spelling.{out}
use Rattle.ken_store.specs.Turnovers.{outs_above}
use Rattle.ken_store.proofs.base_size.outs_size.Given as goal

abbrev pub invariant-loop-item : goal.invariant-loop-item
invariant-loop-item l = record {
  size : l.size ≡ length (flat_map out (outs_above l.emitted (l.base ++ flat_map (λ (r : Record). r.outs) (take l.item-index l.records))));
  most : l.size ≤ 522 * length l.base + 8352 * l.item-index;
}
