use Rattle.std.proofs.Common.{◌≡◌, ◌*◌, ◌≤◌, take, length}
use Rattle.std.specs.List.{flat_map}
use Rattle.ken_record.specs.Spelling.{out}
use Rattle.ken_store.specs.Turnovers.{outs_above}
use Rattle.ken_store.proofs.base_size.outs_sum.Given as goal

abbrev pub invariant-loop-out : goal.invariant-loop-out
invariant-loop-out l = record {
  size : l.size ≡ length (flat_map out (outs_above l.emitted (take l.out-index l.outs)));
  most : l.size ≤ 522 * l.out-index;
}
