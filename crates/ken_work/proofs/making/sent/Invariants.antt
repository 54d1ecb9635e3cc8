use Rattle.std.proofs.Common.{◌≡◌, ℕ, ◌<◌, length}
use Rattle.std.specs.Prelude.{slice_index}
use Rattle.ken_work.proofs.making.sent.Given as goal

abbrev pub invariant-loop-node : goal.invariant-loop-node
invariant-loop-node g l = record {
  width : length l.sent ≡ 8;
  same : (k : ℕ) → k < l.node → slice_index l.sent k ≡ slice_index l.side.numbers.sent k;
}
