use Rattle.std.proofs.Common.{◌≡◌, ℕ, ◌||◌, take, length}
use Rattle.ken_cover.specs.Overlay.{among, numbers}
use Rattle.ken_cover.specs.Sides.{pages_of}
use Rattle.ken_core.specs.Sets.{has}
use Rattle.ken_core.proofs.marks.mark_layers.Given as goal

abbrev pub invariant-loop-layer : goal.invariant-loop-layer
invariant-loop-layer l = record {
  width : length l.set ≡ length l.initial.set;
  all : (k : ℕ) → has l.set k ≡ (among (numbers (pages_of (take l.layer-index l.layers))) k || has l.initial.set k);
}
