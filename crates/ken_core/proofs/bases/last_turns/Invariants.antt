use Rattle.std.proofs.Common.{◌≡◌, ℕ, take, length, slice_index_or, None, option_map}
use Rattle.ken_cover.specs.declared.layers.Change.{Change}
use Rattle.ken_cover.specs.Sides.{last_change}
use Rattle.ken_core.proofs.bases.last_turns.Given as goal

abbrev pub invariant-loop-layer : goal.invariant-loop-layer
invariant-loop-layer l = record {
  width : length l.last.items ≡ l.pages;
  turns : (p : ℕ) → slice_index_or l.last.items p None ≡ option_map (λ (c : Change). c.turn) (last_change p (take l.layer-index l.live));
}
