use Rattle.std.proofs.Common.{◌≡◌, ℕ, ◌≤◌, List, Option, None, option_map, slice_index_or, length}
use Rattle.std.specs.List.{flat_map, range_with_len}
use Rattle.ken_cover.specs.declared.layers.Change.{Change}
use Rattle.ken_cover.specs.Sides.{base_change}
use Rattle.ken_store.specs.Turnovers.{turn_in}
use Rattle.ken_store.proofs.base_size.count_kept.Given as goal

abbrev pub invariant-loop-page : goal.invariant-loop-page
invariant-loop-page l = record {
  count : (heap : List ℕ) (f : ℕ → Option Change) → ((p : ℕ) → slice_index_or l.last p None ≡ option_map turn_in (f p)) → l.count ≡ length (flat_map (λ p. base_change l.settled heap p (f p)) (range_with_len 0 l.page));
  most : l.count ≤ l.page;
}
