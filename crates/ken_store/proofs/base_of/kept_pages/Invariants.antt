use Rattle.std.proofs.Common.{◌≡◌, ℕ, map, slice_index_or, Option, None, option_map}
use Rattle.std.specs.List.{flat_map, range_with_len}
use Rattle.ken_cover.specs.declared.layers.Change.{Change}
use Rattle.ken_cover.specs.Sides.{base_change}
use Rattle.ken_store.specs.Turnovers.{page_in, turn_in}
use Rattle.ken_store.proofs.base_of.kept_pages.Given as goal

abbrev pub invariant-loop-page : goal.invariant-loop-page
invariant-loop-page l = record {
  pages : (f : ℕ → Option Change) → ((p : ℕ) → slice_index_or l.last p None ≡ option_map turn_in (f p)) → l.kept.pages.items ≡ map page_in (flat_map (λ p. base_change l.settled l.objects.bytes p (f p)) (range_with_len 0 l.page));
  turns : (f : ℕ → Option Change) → ((p : ℕ) → slice_index_or l.last p None ≡ option_map turn_in (f p)) → l.kept.turns.items ≡ map turn_in (flat_map (λ p. base_change l.settled l.objects.bytes p (f p)) (range_with_len 0 l.page));
}
