use Rattle.std.proofs.Common.{◌≡◌, ℕ, take, slice_index_or, None, option_map}
use Rattle.std.specs.Option.{option_or}
use Rattle.ken_cover.specs.Overlay.{newest_by}
use Rattle.ken_cover.specs.Sides.{changes_at}
use Rattle.ken_store.specs.Turnovers.{page_in, turn_in}
use Rattle.ken_store.proofs.base_of.note_pages.Given as goal

abbrev pub invariant-loop-page : goal.invariant-loop-page
invariant-loop-page l = (p : ℕ) → slice_index_or l.last p None ≡ option_or (option_map turn_in (newest_by page_in p (take l.page-index (changes_at l.turn l.pages)))) (slice_index_or l.initial.last p None)
