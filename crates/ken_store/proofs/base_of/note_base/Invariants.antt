use Rattle.std.proofs.Common.{◌≡◌, ℕ, map, take, slice_index_or, None, option_map}
use Rattle.std.specs.Option.{option_or}
use Rattle.std.specs.List.{zip}
use Rattle.ken_cover.specs.Overlay.{newest_by}
use Rattle.ken_store.specs.Turning.{changed_in}
use Rattle.ken_store.specs.Turnovers.{page_in, turn_in}
use Rattle.ken_store.proofs.base_of.note_base.Given as goal

abbrev pub invariant-loop-index : goal.invariant-loop-index
invariant-loop-index l = (p : ℕ) → slice_index_or l.last p None ≡ option_or (option_map turn_in (newest_by page_in p (take l.index (map changed_in (zip l.turns l.pages))))) (slice_index_or l.initial.last p None)
