use Rattle.std.proofs.Common.{◌≡◌, ℕ, take, slice_index_or, None, option_map}
use Rattle.std.specs.Option.{option_or}
use Rattle.ken_cover.specs.declared.layers.Change.{Change}
use Rattle.ken_cover.specs.Overlay.{newest_by}
use Rattle.ken_core.proofs.bases.note_turns.Given as goal

abbrev pub invariant-loop-change : goal.invariant-loop-change
invariant-loop-change l = (p : ℕ) → slice_index_or l.last p None ≡ option_or (option_map (λ (c : Change). c.turn) (newest_by (λ (c : Change). c.page) p (take l.change-index l.changes))) (slice_index_or l.initial.last p None)
