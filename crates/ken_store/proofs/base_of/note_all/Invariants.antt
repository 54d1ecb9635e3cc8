use Rattle.std.proofs.Common.{◌≡◌, ℕ, ◌++◌, map, take, slice_index_or, None, option_map}
use Rattle.std.specs.Option.{option_or}
use Rattle.std.specs.List.{flat_map, zip}
use Rattle.ken_record.specs.declared.record.Record.{Record}
use Rattle.ken_cover.specs.Overlay.{newest_by}
use Rattle.ken_cover.specs.Sides.{changes_at}
use Rattle.ken_store.specs.Turning.{changed_in}
use Rattle.ken_store.specs.Turnovers.{page_in, turn_in}
use Rattle.ken_store.proofs.base_of.note_all.Given as goal

abbrev pub invariant-loop-item : goal.invariant-loop-item
invariant-loop-item l = (p : ℕ) → slice_index_or l.last p None ≡ option_or (option_map turn_in (newest_by page_in p (map changed_in (zip l.turns l.base) ++ flat_map (λ (r : Record). changes_at r.turn r.pages) (take l.item-index l.records)))) (slice_index_or l.fn.last p None)
