-- The record of a turn, by its number, its effects and the pages that it changed.
use Rattle.std.specs.Prelude.{ℕ, List, map}
use Rattle.std.specs.declared.sync.Arc.{Arc}
use Rattle.std.specs.Arc.{arc_value}
use Rattle.ken_record.specs.declared.effects.Effects.{Effects}
use Rattle.ken_record.specs.declared.page.Page.{Page}
use Rattle.ken_record.specs.declared.record.Record.{Record}

-- a frame that is shared, with its number, as a page
abbrev pub as_page : {Z : Type 0} → ℕ × Arc (List ℕ) Z → Page
as_page e = record { page = e.0; bytes = arc_value e.1 }

abbrev pub turn_pages : {Z : Type 0} → List (ℕ × Arc (List ℕ) Z) → List Page
turn_pages es = map as_page es

abbrev pub turn_record : ℕ → Effects → List Page → Record
turn_record turn e pages = record { turn = turn; stamp = e.stamp; from = e.from; number = e.number; draws = e.draws; sends = e.sends; outs = e.outs; pages = pages }
