-- The laws that the layout of a heap keeps.
use Rattle.std.specs.Prelude.{◌≡◌, ℕ, ◌*◌, ◌<◌, ◌≤◌, List, Some, ◌↔◌}
use Rattle.ken_model.specs.declared.facts.TheConstants.{PAGE, MAX_PAGES}
use Rattle.ken_model.specs.declared.values.Value.{Value}
use Rattle.ken_model.specs.Network.{empty_heap}
use Rattle.ken_model.specs.Layout.{StandsFor, first_heap}
use Rattle.ken_model.specs.Reading.{read_value}
use Rattle.ken_model.specs.Broken.{BreaksAt}

-- bytes stand for one value at most
abbrev pub StandsForOne : Type 0
StandsForOne = (bytes : List ℕ) (v w : Value) → StandsFor bytes v → StandsFor bytes w → v ≡ w

-- what is read from bytes is what they stand for
abbrev pub ReadsWhatStands : Type 0
ReadsWhatStands = (bytes : List ℕ) (v : Value) → (read_value bytes ≡ Some v) ↔ StandsFor bytes v

-- the first heap stands for the empty one
abbrev pub FirstIsEmpty : Type 0
FirstIsEmpty = (pages : ℕ) → 0 < pages → pages ≤ MAX_PAGES → StandsFor (first_heap pages) (empty_heap (PAGE * pages))

-- bytes that are wrong somewhere stand for no value, and are wrong first at one place
abbrev pub BreaksAtOnePlace : Type 0
BreaksAtOnePlace = (bytes : List ℕ) (place : ℕ) → BreaksAt bytes place → ((v : Value) → StandsFor bytes v → ⊥) × ((other : ℕ) → BreaksAt bytes other → other ≡ place)
