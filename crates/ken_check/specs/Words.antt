-- What the words of a turn line name.
use Rattle.std.specs.Prelude.{◌≡◌, ℕ, ◌<◌, ◌^◌, List, Option, Some, decimal, slice_get}
use Rattle.std.specs.List.{AllByRecursion}
use Rattle.ken_model.specs.declared.messages.Step.{Step}
use Rattle.ken_model.specs.Report.{draws_word, sender_word}
use Rattle.ken_model.specs.Spelling.{IsWord, parts_at}

-- a word that spells draws is read as these
abbrev pub ReadsDraws : List ℕ → Option (List ℕ) → Type 0
ReadsDraws word found = (ds : List ℕ) → AllByRecursion IsWord ds → word ≡ draws_word ds → found ≡ Some ds

-- a line's words are those of a turn of this step, whose node and sender have 8 bits
pub record HasStepWords (text : List ℕ) (s : Step) : Type 0 where
  pub small : (s.node < 2 ^ 8) × (s.from < 2 ^ 8)
  pub words : AllByRecursion IsWord s.draws
  pub node : slice_get (parts_at 32 text) 2 ≡ Some (decimal s.node)
  pub from : slice_get (parts_at 32 text) 3 ≡ Some (sender_word s.from)
  pub draws : slice_get (parts_at 32 text) 5 ≡ Some (draws_word s.draws)
