-- What an oracle tells of its answers, and whose it is.
use Rattle.std.specs.Prelude.{◌≡◌, ℕ, ◌+◌, ◌-◌, ◌^◌, ◌≤◌, List, ◌++◌, length, Bool, true, false, Option, Some, None, ⊤}
use Rattle.ken_app.specs.declared.turn.TheConstants.{MAX_DRAWS}

-- whose an oracle is: the node that draws from it, and the seed of the run
pub record Origin : Type 0 where
  pub node : ℕ
  pub seed : ℕ

-- what oracles of a type tell: the readings and the words that one has answered, each in order, all its answers in order, and its origin.
-- Where they always tell, a world gives out none that doesn't tell its readings and words
pub record Telling (O : Type 0) : Type 0 where
  pub clocks : O → Option (List ℕ)
  pub words : O → Option (List ℕ)
  pub answers : O → Option (List ℕ)
  pub origin : O → Option Origin
  pub always : Bool

-- the answers that are told are followed by some more. One that has told 2^64 - 2 may stop telling, for its count is at its
-- end, and one that doesn't tell won't tell later
abbrev pub Answers : Option (List ℕ) → Option (List ℕ) → List ℕ → Type 0
Answers (Some xs) (Some ys) more = ys ≡ xs ++ more
Answers (Some xs) None more = 2 ^ 64 - 1 ≤ length xs + length more
Answers None (Some ys) more = ⊥
Answers None None more = ⊤

-- some more were given, or none, and no more than a turn may draw
pub record HasAnswered (before now : Option (List ℕ)) : Type 0 where
  pub more : List ℕ
  pub few : length more ≤ MAX_DRAWS
  pub answers : Answers before now more

-- just these were given, as far as they are told; and they are told where they always are
abbrev pub HasTold : Bool → Option (List ℕ) → List ℕ → Type 0
HasTold always (Some told) all = told ≡ all
HasTold true None all = ⊥
HasTold false None all = ⊤
