-- What an oracle answers that was given draws.
use Rattle.std.specs.Prelude.{ℕ, zero, suc, ◌-◌, ◌^◌, List, [], ◌∷◌, nat_lt, if◌then◌else◌, Option, Some, None}

-- so many answers: the given draws in their order, and zeros once they are used up
abbrev pub first_answers : ℕ → List ℕ → List ℕ
first_answers zero draws = []
first_answers (suc n) [] = 0 ∷ first_answers n []
first_answers (suc n) (d ∷ ds) = d ∷ first_answers n ds

-- it tells them as long as their count is exact
abbrev pub answers_told : ℕ → List ℕ → Option (List ℕ)
answers_told count draws = if nat_lt count (2 ^ 64 - 1) then Some (first_answers count draws) else None
