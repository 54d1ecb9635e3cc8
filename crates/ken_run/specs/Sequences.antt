-- Sequences of numbers.
use Rattle.std.specs.Prelude.{ℕ, ◌+◌, List, [], ◌∷◌, nat_lt, if◌then◌else◌}

-- the first are among the second, in their order
pub data IsSubsequence : List ℕ → List ℕ → Type 0 where
  ended : IsSubsequence [] []
  kept : {x : ℕ} {xs ys : List ℕ} → IsSubsequence xs ys → IsSubsequence (x ∷ xs) (x ∷ ys)
  left_out : {y : ℕ} {xs ys : List ℕ} → IsSubsequence xs ys → IsSubsequence xs (y ∷ ys)

-- how often a number isn't greater than the one before it; this one is before the first
abbrev pub descents : ℕ → List ℕ → ℕ
descents before [] = 0
descents before (x ∷ xs) = (if nat_lt before x then 0 else 1) + descents x xs
