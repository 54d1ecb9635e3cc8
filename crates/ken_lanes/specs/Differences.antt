-- Where two lists of bytes differ.
use Rattle.std.specs.Prelude.{◌≡◌, ℕ, suc, ◌≤◌, List, [], ◌∷◌, length, take, ◌==◌, if◌then◌else◌, Option, Some, None, option_map}

-- the place of the first byte that differs, which is where the shorter list ends if not before
unfoldable pub first_difference : List ℕ → List ℕ → Option ℕ
first_difference [] [] = None
first_difference [] (y ∷ ys) = Some 0
first_difference (x ∷ xs) [] = Some 0
first_difference (x ∷ xs) (y ∷ ys) = if x == y then option_map suc (first_difference xs ys) else Some 0

-- both have so many bytes, and the same ones
pub record Agree (n : ℕ) (xs ys : List ℕ) : Type 0 where
  pub first : n ≤ length xs
  pub second : n ≤ length ys
  pub same : take n xs ≡ take n ys
