-- Bytes, and ranges of their places.
use Rattle.std.specs.Prelude.{ℕ, ◌+◌, ◌<◌, ◌≤◌, ◌⊎◌, max, List, [], ◌∷◌, ◌++◌, length, take, drop, get_or}

-- each of these numbers is a byte
abbrev pub IsBytes : List ℕ → Type 0
IsBytes bytes = (place : ℕ) → get_or bytes place 0 < 256

-- the old bytes with others over them from a place on
abbrev pub overwrite : ℕ → List ℕ → List ℕ → List ℕ
overwrite at bytes old = take at old ++ (bytes ++ drop (at + length bytes) old)

-- a place is in one of some ranges, each a start and a length
abbrev pub IsIn : ℕ → List (ℕ × ℕ) → Type 0
IsIn place [] = ⊥
IsIn place (range ∷ ranges) = ((range.0 ≤ place) × (place < range.0 + range.1)) ⊎ IsIn place ranges

-- the furthest end of these ranges, or the given end where none goes further
abbrev pub furthest : ℕ → List (ℕ × ℕ) → ℕ
furthest end [] = end
furthest end (range ∷ ranges) = max (range.0 + range.1) (furthest end ranges)
