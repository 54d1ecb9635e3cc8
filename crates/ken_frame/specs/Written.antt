-- Bytes with others written over them.
use Rattle.std.specs.Prelude.{ℕ, ◌+◌, List, ◌++◌, length, take, drop}

-- a list with other bytes from a place on
abbrev pub written : List ℕ → ℕ → List ℕ → List ℕ
written xs at ys = take at xs ++ (ys ++ drop (at + length ys) xs)
