-- What a call that ran out of memory has appended.
use Rattle.std.specs.Prelude.{◌≡◌, ℕ, List, ◌++◌, take}

-- the bytes that were there before, and then a front of a spelling
pub record HasFront (old spelled new : List ℕ) : Type 0 where
  pub count : ℕ
  pub parts : new ≡ old ++ take count spelled
