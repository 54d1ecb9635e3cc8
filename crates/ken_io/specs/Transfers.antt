-- What calls that read or write in several pieces have moved.
use Rattle.std.specs.Prelude.{◌≡◌, ℕ, ◌≤◌, List, ◌++◌, length, Option}
use Rattle.std.specs.Io.KnownBytes.{Appends, Consumes}

-- from old to new a source has given some bytes, at most so many
pub record TakesAtMost (most : ℕ) (old new : Option (List ℕ)) : Type 0 where
  pub taken : List ℕ
  pub given : Consumes old new taken
  pub few : length taken ≤ most

-- from old to new a sink has taken a front of these bytes
pub record AppendsFront (old new : Option (List ℕ)) (whole : List ℕ) : Type 0 where
  pub front : List ℕ
  pub rest : List ℕ
  pub parts : front ++ rest ≡ whole
  pub out : Appends old new front
