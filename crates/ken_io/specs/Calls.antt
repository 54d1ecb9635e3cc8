-- Which calls of an object in memory fail.
use Rattle.std.specs.Prelude.{ℕ, ◌+◌, ◌-◌, ◌^◌, min, List, Bool, ◌==◌}
use Rattle.std.specs.List.{list_any}

-- the numbers of the calls that fail, how many calls were made, and how many of them failed
pub record CallCounts : Type 0 where
  pub fails : List ℕ
  pub made : ℕ
  pub faults : ℕ

-- before the first call
abbrev pub no_calls : List ℕ → CallCounts
no_calls fails = record { fails = fails; made = 0; faults = 0 }

-- a count rises by one, and stands still at its last value
abbrev pub risen : ℕ → ℕ
risen n = min (n + 1) (2 ^ 64 - 1)

-- whether the next call is one of those that fail; calls are numbered from 1
abbrev pub fails_next : CallCounts → Bool
fails_next c = list_any (λ n. n == risen c.made) c.fails

-- one call more was made
abbrev pub after_call : CallCounts → CallCounts
after_call c = record c { made = risen c.made }

-- a call failed
abbrev pub after_fault : CallCounts → CallCounts
after_fault c = record c { faults = risen c.faults }
