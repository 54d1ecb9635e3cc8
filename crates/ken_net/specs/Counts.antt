-- Counts of calls.
use Rattle.std.specs.Prelude.{◌≡◌, ℕ, ◌+◌, ◌-◌, ◌^◌, ◌≤◌, ◌==◌, min, if◌then◌else◌, List, [], ◌∷◌, Option, Some, None}
use Rattle.ken_net.specs.Puts.{Put}

-- a count rises by one, and stands still at its last value
abbrev pub risen : ℕ → ℕ
risen n = min (n + 1) (2 ^ 64 - 1)

-- a count of takes that gave nothing, before and after one; one that stands at its last value counts as risen
abbrev pub Counted : {T : Type 0} → ℕ → ℕ → Option T → Type 0
Counted before now None = risen before ≤ now
Counted before now (Some _) = now ≡ before

-- a count of the puts for a node, after these
abbrev pub put_to : ℕ → List Put → ℕ → ℕ
put_to v [] n = n
put_to v (p ∷ ps) n = put_to v ps (if p.to == v then risen n else n)
