-- Why an outlet answers that it failed: it counted a fault in the call.
use Rattle.std.specs.Prelude.{◌≡◌, ℕ, ◌+◌, ◌-◌, ◌^◌, ◌≤◌, min, Result, Ok, Err}
use Rattle.ken_ship.specs.declared.faults.OutFault.{OutFault}
use Rattle.ken_ship.specs.declared.faults.OutFault.TheVariants.{Failed, Memory}

-- a count rises by one, and stands still at its last value
abbrev pub risen : ℕ → ℕ
risen n = min (n + 1) (2 ^ 64 - 1)

-- a count has risen; one that stands at its last value counts as risen
abbrev pub Rose : ℕ → ℕ → Type 0
Rose before now = risen before ≤ now

-- a count of faults never falls, and rises only in a call that answers that the outlet failed
abbrev pub HasCause : {T : Type 0} → ℕ → ℕ → Result T OutFault → Type 0
HasCause before now (Ok _) = now ≡ before
HasCause before now (Err Memory) = now ≡ before
HasCause before now (Err Failed) = (before ≤ now) × Rose before now
