-- Why a call of a disk answers that it failed: the disk counted a fault in the call.
use Rattle.std.specs.Prelude.{◌≡◌, ℕ, ◌+◌, ◌-◌, ◌^◌, ◌≤◌, min, Result, Ok, Err}
use Rattle.ken_disk.specs.declared.faults.DiskFault.{DiskFault}
use Rattle.ken_disk.specs.declared.faults.DiskFault.TheVariants.{Failed, Memory}

-- a count rises by one, and stands still at its last value
abbrev pub risen : ℕ → ℕ
risen n = min (n + 1) (2 ^ 64 - 1)

-- a count of faults has risen; one that stands at its last value counts as risen
abbrev pub Rose : ℕ → ℕ → Type 0
Rose before now = risen before ≤ now

-- the count never falls, and rises only in a call that answers that the disk failed
abbrev pub HasCause : {T : Type 0} → ℕ → ℕ → Result T DiskFault → Type 0
HasCause before now (Ok _) = now ≡ before
HasCause before now (Err Memory) = now ≡ before
HasCause before now (Err Failed) = (before ≤ now) × Rose before now
