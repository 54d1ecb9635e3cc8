-- Why a call answers that something failed: the object that it was handed counted a fault in the call.
use Rattle.std.specs.Prelude.{◌≡◌, ℕ, ◌+◌, ◌-◌, ◌^◌, ◌≤◌, min, Result, OnOk, OnErr, IsErrOf}
use Rattle.ken_io.specs.declared.faults.ReadFault.{ReadFault}
use Rattle.ken_io.specs.declared.faults.ReadFault.TheVariants.{Failed, Memory}

-- a count of faults has risen; one that stands at its last value counts as risen
abbrev pub Rose : ℕ → ℕ → Type 0
Rose before now = min (before + 1) (2 ^ 64 - 1) ≤ now

-- a call whose only error is that the object failed
pub record HasCause {T E : Type 0} (before now : ℕ) (result : Result T E) : Type 0 where
  pub later : before ≤ now
  pub failed : OnErr result (Rose before now)
  -- no fault is passed over
  pub passed : OnOk result (now ≡ before)

-- a call that may also want memory
pub record HasReadCause {T : Type 0} (before now : ℕ) (result : Result T ReadFault) : Type 0 where
  pub later : before ≤ now
  pub failed : IsErrOf result Failed → Rose before now
  pub passed : OnOk result (now ≡ before)
  pub memory : IsErrOf result Memory → now ≡ before
