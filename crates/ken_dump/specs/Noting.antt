-- A file that notes whether a call of it failed.
use Rattle.std.specs.Prelude.{◌≡◌, ℕ, ◌<◌, Bool, true, false, Result, Ok, Err}
use Rattle.ken_disk.specs.declared.faults.DiskFault.{DiskFault}
use Rattle.ken_disk.specs.declared.faults.DiskFault.TheVariants.{Failed, Memory}

-- the note after an answer
abbrev pub note_after : {T : Type 0} → Bool → Result T DiskFault → Bool
note_after failed (Ok _) = failed
note_after failed (Err Failed) = true
note_after failed (Err Memory) = failed

-- a note stands just where a fault was counted
pub record IsNote (failed : Bool) (faults : ℕ) : Type 0 where
  pub some : failed ≡ true → 0 < faults
  pub none : failed ≡ false → faults ≡ 0
