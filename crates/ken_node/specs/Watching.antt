-- Which failures of a disk are noted.
use Rattle.std.specs.Prelude.{Bool, true, Result, Ok, Err}
use Rattle.ken_disk.specs.declared.faults.DiskFault.{DiskFault}
use Rattle.ken_disk.specs.declared.faults.DiskFault.TheVariants.{Failed, Memory}

-- the note after an answer of the disk
abbrev pub noted : {T : Type 0} → Result T DiskFault → Bool → Bool
noted (Ok x) before = before
noted (Err Failed) before = true
noted (Err Memory) before = before
