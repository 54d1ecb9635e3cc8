-- A disk that breaks.
use Rattle.std.specs.Prelude.{◌≡◌, Bool, true, Result, IsErr, IsErrOf}
use Rattle.ken_disk.specs.declared.faults.DiskFault.{DiskFault}
use Rattle.ken_disk.specs.declared.faults.DiskFault.TheVariants.{Failed}

-- a write or a sync with its answer: one that fails breaks the disk, and a broken disk stays so and answers no Ok
pub record Breaks {T : Type 0} (result : Result T DiskFault) (old new : Bool) : Type 0 where
  pub failed : IsErrOf result Failed → new ≡ true
  pub refused : old ≡ true → IsErr result
  pub stays : old ≡ true → new ≡ true
