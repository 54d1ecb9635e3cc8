-- A file can't be opened.
use Rattle.std.proofs.Common.{◌≡◌, ℕ, ◌<◌, [], Err, arith}
use Rattle.ken_files.specs.declared.faults.OpenFault.{OpenFault}
use Rattle.ken_files.specs.declared.faults.OpenFault.TheVariants.{Failed, Memory}
use Rattle.ken_files.specs.Filing.{FileViews, Filing, HasOpenCause}
use Rattle.ken_dump.specs.declared.opening.Paths.{Paths}
use Rattle.ken_dump.specs.Openings.{OpensBy, of_open}
use Rattle.ken_dump.specs.Out.{AreOut}

-- nothing is out then, and a failed opening was counted
pub OpensBy-refused : {F : Type 0} {views : FileViews F} (paths : Paths) {old new : Filing F} (disk : ℕ) (fault : OpenFault)
    {before now : ℕ} → disk < 3 → HasOpenCause {T = F} before now (Err fault) → before ≡ old.failures → new.failures ≡ now
    → AreOut views [] old new → OpensBy views paths old new (Err (of_open disk fault))
OpensBy-refused paths disk Failed few cause before_is now_is out = (few, out, omega arith, omega arith)
OpensBy-refused paths disk Memory few cause before_is now_is out = (out, omega arith)
