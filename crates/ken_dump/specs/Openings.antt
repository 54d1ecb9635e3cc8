-- What opening the files of a node's disks answers.
use Rattle.std.specs.Prelude.{◌≡◌, ℕ, ◌<◌, ◌≤◌, [], Result, Ok, Err}
use Rattle.ken_disk.specs.Causes.{Rose}
use Rattle.ken_files.specs.declared.faults.OpenFault.{OpenFault}
use Rattle.ken_files.specs.declared.faults.OpenFault.TheVariants as opening
use Rattle.ken_files.specs.Filing.{FileViews, Filing}
use Rattle.ken_dump.specs.declared.faults.DumpFault.{DumpFault}
use Rattle.ken_dump.specs.declared.faults.DumpFault.TheVariants.{Open, Device, Damaged, Memory}
use Rattle.ken_store.specs.declared.disks.Disks.{Disks}
use Rattle.ken_dump.specs.declared.opening.Paths.{Paths}
use Rattle.ken_dump.specs.Out.{AreOpened, AreOut, files_of}

-- the fault of an opening, of this disk
abbrev pub of_open : ℕ → OpenFault → DumpFault
of_open disk opening.Failed = Open disk
of_open disk opening.Memory = Memory

-- all three are out, or all were put back that were opened
abbrev pub OpensBy : {F : Type 0} → FileViews F → Paths → Filing F → Filing F → Result (Disks F) DumpFault → Type 0
OpensBy views paths old new (Ok disks) =
    AreOpened views disks × AreOut views (files_of paths disks) old new × (new.failures ≡ old.failures)
OpensBy views paths old new (Err (Open disk)) =
    (disk < 3) × AreOut views [] old new × (old.failures ≤ new.failures) × Rose old.failures new.failures
OpensBy views paths old new (Err (Device disk)) = ⊥
OpensBy views paths old new (Err (Damaged disk place)) = ⊥
OpensBy views paths old new (Err Memory) = AreOut views [] old new × (new.failures ≡ old.failures)
