-- What a run leaves whose disks are saved: files that read as they do, beside what its world keeps.
use Rattle.std.specs.Prelude.{◌≡◌, ◌⊎◌, ℕ, zero, suc, ◌<◌, ◌≤◌, List, true, Option, Some, Result, Ok, Err, IfErr, ⊤}
use Rattle.ken_disk.specs.Causes.{Rose}
use Rattle.ken_files.specs.Copies.{HasSpoilt, IsSaved}
use Rattle.ken_files.specs.Filing.{FileViews, Filing, KeepsRoom, path_of}
use Rattle.ken_model.specs.declared.reports.Lines.{Lines}
use Rattle.ken_model.specs.Handler.{Handler}
use Rattle.ken_script.specs.declared.scripts.Script.{Script}
use Rattle.ken_store.specs.declared.disks.Disks.{Disks}
use Rattle.ken_run.specs.declared.faults.RunFault.TheVariants as run
use Rattle.ken_drive.specs.declared.saving.SavingFault.{SavingFault}
use Rattle.ken_drive.specs.declared.saving.SavingFault.TheVariants.{Run, Open, Device}
use Rattle.ken_drive.specs.Driven.{DrivesBy, HasDriven, Views}
use Rattle.ken_drive.specs.Sparing.{IsLetBy}
use Rattle.ken_drive.specs.Worlds.{HasKeptNothing}

-- a node's disk by its number: its log, its image and its second log are 0, 1 and 2
abbrev pub disk_at : {D : Type 0} → ℕ → Disks D → D
disk_at zero disks = disks.log
disk_at (suc zero) disks = disks.image
disk_at (suc (suc _)) disks = disks.second

-- a node that is down is one that the script lets go down
abbrev pub IsLetSaving : Script → SavingFault → Type 0
IsLetSaving script (Run fault) = IsLetBy script fault
IsLetSaving script (Open v disk) = ⊤
IsLetSaving script (Device v disk) = ⊤

module _ {D O U F : Type 0} (views : Views D O U) (files : FileViews F) (prefix : List ℕ) (old new : Filing F)
    (kept : ℕ → Option (Disks D × O × U)) where
  -- a copy of each disk of node v stands under its path
  abbrev pub IsSavedNode : ℕ → Disks D → Type 0
  IsSavedNode v disks = (disk : ℕ) → disk < 3 → IsSaved files (path_of prefix v disk) (views.told (disk_at disk disks)) new

  -- so of each node whose devices are kept
  abbrev pub AreSaved : Type 0
  AreSaved = (v : ℕ) (disks : Disks D) (luck : O) (out : U) → kept v ≡ Some (disks, luck, out) → IsSavedNode v disks

  -- a call of a disk of node v that is kept has failed
  pub record HasFailedThere (v disk : ℕ) : Type 0 where
    pub disks : Disks D
    pub luck : O
    pub out : U
    pub is : kept v ≡ Some (disks, luck, out)
    pub count : Rose 0 (views.faults (disk_at disk disks))

  module _ (h : Handler) (script : Script) (made : ℕ) where
    -- a run has ended, and its devices are kept
    pub record HasEnded : Type 0 where
      pub lines : Lines
      pub driven : HasDriven views h script made kept lines

    -- disk `disk` of node v was not saved: its file failed, or the disk itself did
    pub data IsNotSaved (v disk : ℕ) : Type 0 where
      by_file : HasEnded → (files.tells ≡ true → HasSpoilt files (path_of prefix v disk) new) → IsNotSaved v disk
      by_disk : HasFailedThere v disk → IsNotSaved v disk

    -- by the answer
    abbrev pub SavesBy : Result Lines SavingFault → Type 0
    SavesBy (Ok l) = HasDriven views h script made kept l × (files.tells ≡ true → AreSaved)
    SavesBy (Err (Run run.Memory)) = HasKeptNothing kept ⊎ HasEnded
    SavesBy (Err (Run fault)) = DrivesBy views h script made kept (Err fault) × (new ≡ old)
    SavesBy (Err (Open v disk)) = (v < script.facts.nodes) × (disk < 3) × HasEnded × Rose old.failures new.failures
    SavesBy (Err (Device v disk)) = (v < script.facts.nodes) × (disk < 3) × IsNotSaved v disk

    -- so after a run whose disks were to be saved, whose error the script lets come, in a scripted world
    pub record SavesRun (result : Result Lines SavingFault) : Type 0 where
      pub saves : SavesBy result
      pub lets : views.scripted ≡ true → IfErr result (IsLetSaving script)
      pub no_failed_opening : ((v disk : ℕ) → result ≡ Err (Open v disk) → ⊥) → new.failures ≡ old.failures
      pub rise : old.failures ≤ new.failures
      pub rooms : KeepsRoom old new
