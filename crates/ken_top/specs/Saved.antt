-- What `save` writes, and what its world's files hold then beside what it keeps.
use Rattle.std.specs.Prelude.{◌≡◌, ◌⊎◌, ℕ, ◌<◌, List, [], true, Option, ⊤}
use Rattle.std.specs.Io.KnownBytes.{Appends}
use Rattle.ken_disk.specs.Causes.{Rose}
use Rattle.ken_files.specs.Copies.{HasSpoilt}
use Rattle.ken_files.specs.Filing.{FileViews, Filing, KeepsRoom, path_of}
use Rattle.ken_store.specs.declared.disks.Disks.{Disks}
use Rattle.ken_drive.specs.Driven.{Views}
use Rattle.ken_drive.specs.Saving.{AreSaved, HasFailedThere}
use Rattle.ken_drive.specs.Worlds.{HasKeptNothing}
use Rattle.ken_top.specs.Headline.{AreTold, IsFront, IsRefusal, Wrote}
use Rattle.ken_top.specs.Programs.{Program}
use Rattle.ken_top.specs.declared.status.Status.{Status}
use Rattle.ken_top.specs.declared.status.Status.TheVariants as status

-- a report was written, or a front of it
abbrev pub IsWritten : Status → Type 0
IsWritten status.Settled = ⊤
IsWritten status.Cut = ⊤
IsWritten status.Write = ⊤
IsWritten _ = ⊥

-- there was nothing to save
abbrev pub HasNoRun : Status → Type 0
HasNoRun status.Usage = ⊤
HasNoRun (status.Script rule index) = ⊤
HasNoRun status.Read = ⊤
HasNoRun (status.Down v) = ⊤
HasNoRun _ = ⊥

-- a file wasn't opened, or it or its disk failed
abbrev pub IsNotOpened : Status → Type 0
IsNotOpened (status.Open v disk) = ⊤
IsNotOpened (status.Device v disk) = ⊤
IsNotOpened _ = ⊥

module _ {D O U F : Type 0} (program : Program) (made : ℕ → ℕ) (views : Views D O U) (files : FileViews F) (prefix : List ℕ)
    (old new : Filing F) (kept : ℕ → Option (Disks D × O × U)) where
  -- disk `disk` of node v was not saved: a call of its file failed, or one of the disk that is kept; where it was the file, the
  -- devices of a run that has ended are kept, whose report isn't out
  abbrev pub IsNotSaved : List ℕ → ℕ → ℕ → Type 0
  IsNotSaved b v disk =
      (IsFront program made views kept b [] × (files.tells ≡ true → HasSpoilt files (path_of prefix v disk) new))
      ⊎ HasFailedThere views files prefix old new kept v disk

  -- what each status says of the bytes that were read and written: that of a run, but where a disk was not saved
  abbrev pub WroteSaving : List ℕ → List ℕ → Status → Type 0
  WroteSaving b w (status.Open v disk) =
      (w ≡ []) × (disk < 3) × IsFront program made views kept b [] × Rose old.failures new.failures
  WroteSaving b w (status.Device v disk) = (w ≡ []) × (disk < 3) × IsNotSaved b v disk
  WroteSaving b w answer = Wrote program made views kept b w answer

  -- a script was read and run, its disks saved, and then its report written: where it is out, or a front of it, a copy of each disk
  -- that is kept stands under its path; where there was no run to save, no file was touched
  pub record RanAndSaved (left took_old took_new : Option (List ℕ)) (answer : Status) : Type 0 where
    pub read : List ℕ
    pub written : List ℕ
    pub told : AreTold left read
    pub out : Appends took_old took_new written
    pub wrote : WroteSaving read written answer
    pub saved : IsWritten answer → files.tells ≡ true → AreSaved views files prefix old new kept
    pub untouched : HasNoRun answer → new ≡ old
    pub rooms : KeepsRoom old new

  -- ---- on the way to it

  -- why there is no report to write: there is no run, or a disk was not saved, or memory was short for saving
  abbrev pub IsUnsaved : Option (List ℕ) → Status → Type 0
  IsUnsaved left (status.Open v disk) =
      (b : List ℕ) × AreTold left b × (disk < 3) × IsFront program made views kept b [] × Rose old.failures new.failures
  IsUnsaved left (status.Device v disk) = (b : List ℕ) × AreTold left b × (disk < 3) × IsNotSaved b v disk
  IsUnsaved left status.Memory = HasKeptNothing kept ⊎ ((b : List ℕ) × AreTold left b × IsFront program made views kept b [])
  IsUnsaved left answer = IsRefusal program made views kept left answer × (new ≡ old)
