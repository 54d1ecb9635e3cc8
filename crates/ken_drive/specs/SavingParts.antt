-- What the saving of some of a run's disks leaves, by its answer.
use Rattle.std.specs.Prelude.{◌≡◌, ◌≢◌, ◌⊎◌, ℕ, ◌<◌, ◌≤◌, List, length, slice_index_or, true, Option, Some, Result, Ok, Err}
use Rattle.ken_disk.specs.Causes.{Rose}
use Rattle.ken_files.specs.declared.faults.SaveFault.{SaveFault}
use Rattle.ken_files.specs.declared.faults.SaveFault.TheVariants as save
use Rattle.ken_files.specs.Copies.{HasSpoilt, IsAsBefore, IsSaved}
use Rattle.ken_files.specs.Filing.{FileViews, Filing, KeepsRoom, path_of}
use Rattle.ken_model.specs.declared.reports.Lines.{Lines}
use Rattle.ken_store.specs.declared.disks.Disks.{Disks}
use Rattle.ken_node.specs.declared.watched.Watched.{Watched}
use Rattle.ken_node.specs.Stages.{HasDisks}
use Rattle.ken_run.specs.declared.faults.RunFault.{RunFault}
use Rattle.ken_run.specs.declared.faults.RunFault.TheVariants.{Damaged, Down, Memory}
use Rattle.ken_run.specs.declared.run.Run.{Run}
use Rattle.ken_run.specs.declared.station.Station.{Station}
use Rattle.ken_drive.specs.declared.saving.SavingFault.{SavingFault}
use Rattle.ken_drive.specs.declared.saving.SavingFault.TheVariants as saving
use Rattle.ken_drive.specs.Driven.{Views}
use Rattle.ken_drive.specs.Finishing.{WereKept, unwatched}
use Rattle.ken_drive.specs.Saving.{HasFailedThere, IsSavedNode, disk_at}

-- ---- any of them

-- why a run was not saved whose disk was not
abbrev pub fault_of : ℕ → ℕ → SaveFault → SavingFault
fault_of v disk save.Open = saving.Open v disk
fault_of v disk save.Kept = saving.Device v disk
fault_of v disk save.File = saving.Device v disk
fault_of v disk save.Memory = saving.Run Memory

-- what stands under all paths but those of these disks is as it was
abbrev pub OthersStand : {F : Type 0} → List ℕ → (ℕ → ℕ → Type 0) → Filing F → Filing F → Type 0
OthersStand prefix Among old new =
    (p : List ℕ) → ((v disk : ℕ) → Among v disk → p ≢ path_of prefix v disk)
    → (new.put p ≡ old.put p) × (new.bytes p ≡ old.bytes p)

-- `Among` says which disks these are, by their nodes and numbers; `Same` is what holds where none of them failed, `Copied` where
-- all copies stand, and `Failed` of the one that failed
module _ {F : Type 0} (files : FileViews F) (prefix : List ℕ) (Among : ℕ → ℕ → Type 0) (Same Copied : Type 0)
    (Failed : ℕ → ℕ → Type 0) (old new : Filing F) where
  abbrev pub SavesSomeBy : Result (Unit {0}) SavingFault → Type 0
  SavesSomeBy (Ok x) = Same × (files.tells ≡ true → Copied)
  SavesSomeBy (Err (saving.Run Memory)) = Same
  SavesSomeBy (Err (saving.Run (Down v))) = ⊥
  SavesSomeBy (Err (saving.Run (Damaged v disk place))) = ⊥
  SavesSomeBy (Err (saving.Open v disk)) = Among v disk × Same × Rose old.failures new.failures
  SavesSomeBy (Err (saving.Device v disk)) =
      Among v disk × ((Same × (files.tells ≡ true → HasSpoilt files (path_of prefix v disk) new)) ⊎ Failed v disk)

  pub record SavesSome (result : Result (Unit {0}) SavingFault) : Type 0 where
    pub saves : SavesSomeBy result
    pub no_failed_opening : ((v disk : ℕ) → result ≡ Err (saving.Open v disk) → ⊥) → new.failures ≡ old.failures
    pub rise : old.failures ≤ new.failures
    pub rooms : KeepsRoom old new
    pub others : OthersStand prefix Among old new

-- ---- disks that were read

module _ {D O U : Type 0} (views : Views D O U) where
  -- disks of a node were read, and none of them failed
  pub record AreAsBefore (old new : Disks D) : Type 0 where
    pub log : IsAsBefore views.told views.faults views.fate old.log new.log
    pub image : IsAsBefore views.told views.faults views.fate old.image new.image
    pub second : IsAsBefore views.told views.faults views.fate old.second new.second

  -- the disks that a station's node has were read, and were kept with its oracle and its outlet
  pub record WasRead (s : Station D O U) (kept : Option (Disks D × O × U)) : Type 0 where
    pub disks : Disks (Watched D)
    pub has : HasDisks disks s.node.stage
    pub now : Disks D
    pub same : AreAsBefore (unwatched disks) now
    pub is : kept ≡ Some (now, s.luck, s.out)

  -- so of each station of a run, and nothing else was kept since
  pub record WereRead {A : Type 0} (r : Run D O U A) (old new : ℕ → Option (Disks D × O × U)) : Type 0 where
    pub each : (v : ℕ) (d : Station D O U) → v < length r.stations.items
        → WasRead (slice_index_or r.stations.items v d) (new v)
    pub others : (v : ℕ) → length r.stations.items ≤ v → new v ≡ old v

-- ---- one disk, those of a node, and those of a run

module _ {D O U F : Type 0} (views : Views D O U) (files : FileViews F) (prefix : List ℕ) where
  -- disk `which` of node v
  abbrev pub SavesDisk : ℕ → ℕ → D → D → Filing F → Filing F → Result (Unit {0}) SavingFault → Type 0
  SavesDisk v which before now old new result =
      SavesSome files prefix (λ u disk. (u ≡ v) × (disk ≡ which)) (IsAsBefore views.told views.faults views.fate before now)
      (IsSaved files (path_of prefix v which) (views.told now) new) (λ u disk. Rose 0 (views.faults now)) old new result

  -- the disks of node v
  abbrev pub SavesDisks : ℕ → Disks D → Disks D → Filing F → Filing F → Result (Unit {0}) SavingFault → Type 0
  SavesDisks v before now old new result =
      SavesSome files prefix (λ u disk. (u ≡ v) × (disk < 3)) (AreAsBefore views before now)
      ((disk : ℕ) → disk < 3 → IsSaved files (path_of prefix v disk) (views.told (disk_at disk now)) new)
      (λ u disk. Rose 0 (views.faults (disk_at disk now))) old new result

  -- a copy of each disk that is kept of node v stands
  abbrev pub IsCopied : Filing F → Filing F → (ℕ → Option (Disks D × O × U)) → ℕ → Type 0
  IsCopied old new kept v =
      (disks : Disks D) (luck : O) (out : U) → kept v ≡ Some (disks, luck, out)
      → IsSavedNode views files prefix old new kept v disks

  -- the disks of node v, a station's, which are kept then
  abbrev pub SavesStation : ℕ → Station D O U → (ℕ → Option (Disks D × O × U)) → Filing F → Filing F
      → Result (Unit {0}) SavingFault → Type 0
  SavesStation v s kept old new result =
      SavesSome files prefix (λ u disk. (u ≡ v) × (disk < 3)) (WasRead views s (kept v)) (IsCopied old new kept v)
      (HasFailedThere views files prefix old new kept) old new result

  module _ {A : Type 0} (r : Run D O U A) (before kept : ℕ → Option (Disks D × O × U)) where
    -- the disks of all stations of a run, which are kept then
    abbrev pub SavesStations : Filing F → Filing F → Result (Unit {0}) SavingFault → Type 0
    SavesStations old new result =
        SavesSome files prefix (λ u disk. (u < length r.stations.items) × (disk < 3)) (WereRead views r before kept)
        ((v : ℕ) → v < length r.stations.items → IsCopied old new kept v)
        (HasFailedThere views files prefix old new kept) old new result

    -- a run has answered so, and then its disks were saved, or its devices were given back
    abbrev pub EndsSavingBy : Result Lines RunFault → Filing F → Filing F → Result Lines SavingFault → Type 0
    EndsSavingBy (Ok l) old new (Ok lines) = (lines ≡ l) × SavesStations old new (Ok tt)
    EndsSavingBy (Ok l) old new (Err fault) = SavesStations old new (Err fault)
    EndsSavingBy (Err fault) old new result =
        (result ≡ Err (saving.Run fault)) × (new ≡ old) × ((fault ≡ Memory → ⊥) → WereKept r before kept)
        × (fault ≡ Memory → (v : ℕ) → kept v ≡ before v)
