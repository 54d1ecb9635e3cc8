-- A disk that is copied to a file.
use Rattle.std.specs.Prelude.{◌≡◌, ℕ, ◌+◌, ◌≤◌, List, take, true, Option, Some, Result, Ok, Err, OnOk, IsErrOf}
use Rattle.ken_disk.specs.declared.faults.DiskFault.TheVariants as disk
use Rattle.ken_disk.specs.Causes.{HasCause, Rose}
use Rattle.ken_disk.specs.Fates.{Fate, Suffers}
use Rattle.ken_disk.specs.Story.{Story, IsAtRest, Tells, Follows}
use Rattle.ken_disk.specs.declared.disk.TheConstants.{MAX_LEN}
use Rattle.ken_files.specs.declared.faults.CopyFault.{CopyFault}
use Rattle.ken_files.specs.declared.faults.CopyFault.TheVariants as copying
use Rattle.ken_files.specs.declared.faults.SaveFault.{SaveFault}
use Rattle.ken_files.specs.declared.faults.SaveFault.TheVariants as saving
use Rattle.ken_files.specs.Filing.{FileViews, Filing, IsSome, KeepsRoom, OthersStay}

-- what a file holds reads as a disk did, as far as a file goes, and is safe by a sync of its own
pub record IsCopy (disk file : Story) : Type 0 where
  pub same : file.now.seen ≡ take MAX_LEN disk.now.seen
  pub safe : IsAtRest file.now
  pub synced : 1 ≤ file.now.syncs

-- the file was synced once where the answer is Ok, and else never
abbrev pub IsSyncedBy : {T E : Type 0} → Result T E → Story → Story → Type 0
IsSyncedBy (Ok x) old new = new.now.syncs ≡ old.now.syncs + 1
IsSyncedBy (Err e) old new = new.now.syncs ≡ old.now.syncs

-- and a piece of it, never
abbrev pub IsNotSynced : Story → Story → Type 0
IsNotSynced old new = new.now.syncs ≡ old.now.syncs

-- a file reads as the first bytes of a disk
abbrev pub HasFront : ℕ → Option Story → Option Story → Type 0
HasFront count disk file = Tells disk (λ h. Tells file (λ f. f.now.seen ≡ take count h.now.seen))

module _ {D : Type 0} (told : D → Option Story) (faults : D → ℕ) (fate : D → Option Fate) where
  -- a disk was read, and did not fail
  pub record IsAsBefore (old new : D) : Type 0 where
    pub story : told new ≡ told old
    pub count : faults new ≡ faults old
    pub falls : fate new ≡ fate old

  -- a read of it failed: it holds what it held
  pub record HasFailed (old new : D) : Type 0 where
    pub story : told new ≡ told old
    pub count : HasCause {T = Unit {0}} (faults old) (faults new) (Err disk.Failed)
    pub falls : Follows (Suffers {T = Unit {0}} (Err disk.Failed)) (fate old) (fate new)

  -- by the answer of what copied it
  abbrev pub IsReadBy : {T : Type 0} → Result T CopyFault → D → D → Type 0
  IsReadBy (Ok x) old new = IsAsBefore old new
  IsReadBy (Err copying.Kept) old new = HasFailed old new
  IsReadBy (Err copying.File) old new = IsAsBefore old new
  IsReadBy (Err copying.Memory) old new = IsAsBefore old new

  -- by the answer of what saved it
  abbrev pub IsReadIn : {T : Type 0} → Result T SaveFault → D → D → Type 0
  IsReadIn (Ok x) old new = IsAsBefore old new
  IsReadIn (Err saving.Open) old new = IsAsBefore old new
  IsReadIn (Err saving.Kept) old new = HasFailed old new
  IsReadIn (Err saving.File) old new = IsAsBefore old new
  IsReadIn (Err saving.Memory) old new = IsAsBefore old new

-- under a path stands a copy of what a disk holds, where both are told
pub record IsSaved {F : Type 0} (views : FileViews F) (path : List ℕ) (disk : Option Story) (new : Filing F) : Type 0 where
  pub file : F
  pub put : new.put path ≡ Some file
  pub bytes : Tells disk (λ h. new.bytes path ≡ Some (take MAX_LEN h.now.seen))
  pub copy : Tells disk (λ h. Tells (views.told file) (IsCopy h))

-- under a path stands a file of which a call failed
pub record HasSpoilt {F : Type 0} (views : FileViews F) (path : List ℕ) (new : Filing F) : Type 0 where
  pub file : F
  pub put : new.put path ≡ Some file
  pub count : Rose 0 (views.faults file)

-- a disk was saved under a path, by the answer
pub record Saves {F : Type 0} (views : FileViews F) (path : List ℕ) (disk : Option Story) (old new : Filing F) (result : Result (Unit {0}) SaveFault) : Type 0 where
  pub saved : views.tells ≡ true → OnOk result (IsSaved views path disk new)
  pub spoilt : views.tells ≡ true → IsErrOf result saving.File → HasSpoilt views path new
  pub unfinished : views.tells ≡ true → IsErrOf result saving.Kept → IsSome (new.put path)
  pub opening : IsErrOf result saving.Open → Rose old.failures new.failures
  pub no_failed_opening : (IsErrOf result saving.Open → ⊥) → new.failures ≡ old.failures
  pub rise : old.failures ≤ new.failures
  pub rooms : KeepsRoom old new
  pub others : OthersStay path old new
