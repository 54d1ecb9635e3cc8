-- How often the disks of a node's logs were synced with Ok, or failed: its first log takes three of these, and each turn two.
use Rattle.std.specs.Prelude.{◌≡◌, ℕ, ◌+◌, ◌^◌, ◌<◌, ◌≤◌, List, Option, Result, OnOk, IsErrOf}
use Rattle.ken_disk.specs.Fates.{Fate}
use Rattle.ken_disk.specs.Story.{Story, Follows, IsAtRest, IsImage, Tells}
use Rattle.ken_record.specs.declared.base.Base.{Base}
use Rattle.ken_record.specs.declared.header.Header.{Header}
use Rattle.ken_record.specs.declared.record.Record.{Record}
use Rattle.ken_log.specs.declared.faults.SealFault.{SealFault}
use Rattle.ken_log.specs.declared.faults.SealFault.TheVariants.{Disk}
use Rattle.ken_log.specs.Mounts.{mount_of}
use Rattle.ken_log.specs.Mounts as mounts
use Rattle.ken_log.specs.Seals.{HasLogCause}
use Rattle.ken_store.specs.declared.faults.StoreFault.{StoreFault}
use Rattle.ken_store.specs.declared.owner.Owner.{Owner}
use Rattle.ken_store.specs.Creations.{MayFormat}
use Rattle.ken_store.specs.Turning.{SealsOn, log_answer}
use Rattle.ken_store.specs.Turnovers.{ReplacesOn}

module _ {D : Type 0} (told : D → Option Story) (count : D → ℕ) where
  -- the Ok syncs and the faults of two disks are together at least so many
  abbrev pub HaveWorked : ℕ → D → D → Type 0
  HaveWorked n a b = Tells (told a) (λ h. Tells (told b) (λ s. n ≤ h.now.syncs + count a + (s.now.syncs + count b)))

  -- a call of the first disk takes none of them away
  abbrev pub WorksOn : D → D → D → Type 0
  WorksOn old new other = (n : ℕ) → HaveWorked n old other → HaveWorked n new other

  -- it adds so many, where the sum isn't at the end of its range
  abbrev pub WorksMore : ℕ → D → D → D → Type 0
  WorksMore more old new other = (n : ℕ) → n + more < 2 ^ 64 → HaveWorked n old other → HaveWorked (n + more) new other

  -- a crash may leave of a disk what mounts otherwise than what a read gave before
  abbrev pub MayHaveChanged : D → D → Type 0
  MayHaveChanged old new = Tells (told old) (λ h. Tells (told new) (λ s. (image : List ℕ) × (IsImage s.now image × (mount_of image ≡ mount_of h.now.seen → ⊥))))

  -- a call that adds so many after Ok, and after Disk where it may have landed
  pub record WorksBy (more : ℕ) (result : Result (Unit {0}) SealFault) (old new other : D) : Type 0 where
    pub still : WorksOn old new other
    pub ok : OnOk result (WorksMore more old new other)
    pub landed : IsErrOf result Disk → MayHaveChanged old new → WorksMore more old new other

  -- a seal, beside the disk of the other log
  abbrev pub SealWorks : (D → Option Fate) → Type 0
  SealWorks fate = (result : Result (Unit {0}) SealFault) (place : ℕ) (item : Record) (old new other : D) → SealsOn told count fate result place item old new → WorksBy 2 result old new other

  -- a turnover, beside the disk of the log that was
  abbrev pub TurnoverWorks : (D → Option Fate) → Type 0
  TurnoverWorks fate = (result : Result (Unit {0}) SealFault) (head : Header) (base : Base) (old new other : D) → ReplacesOn told count fate result head base old new → WorksOn old new other

  -- the creation of a store on a disk without a log, beside the disk of the second log
  abbrev pub CreationWorks : Type 0
  CreationWorks =
      (result : Result (Unit {0}) StoreFault) (o : Owner) (old new other : D) → Tells (told old) (λ h. IsAtRest h.now × (mount_of h.now.seen ≡ mounts.Unformatted))
      → Follows (MayFormat o result) (told old) (told new) → HasLogCause (count old) (count new) (log_answer result) → WorksBy 3 (log_answer result) old new other
