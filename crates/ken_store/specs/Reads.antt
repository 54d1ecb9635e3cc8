-- Calls that write nothing.
use Rattle.std.specs.Prelude.{◌≡◌, ℕ, ◌⊎◌, Option, Result, Ok, Err}
use Rattle.ken_disk.specs.declared.faults.DiskFault.{DiskFault}
use Rattle.ken_disk.specs.declared.faults.DiskFault.TheVariants as disk
use Rattle.ken_disk.specs.Causes.{HasCause}
use Rattle.ken_disk.specs.Fates.{Fate, Suffers}
use Rattle.ken_disk.specs.Story.{Story, Follows}
use Rattle.ken_image.specs.declared.faults.ImageFault.{ImageFault}
use Rattle.ken_image.specs.declared.faults.ImageFault.TheVariants as image
use Rattle.ken_log.specs.declared.faults.SealFault.{SealFault}
use Rattle.ken_log.specs.declared.faults.SealFault.TheVariants as seals
use Rattle.ken_log.specs.declared.faults.LogFault.{LogFault}
use Rattle.ken_log.specs.declared.faults.LogFault.TheVariants as logs
use Rattle.ken_store.specs.declared.disks.Disks.{Disks}
use Rattle.ken_store.specs.declared.disks.Which.{Which}
use Rattle.ken_store.specs.declared.faults.StoreFault.{StoreFault}
use Rattle.ken_store.specs.declared.faults.StoreFault.TheVariants.{Damaged, Disk, Memory}
use Rattle.ken_store.specs.Logs.{disk_number}

-- the fault of a store for that of a disk, of an image, and of a seal
abbrev pub of_disk : DiskFault → StoreFault
of_disk disk.Failed = Disk
of_disk disk.Memory = Memory

abbrev pub of_image : ImageFault → StoreFault
of_image image.Disk = Disk
of_image image.Memory = Memory

abbrev pub of_seal : SealFault → StoreFault
of_seal seals.Disk = Disk
of_seal seals.Memory = Memory

-- the fault of a log on a disk
abbrev pub of_log : Which → LogFault → StoreFault
of_log which logs.Unformatted = Damaged (disk_number which) 0
of_log which (logs.Damaged place) = Damaged (disk_number which) place
of_log which logs.Disk = Disk
of_log which logs.Memory = Memory

module _ {D : Type 0} (told : D → Option Story) (faults : D → ℕ) (fate : D → Option Fate) where
  -- a disk is as it was
  pub record IsSame (old new : D) : Type 0 where
    pub story : told new ≡ told old
    pub count : faults new ≡ faults old
    pub falls : fate new ≡ fate old

  -- a read of it failed
  pub record Fails (old new : D) : Type 0 where
    pub story : told new ≡ told old
    pub count : HasCause {T = Unit {0}} (faults old) (faults new) (Err disk.Failed)
    pub falls : Follows (Suffers {T = Unit {0}} (Err disk.Failed)) (fate old) (fate new)

  -- by the answer of what read it
  abbrev pub Reads : {T : Type 0} → Result T StoreFault → D → D → Type 0
  Reads (Ok x) old new = IsSame old new
  Reads (Err (Damaged n place)) old new = IsSame old new
  Reads (Err Memory) old new = IsSame old new
  Reads (Err Disk) old new = Fails old new

  -- all disks of a node are as they were
  pub record AreSame (old new : Disks D) : Type 0 where
    pub log : IsSame old.log new.log
    pub image : IsSame old.image new.image
    pub second : IsSame old.second new.second

  -- a read of one failed, and the others are as they were
  abbrev pub OneFails : Disks D → Disks D → Type 0
  OneFails old new =
      (Fails old.log new.log × IsSame old.image new.image × IsSame old.second new.second)
      ⊎ ((IsSame old.log new.log × Fails old.image new.image × IsSame old.second new.second)
      ⊎ (IsSame old.log new.log × IsSame old.image new.image × Fails old.second new.second))

  abbrev pub ReadsDisks : {T : Type 0} → Result T StoreFault → Disks D → Disks D → Type 0
  ReadsDisks (Ok x) old new = AreSame old new
  ReadsDisks (Err (Damaged n place)) old new = AreSame old new
  ReadsDisks (Err Memory) old new = AreSame old new
  ReadsDisks (Err Disk) old new = OneFails old new
