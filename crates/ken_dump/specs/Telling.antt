-- What telling of opened disks answers.
use Rattle.std.specs.Prelude.{◌≡◌, ℕ, zero, suc, ◌<◌, List, Option, Some, Result, Ok, Err}
use Rattle.ken_disk.specs.Causes.{Rose}
use Rattle.ken_disk.specs.Story.{Story}
use Rattle.ken_store.specs.declared.disks.Disks.{Disks}
use Rattle.ken_store.specs.declared.owner.Owner.{Owner}
use Rattle.ken_store.specs.Recovered.{Recovery, IsRefusedAt, recovered}
use Rattle.ken_dump.specs.declared.faults.DumpFault.{DumpFault}
use Rattle.ken_dump.specs.declared.faults.DumpFault.TheVariants.{Open, Device, Damaged, Memory}
use Rattle.ken_dump.specs.DumpText.{dump_text}

-- one of a node's disks, by its number
abbrev pub disk_at : {D : Type 0} → ℕ → Disks D → D
disk_at zero disks = disks.log
disk_at (suc zero) disks = disks.image
disk_at (suc (suc n)) disks = disks.second

-- a text, or that memory was short
abbrev pub unless_memory : {E : Type 0} → Result (List ℕ) E → Result (List ℕ) DumpFault
unless_memory (Ok text) = Ok text
unless_memory (Err e) = Err Memory

-- what is answered of node v is what its disks recover to; only a fault of a disk and want of memory say nothing of them
abbrev pub IsToldOf : ℕ → Recovery → Result (List ℕ) DumpFault → Type 0
IsToldOf v r (Ok text) = dump_text v r ≡ Some text
IsToldOf v r (Err (Open disk)) = ⊥
IsToldOf v r (Err (Device disk)) = Unit {0}
IsToldOf v r (Err (Damaged disk place)) = IsRefusedAt r disk place
IsToldOf v r (Err Memory) = Unit {0}

-- of the bytes of the log, the image and the second log
abbrev pub IsToldBy : Owner → Result (List ℕ) DumpFault → Story → Story → Story → Type 0
IsToldBy o result l i s = IsToldOf o.node (recovered o l.now.seen i.now.seen s.now.seen) result

module _ {D : Type 0} where
  -- the disk that is said to have failed did
  abbrev pub Blames : (D → ℕ) → Disks D → Result (List ℕ) DumpFault → Type 0
  Blames faults disks (Ok text) = Unit {0}
  Blames faults disks (Err (Open disk)) = ⊥
  Blames faults disks (Err (Device disk)) = (disk < 3) × Rose 0 (faults (disk_at disk disks))
  Blames faults disks (Err (Damaged disk place)) = Unit {0}
  Blames faults disks (Err Memory) = Unit {0}

  -- no call of a node's disks has failed
  pub record AreSound (faults : D → ℕ) (disks : Disks D) : Type 0 where
    pub log : faults disks.log ≡ 0
    pub image : faults disks.image ≡ 0
    pub second : faults disks.second ≡ 0

  -- nothing was written to them
  pub record AreUnwritten (told : D → Option Story) (old new : Disks D) : Type 0 where
    pub log : told new.log ≡ told old.log
    pub image : told new.image ≡ told old.image
    pub second : told new.second ≡ told old.second
