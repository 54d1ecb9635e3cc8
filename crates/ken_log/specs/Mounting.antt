-- What mount answers for what the bytes mount as.
use Rattle.std.specs.Prelude.{◌≡◌, ℕ, ◌+◌, ◌≤◌, List, [], ◌∷◌, ◌++◌, length, Option, Some, None, Result, Ok, Err}
use Rattle.std.specs.List.{flat_map, AllByRecursion}
use Rattle.ken_disk.specs.declared.faults.DiskFault.{DiskFault}
use Rattle.ken_disk.specs.declared.faults.DiskFault.TheVariants as disk
use Rattle.ken_disk.specs.Causes.{Rose}
use Rattle.ken_record.specs.declared.header.Header.{Header}
use Rattle.ken_record.specs.declared.base.Base.{Base}
use Rattle.ken_record.specs.declared.record.Record.{Record}
use Rattle.ken_record.specs.Versions.{Version, version_of}
use Rattle.ken_record.specs.Spelling.{header_bytes, record_bytes}
use Rattle.ken_record.specs.Grammar.{IsHeader, IsRecord}
use Rattle.ken_log.specs.declared.faults.LogFault.{LogFault}
use Rattle.ken_log.specs.declared.faults.LogFault.TheVariants as faults
use Rattle.ken_log.specs.declared.log.Log.{Log}
use Rattle.ken_log.specs.Mounts.{Mounted, Unformatted, Damaged, records_from, after_header}
use Rattle.ken_log.specs.Layout.{opened, head_bytes, HasBase}

-- what each answer says of the bytes, where what is found stands for something; only a fault of the disk and want of
-- memory say nothing of them
abbrev pub Answers : {F : Type 0} → (F → Mounted) → Result F LogFault → Mounted → Type 0
Answers whole (Ok found) mounted = mounted ≡ whole found
Answers whole (Err faults.Unformatted) mounted = mounted ≡ Unformatted
Answers whole (Err (faults.Damaged place)) mounted = mounted ≡ Damaged place
Answers whole (Err faults.Disk) mounted = Unit {0}
Answers whole (Err faults.Memory) mounted = Unit {0}

-- a fault of the disk was counted; no other answer counts one
abbrev pub HasMountCause : {T : Type 0} → ℕ → ℕ → Result T LogFault → Type 0
HasMountCause before now (Ok _) = now ≡ before
HasMountCause before now (Err faults.Unformatted) = now ≡ before
HasMountCause before now (Err (faults.Damaged place)) = now ≡ before
HasMountCause before now (Err faults.Memory) = now ≡ before
HasMountCause before now (Err faults.Disk) = (before ≤ now) × Rose before now

-- what the read of the disk answered: all but a fault of the disk and want of memory come of bytes that were read
abbrev pub as_read : {T : Type 0} → Result T LogFault → Result (Unit {0}) DiskFault
as_read (Ok _) = Ok tt
as_read (Err faults.Unformatted) = Ok tt
as_read (Err (faults.Damaged place)) = Ok tt
as_read (Err faults.Memory) = Err disk.Memory
as_read (Err faults.Disk) = Err disk.Failed

-- the disk is in the log, or beside the fault
abbrev pub disk_with : {D X F : Type 0} → Result (Log D × X) (F × D) → D
disk_with (Ok found) = found.0.disk
disk_with (Err fault) = fault.1

abbrev pub fault_with : {D X F : Type 0} → Result (Log D × X) (F × D) → Result (Log D × X) F
fault_with (Ok found) = Ok found
fault_with (Err fault) = Err fault.0

-- a header was read from the front of the bytes
pub record IsFirst (bytes : List ℕ) (head : Header) (rest : List ℕ) : Type 0 where
  pub is : IsHeader head
  pub parts : bytes ≡ header_bytes head ++ rest

-- and behind it, in these bytes, its base, or none behind that of a first log
pub record IsBased (head : Header) (bytes : List ℕ) (base : Option Base) (rest : List ℕ) : Type 0 where
  pub has : HasBase head base
  pub parts : header_bytes head ++ bytes ≡ head_bytes head base ++ rest
  pub mounts : (most : ℕ) → after_header most (Some (head, bytes)) ≡ records_from most head base [] (32 + head.base_len) rest

-- what stands behind a gate at the front of the bytes: a record, nothing behind a closed gate, or what is damaged
pub record IsNext (v : Version) (bytes : List ℕ) (item : Record) (rest : List ℕ) : Type 0 where
  pub is : IsRecord v item
  pub parts : bytes ≡ 165 ∷ (record_bytes v item ++ rest)

-- records behind open gates, and then a closed gate, from a place on and up to another
pub record AreOpened (v : Version) (place : ℕ) (bytes : List ℕ) (records : List Record) (end : ℕ) : Type 0 where
  pub gate : ℕ
  pub free : List ℕ
  pub parts : bytes ≡ flat_map (opened v) records ++ gate ∷ free
  pub closed : gate ≡ 165 → ⊥
  pub items : AllByRecursion (IsRecord v) records
  pub ends : place + length (flat_map (opened v) records) ≡ end

-- at any place these bytes begin with a damaged item
abbrev pub IsDamaged : Version → List ℕ → Type 0
IsDamaged v bytes = (most : ℕ) (head : Header) (base : Option Base) (found : List Record) (place : ℕ) → version_of head ≡ v → records_from most head base found place bytes ≡ Damaged place

-- they begin with a closed gate
pub record IsClosed (bytes : List ℕ) : Type 0 where
  pub gate : ℕ
  pub free : List ℕ
  pub parts : bytes ≡ gate ∷ free
  pub closed : gate ≡ 165 → ⊥

-- what an answer says of the bytes from a gate on
abbrev pub NextIs : {X : Type 0} → Version → (X → Record) → (X → List ℕ) → ℕ → Result (Option X) LogFault → List ℕ → Type 0
NextIs v item rest place (Ok (Some x)) bytes = IsNext v bytes (item x) (rest x)
NextIs v item rest place (Ok None) bytes = IsClosed bytes
NextIs v item rest place (Err (faults.Damaged at)) bytes = (at ≡ place) × IsDamaged v bytes
NextIs v item rest place (Err faults.Memory) bytes = Unit {0}
NextIs v item rest place (Err faults.Unformatted) bytes = ⊥
NextIs v item rest place (Err faults.Disk) bytes = ⊥
