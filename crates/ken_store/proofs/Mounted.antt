-- What a log mounts as, and what its bytes begin with.
use Rattle.std.proofs.Common.{◌≡◌, ℕ, zero, suc, ◌+◌, List, [], ◌∷◌, ◌++◌, length, drop, Bool, true, false, refl, sym, ap, subst, Option, Some, None}
use Rattle.std.specs.Prelude.{if◌then◌else◌, ◌==◌}
use Rattle.ken_record.specs.declared.header.Header.{Header}
use Rattle.ken_record.specs.declared.base.Base.{Base}
use Rattle.ken_record.specs.declared.record.Record.{Record}
use Rattle.ken_record.specs.Reading.{within, base_at, record_at, header_at}
use Rattle.ken_record.specs.Spelling.{record_bytes}
use Rattle.ken_record.specs.Versions.{version_of}
use Rattle.ken_log.specs.Mounts.{Mounted, Unformatted, Damaged, Whole, is_open, records_from, after_base, after_header, is_unformatted, mount_of}
use Rattle.ken_store.specs.declared.heads.Front.{Front}
use Rattle.ken_store.specs.declared.heads.Front.TheVariants.{Absent, Wrong, Begins}
use Rattle.ken_store.specs.declared.heads.Logs.TheVariants.{NoLogs, WrongHeader, Current}
use Rattle.ken_store.specs.declared.disks.Which.{Which}
use Rattle.ken_store.specs.declared.disks.Which.TheVariants.{Second}
use Rattle.ken_store.specs.Logs.{front_from, front_of, logs_of}
use Rattle.ken_store.proofs.Fronts.{front-take}

-- a log that is mounted behind a header isn't unformatted, and has that header
abbrev Has : Header → Mounted → Type 0
Has head Unformatted = ⊥
Has head (Damaged place) = Unit {0}
Has head (Whole h base records) = h ≡ head

module _ (head : Header) (base : Option Base) where
  gate_has : (most place : ℕ) (found : List Record) (b : Bool) (o : Option (Record × List ℕ)) → ((found : List Record) (place : ℕ) (bytes : List ℕ) → Has head (records_from most head base found place bytes))
      → Has head (if b then elim o [ None ↦ Damaged place | Some x ↦ records_from most head base (found ++ x.0 ∷ []) (place + (1 + length (record_bytes (version_of head) x.0))) x.1 ] else Whole head base found)
  gate_has most place found false o rest = refl
  gate_has most place found true None rest = tt
  gate_has most place found true (Some x) rest = rest _ _ x.1

  records_have : (most : ℕ) (found : List Record) (place : ℕ) (bytes : List ℕ) → Has head (records_from most head base found place bytes)
  unfolding records_from
  records_have zero found place bytes = tt
  records_have (suc most) found place [] = tt
  records_have (suc most) found place (gate ∷ bytes) = gate_has most place found (is_open gate) (record_at (version_of head) bytes) (records_have most)

base_has : (most : ℕ) (head : Header) (o : Option (Base × List ℕ)) → Has head (after_base most head o)
base_has most head (Some x) = records_have head (Some x.0) most [] (32 + head.base_len) x.1
base_has most head None = tt

header_has : (most : ℕ) (x : Header × List ℕ) → Has x.0 (after_header most (Some x))
header_has most x = by_test (x.0.generation == 1)
  where
    by_test : (b : Bool) → Has x.0 (if b then records_from most x.0 None [] 32 x.1 else after_base most x.0 (within (base_at (version_of x.0)) x.0.base_len x.1))
    by_test true = records_have x.0 None most [] 32 x.1
    by_test false = base_has most x.0 (within (base_at (version_of x.0)) x.0.base_len x.1)

-- by what is mounted
abbrev BeginsAs : Mounted → Front → Type 0
BeginsAs Unformatted front = front ≡ Absent
BeginsAs (Damaged place) front = Unit {0}
BeginsAs (Whole head base records) front = front ≡ Begins head

header_begins : (x : Header × List ℕ) (m : Mounted) → Has x.0 m → BeginsAs m (Begins x.0)
header_begins x Unformatted has = absurd has
header_begins x (Damaged place) has = tt
header_begins x (Whole head base records) has = ap (λ (h : Header). Begins h) (sym has)

begins : (most : ℕ) (o : Option (Header × List ℕ)) → BeginsAs (after_header most o) (front_from o)
begins most (Some x) = header_begins x (after_header most (Some x)) (header_has most x)
begins most None = tt

mounted_begins : (b : Bool) (most : ℕ) (o : Option (Header × List ℕ)) → BeginsAs (if b then Unformatted else after_header most o) (if b then Absent else front_from o)
mounted_begins true most o = refl
mounted_begins false most o = begins most o

pub front_begins : (bytes : List ℕ) → BeginsAs (mount_of bytes) (front_of bytes)
unfolding mount_of front_of
front_begins bytes =
    subst (λ (f : Front). BeginsAs (if is_unformatted bytes then Unformatted else after_header (length bytes) (header_at (drop 1 bytes))) (if is_unformatted bytes then Absent else f)) (sym (front-take (drop 1 bytes)))
    (mounted_begins (is_unformatted bytes) (length bytes) (header_at (drop 1 bytes)))

pub front_none : (bytes : List ℕ) → mount_of bytes ≡ Unformatted → front_of bytes ≡ Absent
front_none bytes is = subst (λ (m : Mounted). BeginsAs m (front_of bytes)) is (front_begins bytes)

pub front_whole : (bytes : List ℕ) (head : Header) (base : Option Base) (records : List Record) → mount_of bytes ≡ Whole head base records → front_of bytes ≡ Begins head
front_whole bytes head base records is = subst (λ (m : Mounted). BeginsAs m (front_of bytes)) is (front_begins bytes)

-- and back: only a log that isn't there begins with none
absent_none : (b : Bool) (most : ℕ) (o : Option (Header × List ℕ)) → (if b then Absent else front_from o) ≡ Absent → (if b then Unformatted else after_header most o) ≡ Unformatted
absent_none true most o is = refl
absent_none false most None is = absurd (let none : ⊥ = cc is in none)
absent_none false most (Some x) is = absurd (let none : ⊥ = cc is in none)

pub none_front : (bytes : List ℕ) → front_of bytes ≡ Absent → mount_of bytes ≡ Unformatted
unfolding mount_of front_of
none_front bytes is =
    absent_none (is_unformatted bytes) (length bytes) (header_at (drop 1 bytes)) (subst (λ (f : Front). (if is_unformatted bytes then Absent else f) ≡ Absent) (front-take (drop 1 bytes)) is)

unequal : (b : Bool) (which : Which) (first second : Option Header) → (if b then WrongHeader Second else Current which first second) ≡ NoLogs → ⊥
unequal true which first second is = cc is
unequal false which first second is = cc is

both_absent : (a b : Front) → logs_of a b ≡ NoLogs → (a ≡ Absent) × (b ≡ Absent)
both_absent Absent Absent is = (refl, refl)
both_absent Absent Wrong is = absurd (let none : ⊥ = cc is in none)
both_absent Absent (Begins b) is = absurd (let none : ⊥ = cc is in none)
both_absent Wrong b is = absurd (let none : ⊥ = cc is in none)
both_absent (Begins a) Absent is = absurd (let none : ⊥ = cc is in none)
both_absent (Begins a) Wrong is = absurd (let none : ⊥ = cc is in none)
both_absent (Begins a) (Begins b) is = absurd (unequal (a.generation == b.generation) _ (Some a) (Some b) is)

-- so where there are no logs, none is formatted
pub no_logs : (log second : List ℕ) → logs_of (front_of log) (front_of second) ≡ NoLogs → (mount_of log ≡ Unformatted) × (mount_of second ≡ Unformatted)
no_logs log second is =
    let both = both_absent (front_of log) (front_of second) is in
    (none_front log both.0, none_front second both.1)
