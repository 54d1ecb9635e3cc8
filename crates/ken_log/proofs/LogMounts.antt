-- A log that lies in bytes is what they mount as.
use Rattle.std.proofs.Common.{◌≡◌, ℕ, zero, suc, ◌+◌, ◌<◌, ◌≤◌, Bool, true, false, ltb, not, List, [], ◌∷◌, ◌++◌, length, get_or, drop, Option, Some, None, refl, sym, ap, subst, ◌∙◌, append_assoc, arith, length-append, eq-eqb}
use Rattle.std.specs.Prelude.{◌==◌, ◌||◌}
use Rattle.std.specs.List.{flat_map, AllByRecursion}
use Rattle.std.proofs.lemmas.List.{append-nil}
use Rattle.std.proofs.lemmas.List.Concat.{flat_map-cons}
use Rattle.std.proofs.lemmas.Bool.{lt-ltb, le-ltb, ne_eqb}
use Rattle.ken_record.specs.declared.header.Header.{Header}
use Rattle.ken_record.specs.declared.base.Base.{Base}
use Rattle.ken_record.specs.declared.record.Record.{Record}
use Rattle.ken_record.specs.Versions.{Version, version_of}
use Rattle.ken_record.specs.Spelling.{header_bytes, base_bytes, record_bytes}
use Rattle.ken_record.specs.Grammar.{IsBase, IsRecord}
use Rattle.ken_record.specs.Reading.{within, header_at, base_at, record_at}
use Rattle.ken_record.proofs.Fronts.{base_read}
use Rattle.ken_record.proofs.Members.{header_form, record_form}
use Rattle.ken_record.proofs.Sizes.{header_long}
use Rattle.ken_log.specs.Mounts.{Mounted, Unformatted, Damaged, Whole, is_open, records_from, after_base, after_header, mount_of}
use Rattle.ken_log.specs.Layout.{opened, head_bytes, log_bytes, HasBase, IsHead, IsLogOf}

pub closed_gate : (gate : ℕ) → (gate ≡ 165 → ⊥) → is_open gate ≡ false
closed_gate gate closed = ne_eqb gate 165 closed

module _ (head : Header) (base : Option Base) where
  abbrev version : Version
  version = version_of head

  -- one record more
  module _ (most : ℕ) (found : List Record) (place : ℕ) where
    next : Option (Record × List ℕ) → Mounted
    unfolding records_from
    next o = elim o [
      | None ↦ Damaged place
      | Some x ↦ records_from most head base (found ++ x.0 ∷ []) (place + (1 + length (record_bytes version x.0))) x.1
    ]

    pub one_read : (r : Record) (rest : List ℕ) → IsRecord version r → records_from (suc most) head base found place (165 ∷ (record_bytes version r ++ rest)) ≡ records_from most head base (found ++ r ∷ []) (place + (1 + length (record_bytes version r))) rest
    unfolding next records_from
    one_read r rest fits = ap next ((record_form version).again r rest fits)

    pub bad_read : (bytes : List ℕ) → record_at version bytes ≡ None → records_from (suc most) head base found place (165 ∷ bytes) ≡ Damaged place
    unfolding next records_from
    bad_read bytes none = ap next none

    pub none_read : (gate : ℕ) (rest : List ℕ) → (gate ≡ 165 → ⊥) → records_from (suc most) head base found place (gate ∷ rest) ≡ Whole head base found
    unfolding records_from
    none_read gate rest closed = rw (closed_gate gate closed) refl

  -- the records, up to a closed gate
  pub records_read : (items : List Record) (most : ℕ) (found : List Record) (place gate : ℕ) (free : List ℕ) → (gate ≡ 165 → ⊥) → AllByRecursion (IsRecord version) items → length items < most
      → records_from most head base found place (flat_map (opened version) items ++ gate ∷ free) ≡ Whole head base (found ++ items)
  records_read items zero found place gate free closed fits enough = absurd (omega (arith, enough))
  records_read [] (suc most) found place gate free closed fits enough = none_read most found place gate free closed ∙ ap (Whole head base) (sym (append-nil found))
  records_read (r ∷ items) (suc most) found place gate free closed fits enough =
      let parts : flat_map (opened version) (r ∷ items) ++ gate ∷ free ≡ 165 ∷ (record_bytes version r ++ (flat_map (opened version) items ++ gate ∷ free)) = ap (λ (l : List ℕ). l ++ gate ∷ free) (flat_map-cons (opened version) r items) ∙ append_assoc (opened version r) (flat_map (opened version) items) (gate ∷ free) in
      let less : length items < most = omega (arith, enough) in
      let on = records_read items most (found ++ r ∷ []) (place + (1 + length (record_bytes version r))) gate free closed fits.1 less in
      ap (records_from (suc most) head base found place) parts ∙ one_read most found place r (flat_map (opened version) items ++ gate ∷ free) fits.0 ∙ on ∙ ap (Whole head base) (append_assoc found (r ∷ []) items)

-- each record takes a byte and more
pub few_records : (v : Version) (items : List Record) → length items ≤ length (flat_map (opened v) items)
few_records v [] = omega arith
few_records v (r ∷ items) = omega (arith, few_records v items, ap length (flat_map-cons (opened v) r items), length-append (opened v r) (flat_map (opened v) items))

-- where the first gate after a header and its base stands
pub head_long : (head : Header) (base : Option Base) → IsHead head base → length (head_bytes head base) ≡ 31 + head.base_len
head_long head None is =
    let none = (is.fits.first is.has).1 in
    omega (arith, header_long head, none)
head_long head (Some base) is =
    omega (arith, header_long head, is.has.2, length-append (header_bytes head) (base_bytes (version_of head) base))

-- the base of a later log is read
based : (most : ℕ) (head : Header) (base : Base) (rest : List ℕ) → HasBase head (Some base) → after_base most head (within (base_at (version_of head)) head.base_len (base_bytes (version_of head) base ++ rest)) ≡ records_from most head (Some base) [] (32 + head.base_len) rest
based most head base rest has =
    ap (after_base most head) (base_read (version_of head) head.base_len (base_bytes (version_of head) base ++ rest) base rest has.1 has.2 refl)

pub not_first : (n : ℕ) → 2 ≤ n → (n == 1) ≡ false
not_first n later = ne_eqb n 1 (λ e. let no : ⊥ = omega (arith, e, later) in no)

pub header_reads : (most : ℕ) (head : Header) (base : Option Base) (rest : List ℕ) → IsHead head base → after_header most (header_at (head_bytes head base ++ rest)) ≡ records_from most head base [] (32 + head.base_len) rest
header_reads most head None rest is =
    let place : 32 ≡ 32 + head.base_len = omega (arith, (is.fits.first is.has).1) in
    let test : (head.generation == 1) ≡ true = eq-eqb head.generation 1 is.has in
    rw (header_form.again head rest is.fits, test) (ap (λ (p : ℕ). records_from most head None [] p rest) place)
header_reads most head (Some base) rest is =
    let v = version_of head in
    let read : header_at ((header_bytes head ++ base_bytes v base) ++ rest) ≡ Some (head, base_bytes v base ++ rest) = ap header_at (append_assoc (header_bytes head) (base_bytes v base) rest) ∙ header_form.again head (base_bytes v base ++ rest) is.fits in
    ap (after_header most) read ∙ rw (not_first head.generation is.has.0) (based most head base rest is.has)

-- the header stands behind an open gate
pub mounts_from : (head : Header) (base : Option Base) (rest : List ℕ) → IsHead head base → mount_of ((165 ∷ head_bytes head base) ++ rest) ≡ records_from (length ((165 ∷ head_bytes head base) ++ rest)) head base [] (32 + head.base_len) rest
unfolding mount_of
mounts_from head base rest is =
    let long : ltb (length ((165 ∷ head_bytes head base) ++ rest)) 32 ≡ false = le-ltb _ _ (omega (arith, head_long head base is, length-append (165 ∷ head_bytes head base) rest)) in
    rw long (header_reads (length ((165 ∷ head_bytes head base) ++ rest)) head base rest is)

pub log_mounts : (bytes : List ℕ) (head : Header) (base : Option Base) (items : List Record) (end : ℕ) → IsLogOf bytes head base items end → mount_of bytes ≡ Whole head base items
log_mounts bytes head base items end lies =
    let v = version_of head in
    let front : List ℕ = 165 ∷ head_bytes head base in
    let rest : List ℕ = flat_map (opened v) items ++ lies.gate ∷ lies.free in
    let parts : bytes ≡ front ++ rest = lies.parts ∙ append_assoc front (flat_map (opened v) items) (lies.gate ∷ lies.free) in
    let enough : length items < length (front ++ rest) = omega (arith, few_records v items, length-append front rest, length-append (flat_map (opened v) items) (lies.gate ∷ lies.free)) in
    ap mount_of parts ∙ mounts_from head base rest lies.header ∙ records_read head base items (length (front ++ rest)) [] (32 + head.base_len) lies.gate lies.free lies.closed lies.items enough

-- bytes with no log
pub short_mounts : (bytes : List ℕ) → length bytes < 32 → mount_of bytes ≡ Unformatted
unfolding mount_of
short_mounts bytes short =
    let is : ltb (length bytes) 32 ≡ true = lt-ltb _ _ short in
    rw is refl

closed_test : (a : Bool) (gate : ℕ) → (gate ≡ 165 → ⊥) → a || not (is_open gate) ≡ true
closed_test true gate closed = refl
closed_test false gate closed = rw (closed_gate gate closed) refl

pub closed_mounts : (gate : ℕ) (free : List ℕ) → (gate ≡ 165 → ⊥) → mount_of (gate ∷ free) ≡ Unformatted
unfolding mount_of
closed_mounts gate free closed =
    let is : ltb (length (gate ∷ free)) 32 || not (is_open gate) ≡ true = closed_test (ltb (length (gate ∷ free)) 32) gate closed in
    rw is refl

pub first_closed : (bytes : List ℕ) → (get_or bytes 0 0 ≡ 165 → ⊥) → mount_of bytes ≡ Unformatted
first_closed [] closed = short_mounts [] (omega arith)
first_closed (gate ∷ free) closed = closed_mounts gate free closed

-- an open first gate with what the header is
pub header_mounts : (bytes : List ℕ) → 32 ≤ length bytes → get_or bytes 0 0 ≡ 165 → mount_of bytes ≡ after_header (length bytes) (header_at (drop 1 bytes))
unfolding mount_of
header_mounts bytes long stands =
    let no : ltb (length bytes) 32 ≡ false = le-ltb _ _ long in
    rw (no, stands) refl
