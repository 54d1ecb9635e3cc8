-- What is read from the front of a log's bytes.
use Rattle.std.proofs.Common.{◌≡◌, ℕ, zero, suc, ◌+◌, ◌-◌, ◌<◌, ◌≤◌, false, List, [], ◌∷◌, ◌++◌, length, get_or, take, drop, refl, sym, ap, subst, ◌∙◌, append_assoc, arith, length-append, eq-eqb, true, Option, Some, None, Result, Ok, Err}
use Rattle.std.specs.Prelude.{◌==◌, IsErrOf, IfOk}
use Rattle.std.specs.List.{flat_map, AllByRecursion}
use Rattle.std.proofs.lemmas.List.{append-nil, take_all, length-drop}
use Rattle.std.proofs.lemmas.List.Concat.{flat_map-cons, flat_map-append}
use Rattle.std.proofs.lemmas.Bool.{ne_eqb}
use Rattle.ken_record.specs.declared.faults.RecordFault.{RecordFault}
use Rattle.ken_record.specs.declared.faults.RecordFault.TheVariants as reads
use Rattle.ken_record.specs.declared.header.Header.{Header}
use Rattle.ken_record.specs.declared.base.Base.{Base}
use Rattle.ken_record.specs.declared.record.Record.{Record}
use Rattle.ken_record.specs.declared.item.Item.{Item}
use Rattle.ken_record.specs.declared.item.Item.TheVariants as items
use Rattle.ken_record.specs.declared.item.ItemKind.TheVariants as kinds
use Rattle.ken_record.specs.Versions.{Version, One, version_of}
use Rattle.ken_record.specs.Spelling.{header_bytes, base_bytes, record_bytes}
use Rattle.ken_record.specs.Items.{Spells}
use Rattle.ken_record.specs.Grammar.{IsHeader, IsBase, IsRecord}
use Rattle.ken_record.specs.Reading.{◌>>=◌, Fails, within, header_at, base_at, record_at, item_at}
use Rattle.ken_record.proofs.Fronts.{base_read}
use Rattle.ken_record.proofs.Sizes.{header_long}
use Rattle.ken_record.proofs.Members.{header_form}
use Rattle.ken_disk.specs.Story.{Story, Tells, IsAtRest}
use Rattle.ken_log.specs.declared.log.Log.{Log}
use Rattle.ken_log.specs.Settled.{IsSettled}
use Rattle.ken_log.specs.Mounts.{Mounted, mount_of, Damaged, Whole, records_from, after_base, after_header}
use Rattle.ken_log.specs.Layout.{opened, head_bytes, log_bytes, HasBase, IsHead, IsLogOf}
use Rattle.ken_log.specs.Mounting.{IsFirst, IsBased, IsNext, AreOpened, IsClosed, IsDamaged, NextIs}
use Rattle.ken_log.proofs.LogMounts.{bad_read, one_read, none_read, few_records, head_long, header_mounts, not_first}
use Rattle.ken_log.proofs.Sealed.{all_and}

none_of : {A B : Type 0} (o : Option A) (f : A → B) → (o >>= λ x. Some (f x)) ≡ None → o ≡ None
none_of None f e = refl
none_of (Some x) f e = absurd (let no : ⊥ = cc in no)

-- no header
no_header : (bytes : List ℕ) → item_at One kinds.Header bytes ≡ None → (most : ℕ) → after_header most (header_at bytes) ≡ Damaged 0
unfolding item_at
no_header bytes e most = ap (after_header most) (none_of (header_at bytes) (λ x. (items.Header x.0, x.1)) e)

pub header_fails : {X : Type 0} (bytes : List ℕ) (e : RecordFault) → Fails e (item_at One kinds.Header bytes) → IsErrOf {T = X} (Err e) reads.Bad → (most : ℕ) → after_header most (header_at bytes) ≡ Damaged 0
header_fails bytes reads.Bad fails bad = no_header bytes fails
header_fails bytes reads.Memory fails bad = absurd (let no : ⊥ = cc in no)

-- no record
no_record : (bytes : List ℕ) → item_at One kinds.Record bytes ≡ None → IsDamaged One (165 ∷ bytes)
unfolding item_at records_from
no_record bytes e zero head base found place is = refl
no_record bytes e (suc most) head base found place is = bad_read head base most found place bytes (none_of (record_at One bytes) (λ x. (items.Record x.0, x.1)) e)

pub record_fails : {X : Type 0} (bytes : List ℕ) (e : RecordFault) → Fails e (item_at One kinds.Record bytes) → IsErrOf {T = X} (Err e) reads.Bad → IsDamaged One (165 ∷ bytes)
record_fails bytes reads.Bad fails bad = no_record bytes fails
record_fails bytes reads.Memory fails bad = absurd (let no : ⊥ = cc in no)

-- no gate
pub no_gate : (v : Version) → IsDamaged v []
unfolding records_from
no_gate v zero head base found place is = refl
no_gate v (suc most) head base found place is = refl

no_more : (head : Header) (base : Option Base) (found : List Record) (place : ℕ) (bytes : List ℕ) → records_from 0 head base found place bytes ≡ Damaged place
unfolding records_from
no_more head base found place bytes = refl

-- ---- a header, and what stands behind it

pub header_is : (bytes rest : List ℕ) (item : Item) (h : Header) → item ≡ items.Header h → Spells One bytes item rest → IsFirst bytes h rest
header_is bytes rest item h is s =
    let t : Spells One bytes (items.Header h) rest = subst (λ (i : Item). Spells One bytes i rest) is s in
    record { is = t.fits; parts = t.parts }

pub record_is : (bytes rest : List ℕ) (item : Item) (r : Record) → item ≡ items.Record r → Spells One bytes item rest → IsNext One (165 ∷ bytes) r rest
record_is bytes rest item r is s =
    let t : Spells One bytes (items.Record r) rest = subst (λ (i : Item). Spells One bytes i rest) is s in
    record { is = t.fits; parts = ap (λ (l : List ℕ). 165 ∷ l) t.parts }

-- a first log
pub based_none : (head : Header) (bytes : List ℕ) → IsHeader head → head.generation ≡ 1 → IsBased head bytes None bytes
based_none head bytes is first =
    let place : 32 ≡ 32 + head.base_len = omega (arith, (is.first first).1) in
    let test : (head.generation == 1) ≡ true = eq-eqb head.generation 1 first in
    record {
      has = first;
      parts = refl;
      mounts = λ most. rw test (ap (λ (p : ℕ). records_from most head None [] p bytes) place);
    }

later : (head : Header) → IsHeader head → (head.generation ≡ 1 → ⊥) → 2 ≤ head.generation
later head is not_one = omega (arith, is.generation.0, not_one)

pub based_some : (head : Header) (bytes : List ℕ) (base : Base) → IsHeader head → (head.generation ≡ 1 → ⊥) → IsBase (version_of head) base → length (base_bytes (version_of head) base) ≡ head.base_len → bytes ≡ base_bytes (version_of head) base ++ drop head.base_len bytes → IsBased head bytes (Some base) (drop head.base_len bytes)
based_some head bytes base is not_one fits long parts =
    let v = version_of head in
    let rest = drop head.base_len bytes in
    let after : (most : ℕ) → after_header most (Some (head, bytes)) ≡ after_base most head (within (base_at v) head.base_len bytes) = λ most. rw (not_first head.generation (later head is not_one)) refl in
    record {
      has = (later head is not_one, fits, long);
      parts = ap (λ (l : List ℕ). header_bytes head ++ l) parts ∙ sym (append_assoc (header_bytes head) (base_bytes v base) rest);
      mounts = λ most. after most ∙ ap (after_base most head) (base_read v head.base_len bytes base rest fits long parts);
    }

pub base_fails : {X : Type 0} (head : Header) (bytes : List ℕ) (e : RecordFault) → IsHeader head → (head.generation ≡ 1 → ⊥) → Fails e (within (base_at (version_of head)) head.base_len bytes) → IsErrOf {T = X} (Err e) reads.Bad → (most : ℕ) → after_header most (Some (head, bytes)) ≡ Damaged 32
base_fails head bytes reads.Bad is not_one fails bad most =
    let no = not_first head.generation (later head is not_one) in
    rw no (ap (after_base most head) fails)
base_fails head bytes reads.Memory is not_one fails bad most = absurd (let no : ⊥ = cc in no)

-- ---- the loop over the records

pub record Finds (place : ℕ) (bytes : List ℕ) (most count : ℕ) (found : List Record) (end : ℕ) (rest : List ℕ) : Type 0 where
  pub mounts : (head : Header) (base : Option Base) → records_from (most - count) head base found end rest ≡ records_from most head base [] place bytes
  pub parts : bytes ≡ flat_map (opened One) found ++ rest
  pub fits : AllByRecursion (IsRecord One) found
  pub ends : place + length (flat_map (opened One) found) ≡ end

pub finds_none : (place : ℕ) (bytes : List ℕ) (most : ℕ) → Finds place bytes most 0 [] place bytes
finds_none place bytes most = record {
  mounts = λ head base. ap (λ (n : ℕ). records_from n head base [] place bytes) (let e : most - 0 ≡ most = omega arith in e);
  parts = refl;
  fits = tt;
  ends = omega arith;
}

opened_more : (found : List Record) (item : Record) → flat_map (opened One) (found ++ item ∷ []) ≡ flat_map (opened One) found ++ opened One item
opened_more found item =
    flat_map-append (opened One) found (item ∷ []) ∙ ap (λ (l : List ℕ). flat_map (opened One) found ++ l) (flat_map-cons (opened One) item [] ∙ append-nil (opened One item))

module _ (place : ℕ) (bytes : List ℕ) (most count : ℕ) (found : List Record) (end : ℕ) (rest : List ℕ) (f : Finds place bytes most count found end rest) where
  pub finds_damaged : IsDamaged One rest → (head : Header) (base : Option Base) → records_from most head base [] place bytes ≡ Damaged end
  finds_damaged d head base = sym (f.mounts head base) ∙ d (most - count) head base found end refl

  pub finds_all : most ≤ count → (head : Header) (base : Option Base) → records_from most head base [] place bytes ≡ Damaged end
  finds_all all head base =
      let none : most - count ≡ 0 = omega (arith, all) in
      sym (f.mounts head base) ∙ ap (λ (n : ℕ). records_from n head base found end rest) none ∙ no_more head base found end rest

  pub finds_lies : IsClosed rest → AreOpened One place bytes found end
  finds_lies shut = record {
    gate = shut.gate;
    free = shut.free;
    parts = f.parts ∙ ap (λ (l : List ℕ). flat_map (opened One) found ++ l) shut.parts;
    closed = shut.closed;
    items = f.fits;
    ends = f.ends;
  }

  module _ (more : count < most) where
    one : most - count ≡ suc (most - (count + 1))
    one = omega (arith, more)

    pub finds_end : IsClosed rest → (head : Header) (base : Option Base) → records_from most head base [] place bytes ≡ Whole head base found
    finds_end shut head base =
        sym (f.mounts head base) ∙ ap (λ (n : ℕ). records_from n head base found end rest) one
        ∙ ap (records_from (suc (most - (count + 1))) head base found end) shut.parts
        ∙ none_read head base (most - (count + 1)) found end shut.gate shut.free shut.closed

    module _ (item : Record) (after : List ℕ) (n : IsNext One rest item after) where
      step : length rest - length after ≡ 1 + length (record_bytes One item)
      step = omega (arith, ap length n.parts, length-append (record_bytes One item) after)

      pub finds_within : end + (length rest - length after) ≤ place + length bytes
      finds_within = omega (arith, step, ap length n.parts, length-append (record_bytes One item) after, ap length f.parts, f.ends, length-append (flat_map (opened One) found) rest)

      pub finds_next : Finds place bytes most (count + 1) (found ++ item ∷ []) (end + (length rest - length after)) after
      finds_next = record {
        mounts = λ head base.
            ap (λ (p : ℕ). records_from (most - (count + 1)) head base (found ++ item ∷ []) (end + p) after) step
            ∙ sym (one_read head base (most - (count + 1)) found end item after n.is)
            ∙ ap (records_from (suc (most - (count + 1))) head base found end) (sym n.parts)
            ∙ ap (λ (m : ℕ). records_from m head base found end rest) (sym one)
            ∙ f.mounts head base;
        parts =
            f.parts ∙ ap (λ (l : List ℕ). flat_map (opened One) found ++ l) n.parts
            ∙ sym (append_assoc (flat_map (opened One) found) (opened One item) after)
            ∙ ap (λ (l : List ℕ). l ++ after) (sym (opened_more found item));
        fits = all_and (IsRecord One) found item f.fits n.is;
        ends = omega (arith, step, ap length (opened_more found item), length-append (flat_map (opened One) found) (opened One item), f.ends);
      }

pub next_some : {X : Type 0} (v : Version) (o : Option X) (x : X) → o ≡ Some x → (item : X → Record) (rest : X → List ℕ) (place : ℕ) (bytes : List ℕ) → NextIs v item rest place (Ok o) bytes → IsNext v bytes (item x) (rest x)
next_some {X = X} v o x is item rest place bytes n = subst (λ (p : Option X). NextIs v item rest place (Ok p) bytes) is n

pub next_none : {X : Type 0} (v : Version) (o : Option X) → o ≡ None → (item : X → Record) (rest : X → List ℕ) (place : ℕ) (bytes : List ℕ) → NextIs v item rest place (Ok o) bytes → IsClosed bytes
next_none {X = X} v o is item rest place bytes n = subst (λ (p : Option X). NextIs v item rest place (Ok p) bytes) is n

-- ---- the whole

pub lies_room : (bytes : List ℕ) (head : Header) (base : Option Base) (found : List Record) (end : ℕ) → IsLogOf bytes head base found end → (end + 1 ≤ length bytes) × (length found ≤ end)
lies_room bytes head base found end l =
    let v = version_of head in
    let long = ap length l.parts ∙ length-append (log_bytes head base found) (l.gate ∷ l.free) in
    let few = few_records v found in
    let front = length-append (165 ∷ head_bytes head base) (flat_map (opened v) found) in
    (omega (arith, long, l.place), omega (arith, few, front, l.place))

module _ (head : Header) (bytes : List ℕ) (base : Option Base) (rest : List ℕ) (is : IsHeader head) (b : IsBased head bytes base rest) where
  based_head : IsHead head base
  based_head = record { fits = is; has = b.has }

  pub based_long : 32 + head.base_len + length rest ≡ 32 + length bytes
  based_long =
      omega (arith, ap length b.parts, length-append (header_bytes head) bytes, length-append (head_bytes head base) rest, header_long head, head_long head base based_head)

  -- a log that was read
  pub based_lies : (items : List Record) (end : ℕ) → AreOpened One (32 + head.base_len) rest items end → IsLogOf (165 ∷ (header_bytes head ++ bytes)) head base items end
  based_lies items end l =
      let v = version_of head in
      let front = 165 ∷ head_bytes head base in
      record {
        gate = l.gate;
        free = l.free;
        parts = ap (λ (x : List ℕ). 165 ∷ x) (b.parts ∙ ap (λ (x : List ℕ). head_bytes head base ++ x) l.parts) ∙ sym (append_assoc front (flat_map (opened v) items) (l.gate ∷ l.free));
        closed = l.closed;
        header = based_head;
        items = l.items;
        place = omega (arith, l.ends, length-append front (flat_map (opened v) items), head_long head base based_head);
      }

pub few_ok : {F E : Type 0} (r : Result F E) (bytes : List ℕ) (head : F → Header) (base : F → Option Base) (items : F → List Record) (end : F → ℕ) → IfOk r (λ f. IsLogOf bytes (head f) (base f) (items f) (end f)) → IfOk r (λ f. length (items f) ≤ end f)
few_ok (Ok f) bytes head base items end l = (lies_room bytes (head f) (base f) (items f) (end f) l).1
few_ok (Err e) bytes head base items end l = tt

pub room_ok : {F E : Type 0} (r : Result F E) (bytes : List ℕ) (head : F → Header) (base : F → Option Base) (items : F → List Record) (end : F → ℕ) (size : ℕ) → length bytes ≡ size → IfOk r (λ f. IsLogOf bytes (head f) (base f) (items f) (end f)) → IfOk r (λ f. end f + 1 ≤ size)
room_ok (Ok f) bytes head base items end size is l = omega (arith, is, (lies_room bytes (head f) (base f) (items f) (end f) l).0)
room_ok (Err e) bytes head base items end size is l = tt

pub head_ok : {F E : Type 0} (r : Result F E) (bytes : List ℕ) (head : F → Header) (base : F → Option Base) (items : F → List Record) (end : F → ℕ) → IfOk r (λ f. IsLogOf bytes (head f) (base f) (items f) (end f)) → IfOk r (λ f. IsHead (head f) (base f))
head_ok (Ok f) bytes head base items end l = l.header
head_ok (Err e) bytes head base items end l = tt

pub mount_settled : {D : Type 0} (told : D → Option Story) (size : D → ℕ) (log : Log D) (items : List Record) → Tells (told log.disk) (λ h. IsAtRest h.now) → Tells (told log.disk) (λ h. IsLogOf h.now.seen log.header log.base items log.end) → IsHead log.header log.base → log.records ≡ length items → length items ≤ log.end → log.end + 1 ≤ size log.disk → log.spent ≡ false → IsSettled told size log
mount_settled told size log items rests lies head count few room sound = record {
  sound = sound;
  header = head;
  few = omega (arith, count, few);
  room = room;
  rests = rests;
  holds = λ h t. record { items = items; lies = lies h t; count = count };
}

-- the bytes behind the first
pub tail_is : (bytes : List ℕ) → take (length bytes - 1) (drop 1 bytes) ≡ drop 1 bytes
tail_is bytes = take_all (length bytes - 1) (drop 1 bytes) (omega (arith, length-drop 1 bytes))

pub empty_is : (v : Version) (bytes : List ℕ) → length bytes ≡ 0 → IsDamaged v bytes
empty_is v [] is = no_gate v
empty_is v (gate ∷ free) is = absurd (omega (arith, is))

pub closed_is : (bytes : List ℕ) → (length bytes ≡ 0 → ⊥) → (get_or bytes 0 0 ≡ 165 → ⊥) → IsClosed bytes
closed_is [] some closed = absurd (some refl)
closed_is (gate ∷ free) some closed = record { gate = gate; free = free; parts = refl; closed = closed }

pub behind_is : (bytes : List ℕ) → (length bytes ≡ 0 → ⊥) → get_or bytes 0 0 ≡ 165 → 165 ∷ take (length bytes - 1) (drop 1 bytes) ≡ bytes
behind_is [] some stands = absurd (some refl)
behind_is (gate ∷ free) some stands = ap (λ (l : List ℕ). 165 ∷ l) (tail_is (gate ∷ free)) ∙ ap (λ (g : ℕ). g ∷ free) (sym stands)

pub next_is : (v : Version) (bytes : List ℕ) (r : Record) (rest : List ℕ) → (length bytes ≡ 0 → ⊥) → get_or bytes 0 0 ≡ 165 → IsNext v (165 ∷ take (length bytes - 1) (drop 1 bytes)) r rest → IsNext v bytes r rest
next_is v bytes r rest some stands n = subst (λ (b : List ℕ). IsNext v b r rest) (behind_is bytes some stands) n

pub damaged_is : (v : Version) (bytes : List ℕ) → (length bytes ≡ 0 → ⊥) → get_or bytes 0 0 ≡ 165 → IsDamaged v (165 ∷ take (length bytes - 1) (drop 1 bytes)) → IsDamaged v bytes
damaged_is v bytes some stands d = subst (λ (b : List ℕ). IsDamaged v b) (behind_is bytes some stands) d

-- the bytes behind the first gate were read
pub front_mounts : (bytes rest : List ℕ) (head : Header) → 32 ≤ length bytes → get_or bytes 0 0 ≡ 165 → IsFirst (take (length bytes - 1) (drop 1 bytes)) head rest → mount_of bytes ≡ after_header (length bytes) (Some (head, rest))
front_mounts bytes rest head long stands first =
    header_mounts bytes long stands ∙ ap (λ (l : List ℕ). after_header (length bytes) (header_at l)) (sym (tail_is bytes) ∙ first.parts) ∙ ap (after_header (length bytes)) (header_form.again head rest first.is)

pub front_parts : (bytes rest : List ℕ) (head : Header) → 32 ≤ length bytes → get_or bytes 0 0 ≡ 165 → IsFirst (take (length bytes - 1) (drop 1 bytes)) head rest → 165 ∷ (header_bytes head ++ rest) ≡ bytes
front_parts bytes rest head long stands first =
    ap (λ (l : List ℕ). 165 ∷ l) (sym first.parts) ∙ behind_is bytes (λ e. let no : ⊥ = omega (arith, e, long) in no) stands

pub front_long : (bytes rest : List ℕ) (head : Header) → 32 ≤ length bytes → get_or bytes 0 0 ≡ 165 → IsFirst (take (length bytes - 1) (drop 1 bytes)) head rest → 32 + length rest ≤ length bytes
front_long bytes rest head long stands first =
    omega (arith, ap length (front_parts bytes rest head long stands first), length-append (header_bytes head) rest, header_long head)
