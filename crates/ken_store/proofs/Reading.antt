-- Disks that are read, by the answers of the calls that read them.
use Rattle.std.proofs.Common.{◌≡◌, ℕ, ◌<◌, ◌≤◌, List, length, get_or, take, drop, ltb, Bool, true, false, not, ◌||◌, ap, subst, refl, ◌∙◌, arith, Option, Some, None, Result, Ok, Err}
use Rattle.std.proofs.lemmas.Bool.{lt-ltb, le-ltb, ne_eqb}
use Rattle.std.proofs.lemmas.List.{get_or-take, drop-take, take-take}
use Rattle.ken_log.specs.Mounts.{is_open}
use Rattle.ken_disk.specs.declared.faults.DiskFault.{DiskFault}
use Rattle.ken_disk.specs.declared.faults.DiskFault.TheVariants as disk
use Rattle.ken_disk.specs.Causes.{HasCause}
use Rattle.ken_disk.specs.Fates.{Fate, Suffers}
use Rattle.ken_disk.specs.Story.{Story, Follows}
use Rattle.ken_disk.proofs.Fates.{fate_same}
use Rattle.ken_disk.proofs.Told.{some_is}
use Rattle.ken_image.specs.declared.faults.ImageFault.{ImageFault}
use Rattle.ken_image.specs.declared.faults.ImageFault.TheVariants as image
use Rattle.ken_image.specs.Faults.{HasImageCause, as_disk}
use Rattle.ken_record.specs.declared.faults.RecordFault.{RecordFault}
use Rattle.ken_record.specs.declared.faults.RecordFault.TheVariants as reads
use Rattle.ken_record.specs.declared.header.Header.{Header}
use Rattle.ken_record.specs.declared.item.Item.{Item}
use Rattle.ken_record.specs.declared.item.Item.TheVariants as items
use Rattle.ken_record.specs.declared.item.ItemKind.TheVariants as kinds
use Rattle.ken_record.specs.Reading.{header_at, item_at, Fails, ◌>>=◌}
use Rattle.ken_record.specs.Versions.{One}
use Rattle.ken_store.specs.declared.heads.Front.TheVariants.{Absent, Wrong, Begins}
use Rattle.ken_store.specs.Logs.{front_from, front_of}
use Rattle.ken_store.specs.declared.disks.Which.{Which}
use Rattle.ken_store.specs.declared.disks.Which.TheVariants.{First, Second}
use Rattle.ken_store.specs.Answers.{disks_from}
use Rattle.ken_store.specs.Reads.{IsSame, AreSame, Reads, of_disk, of_image}
use Rattle.ken_store.specs.Reads as store

-- a fate that a want of memory left
fate_memory : (T : Type 0) (old new : Option Fate) → Follows (Suffers {T = T} (Err disk.Memory)) old new → new ≡ old
fate_memory T None new follows = follows
fate_memory T (Some f) new follows = follows.1 ∙ ap (λ (g : Fate). Some g) follows.2

module _ {D : Type 0} (told : D → Option Story) (faults : D → ℕ) (fate : D → Option Fate) (old new : D) where
  pub read_ok : {T : Type 0} (x : T) → told new ≡ told old → HasCause (faults old) (faults new) (Ok x) → Follows (Suffers (Ok x)) (fate old) (fate new) → IsSame told faults fate old new
  read_ok x story cause suffers = record { story = story; count = cause; falls = fate_same x (fate old) (fate new) suffers }

  pub read_fault : (T U : Type 0) (r : Result T DiskFault) (e : DiskFault) → r ≡ Err e → told new ≡ told old → HasCause (faults old) (faults new) r → Follows (Suffers r) (fate old) (fate new) → Reads told faults fate {T = U} (Err (of_disk e)) old new
  read_fault T U r e is story cause suffers =
      by_cases e (subst (λ (q : Result T DiskFault). HasCause (faults old) (faults new) q) is cause) (subst (λ (q : Result T DiskFault). Follows (Suffers q) (fate old) (fate new)) is suffers)
    where
      by_cases : (e : DiskFault) → HasCause {T = T} (faults old) (faults new) (Err e) → Follows (Suffers {T = T} (Err e)) (fate old) (fate new) → Reads told faults fate {T = U} (Err (of_disk e)) old new
      by_cases disk.Failed cause suffers = record { story = story; count = cause; falls = suffers }
      by_cases disk.Memory cause suffers = record { story = story; count = cause; falls = fate_memory T (fate old) (fate new) suffers }

  -- of an image
  pub load_ok : {T : Type 0} (x : T) → told new ≡ told old → HasImageCause (faults old) (faults new) (Ok x) → Follows (Suffers (as_disk (Ok x))) (fate old) (fate new) → IsSame told faults fate old new
  load_ok x story cause suffers = record { story = story; count = cause; falls = fate_same x (fate old) (fate new) suffers }

  pub load_fault : (T U : Type 0) (r : Result T ImageFault) (e : ImageFault) → r ≡ Err e → told new ≡ told old → HasImageCause (faults old) (faults new) r → Follows (Suffers (as_disk r)) (fate old) (fate new) → Reads told faults fate {T = U} (Err (of_image e)) old new
  load_fault T U r e is story cause suffers =
      by_cases e (subst (λ (q : Result T ImageFault). HasImageCause (faults old) (faults new) q) is cause) (subst (λ (q : Result T ImageFault). Follows (Suffers (as_disk q)) (fate old) (fate new)) is suffers)
    where
      by_cases : (e : ImageFault) → HasImageCause {T = T} (faults old) (faults new) (Err e) → Follows (Suffers (as_disk {T = T} (Err e))) (fate old) (fate new) → Reads told faults fate {T = U} (Err (of_image e)) old new
      by_cases image.Disk cause suffers = record { story = story; count = cause; falls = suffers }
      by_cases image.Memory cause suffers = record { story = story; count = cause; falls = fate_memory T (fate old) (fate new) suffers }

module _ {D : Type 0} (told : D → Option Story) (faults : D → ℕ) (fate : D → Option Fate) where
  pub same_self : (d : D) → IsSame told faults fate d d
  same_self d = record { story = refl; count = refl; falls = refl }

  pub same_on : (a b c : D) → IsSame told faults fate a b → IsSame told faults fate b c → IsSame told faults fate a c
  same_on a b c first second = record { story = second.story ∙ first.story; count = second.count ∙ first.count; falls = second.falls ∙ first.falls }

  fails_on : (a b c : D) → IsSame told faults fate a b → store.Fails told faults fate b c → store.Fails told faults fate a c
  fails_on a b c first second = record {
    story = second.story ∙ first.story;
    count = subst (λ (n : ℕ). HasCause {T = Unit {0}} n (faults c) (Err disk.Failed)) first.count second.count;
    falls = subst (λ (o : Option Fate). Follows (Suffers {T = Unit {0}} (Err disk.Failed)) o (fate c)) first.falls second.falls;
  }

  -- the image was read
  pub same_image : (which : Which) (current image image2 other : D) → IsSame told faults fate image image2 → AreSame told faults fate (disks_from which current image other) (disks_from which current image2 other)
  same_image First current image image2 other is = record { log = same_self current; image = is; second = same_self other }
  same_image Second current image image2 other is = record { log = same_self other; image = is; second = same_self current }

-- ---- headers

-- what a reader gives, made into another value
module _ {A B : Type 0} (f : A → B) where
  abbrev as_made : Option A → Option B
  as_made o = o >>= λ x. Some (f x)

header_item : Header × List ℕ → Item × List ℕ
header_item x = (items.Header x.0, x.1)

found : (o : Option (Header × List ℕ)) (h : Header) (rest : List ℕ) → as_made header_item o ≡ Some (items.Header h, rest) → front_from o ≡ Begins h
unfolding header_item
found None h rest is = absurd (let none : ⊥ = cc is in none)
found (Some x) h rest is =
    let item : items.Header x.0 ≡ items.Header h = ap (λ (p : Item × List ℕ). p.0) (some_is (items.Header x.0, x.1) (items.Header h, rest) is) in
    let same : x.0 ≡ h = cc item in
    ap (λ (y : Header). Begins y) same

pub found_front : (bytes : List ℕ) (h : Header) (rest : List ℕ) → item_at One kinds.Header bytes ≡ Some (items.Header h, rest) → front_from (header_at bytes) ≡ Begins h
unfolding item_at header_item
found_front bytes h rest is = found (header_at bytes) h rest is

none_found : (o : Option (Header × List ℕ)) → as_made header_item o ≡ None → front_from o ≡ Wrong
unfolding header_item
none_found None is = refl
none_found (Some x) is = absurd (let none : ⊥ = cc is in none)

pub wrong_front : (bytes : List ℕ) (e : RecordFault) → Fails e (item_at One kinds.Header bytes) → e ≡ reads.Bad → front_from (header_at bytes) ≡ Wrong
unfolding item_at header_item
wrong_front bytes reads.Bad fails is = none_found (header_at bytes) fails
wrong_front bytes reads.Memory fails is = absurd (let none : ⊥ = cc is in none)

-- what the bytes of a disk begin with
pub front_short : (bytes : List ℕ) → length bytes < 32 → Absent ≡ front_of bytes
unfolding front_of
front_short bytes short = let is : ltb (length bytes) 32 ≡ true = lt-ltb _ _ short in rw is refl

front_closed_gate : (a : Bool) (gate : ℕ) → (gate ≡ 165 → ⊥) → a || not (is_open gate) ≡ true
front_closed_gate true gate closed = refl
front_closed_gate false gate closed = rw (ne_eqb gate 165 closed) refl

pub front_closed : (bytes : List ℕ) → (get_or bytes 0 0 ≡ 165 → ⊥) → Absent ≡ front_of bytes
unfolding front_of
front_closed bytes closed = rw (front_closed_gate (ltb (length bytes) 32) (get_or bytes 0 0) closed) refl

pub front_open : (bytes : List ℕ) → 32 ≤ length bytes → get_or bytes 0 0 ≡ 165 → front_from (header_at (take 31 (drop 1 bytes))) ≡ front_of bytes
unfolding front_of
front_open bytes long stands = let long_enough : ltb (length bytes) 32 ≡ false = le-ltb _ _ long in rw (long_enough, stands) refl

-- the first bytes, read
pub read_gate : (bytes read : List ℕ) → read ≡ take 32 (drop 0 bytes) → get_or read 0 0 ≡ get_or bytes 0 0
read_gate bytes read is = ap (λ (l : List ℕ). get_or l 0 0) is ∙ get_or-take 32 bytes 0 0 (omega arith)

pub read_rest : (bytes read : List ℕ) → read ≡ take 32 (drop 0 bytes) → take 31 (drop 1 read) ≡ take 31 (drop 1 bytes)
read_rest bytes read is = ap (λ (l : List ℕ). take 31 (drop 1 l)) is ∙ ap (take 31) (drop-take 1 31 bytes) ∙ take-take 31 31 (drop 1 bytes) (omega arith)
