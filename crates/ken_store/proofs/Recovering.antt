-- What the answers of a recovery say, step by step.
use Rattle.std.proofs.Common.{◌≡◌, ℕ, ◌+◌, ◌*◌, ◌<◌, ◌≤◌, List, [], ◌∷◌, length, ltb, Bool, true, false, not, ◌&&◌, refl, sym, ap, subst, ◌∙◌, arith, Option, Some, None, Result, Ok, Err}
use Rattle.std.specs.Prelude.{if◌then◌else◌, nat_lt}
use Rattle.std.specs.List.{AllByRecursion}
use Rattle.std.proofs.lemmas.Bool.{le-ltb}
use Rattle.std.proofs.lemmas.Bool.Decides.{nat_tests}
use Rattle.ken_disk.specs.Fates.{Fate}
use Rattle.ken_disk.specs.Story.{Story, Tells, IsAtRest}
use Rattle.ken_model.specs.declared.states.State.{State}
use Rattle.ken_model.specs.declared.values.Value.{Value}
use Rattle.ken_model.specs.Broken.{BreaksAt}
use Rattle.ken_model.specs.Layout.{StandsFor}
use Rattle.ken_model.specs.Reading.{read_value}
use Rattle.ken_model.proofs.OnePlace.{breaks_at_one_place}
use Rattle.ken_model.proofs.ReadBack.{read_some, read_none}
use Rattle.ken_record.specs.declared.page.Page.{Page}
use Rattle.ken_record.specs.declared.header.Header.{Header}
use Rattle.ken_record.specs.declared.base.Base.{Base}
use Rattle.ken_record.specs.declared.record.Record.{Record}
use Rattle.ken_record.specs.Grammar.{IsPage, IsBase, IsRecord}
use Rattle.ken_record.specs.Spelling.{record_bytes}
use Rattle.ken_record.specs.Versions.{One}
use Rattle.ken_log.specs.Layout.{IsHead}
use Rattle.ken_log.specs.Mounts.{mount_of}
use Rattle.ken_cover.specs.Overlay.{AreWithin}
use Rattle.ken_store.specs.declared.owner.Owner.{Owner}
use Rattle.ken_store.specs.declared.disks.Disks.{Disks}
use Rattle.ken_store.specs.declared.disks.Which.{Which}
use Rattle.ken_store.specs.declared.disks.Which.TheVariants.{First, Second}
use Rattle.ken_store.specs.declared.faults.StoreFault.{StoreFault}
use Rattle.ken_store.specs.declared.faults.StoreFault.TheVariants as faults
use Rattle.ken_store.specs.declared.numbers.Numbers.{Numbers}
use Rattle.ken_store.specs.declared.heads.Logs.TheVariants.{NoLogs}
use Rattle.ken_store.specs.declared.store.Recovered.{Recovered}
use Rattle.ken_store.specs.declared.store.Recovered.TheVariants as found
use Rattle.ken_store.specs.Logs.{front_of, logs_of, log_on, may_own}
use Rattle.ken_store.specs.Numbers.{no_numbers, are_within, follows, after_record, after_records}
use Rattle.ken_store.specs.Bases.{base_numbers, base_stands, counts_stand, messages_stand, outs_stand, texts_stand}
use Rattle.ken_store.specs.Kept.{base_pages, HasPagesWithin}
use Rattle.ken_store.specs.Reads.{AreSame}
use Rattle.ken_store.specs.Recovered.{Recovery, Whole, Broken, IsRefusedAt, numbers_from, numbers_of, with_numbers, checked, with_value, with_image, heap_of}
use Rattle.ken_store.proofs.Mounted.{no_logs}
use Rattle.ken_store.specs.Answers.{AreAtRest, AreUnformatted, Answers, Stands, IsMounted, Mounts}

and_true : (a b : Bool) → a && b ≡ true → (a ≡ true) × (b ≡ true)
and_true true b is = (refl, is)
and_true false b is = absurd (let none : ⊥ = cc is in none)

less : (a b : ℕ) → nat_lt a b ≡ true → a < b
less a b is = grind (arith, nat_tests)

-- ---- pages of a log that was checked lie within the heap

within_pages : (count : ℕ) (es : List Page) → are_within count es ≡ true → AllByRecursion IsPage es → AreWithin count es
within_pages count [] test pages = tt
within_pages count (e ∷ es) test pages =
    let both = and_true (nat_lt e.page count) (are_within count es) test in
    ((less e.page count both.0, pages.0.bytes), within_pages count es both.1 pages.1)

follows_within : (o : Owner) (n : Numbers) (r : Record) → follows o n r ≡ true → IsRecord One r → HasPagesWithin o.pages r
follows_within o n r test is = within_pages o.pages r.pages (and_true _ (are_within o.pages r.pages) test).1 is.lists.3.1

module _ (o : Owner) (n : Numbers) where
  record_within : (place : ℕ) (start : Numbers) (r : Record) (rs : List Record) (test : Bool) → follows o start r ≡ test
      → ((place : ℕ) (start : Numbers) → after_records o place start rs ≡ Ok n → AllByRecursion (HasPagesWithin o.pages) rs)
      → (if test then after_records o (place + (1 + length (record_bytes One r))) (after_record start r) rs else Err place) ≡ Ok n
      → IsRecord One r → AllByRecursion (HasPagesWithin o.pages) (r ∷ rs)
  record_within place start r rs true test rest is item = (follows_within o start r test item, rest (place + (1 + length (record_bytes One r))) (after_record start r) is)
  record_within place start r rs false test rest is item = absurd (let none : ⊥ = cc is in none)

  records_within : (records : List Record) → AllByRecursion (IsRecord One) records → (place : ℕ) (start : Numbers) → after_records o place start records ≡ Ok n → AllByRecursion (HasPagesWithin o.pages) records
  records_within [] items place start is = tt
  records_within (r ∷ rs) items place start is = record_within place start r rs (follows o start r) refl (records_within rs items.1) is items.0

-- a base and records of which all passed
pub record PagesFit (o : Owner) (base : Option Base) (records : List Record) : Type 0 where
  pub first : AreWithin o.pages (base_pages base)
  pub each : AllByRecursion (HasPagesWithin o.pages) records

base_within : (o : Owner) (head : Header) (b : Base) → base_stands o head b ≡ true → IsBase One b → AreWithin o.pages b.pages
base_within o head b test is =
    let texts = and_true (counts_stand o head b && are_within o.pages b.pages && messages_stand o.nodes b && outs_stand b.outputs b.outs) (texts_stand b) test in
    let first = and_true (counts_stand o head b && are_within o.pages b.pages && messages_stand o.nodes b) (outs_stand b.outputs b.outs) texts.0 in
    let second = and_true (counts_stand o head b && are_within o.pages b.pages) (messages_stand o.nodes b) first.0 in
    within_pages o.pages b.pages (and_true (counts_stand o head b) (are_within o.pages b.pages) second.0).1 is.kept.2.1

module _ (o : Owner) (head : Header) (records : List Record) (n : Numbers) (items : AllByRecursion (IsRecord One) records) where
  base_fits : (b : Base) → IsBase One b → (test : Bool) → base_stands o head b ≡ test → numbers_from o (32 + head.base_len) (if test then Some (base_numbers head b) else None) records ≡ Ok n → PagesFit o (Some b) records
  base_fits b is true test numbers = record { first = base_within o head b test is; each = records_within o n records items (32 + head.base_len) (base_numbers head b) numbers }
  base_fits b is false test numbers = absurd (let none : ⊥ = cc numbers in none)

  pages_fit : (base : Option Base) → IsHead head base → numbers_of o head base records ≡ Ok n → PagesFit o base records
  pages_fit None is numbers = record { first = tt; each = records_within o n records items (32 + head.base_len) no_numbers numbers }
  pages_fit (Some b) is numbers = base_fits b is.has.1 (base_stands o head b) refl numbers

module _ (o : Owner) (which : Which) (base : Option Base) (records : List Record) (s : State) where
  numbers_ok : (r : Result Numbers ℕ) → with_numbers o which base records r ≡ Ok s → (n : Numbers) × (r ≡ Ok n)
  numbers_ok (Ok n) is = (n, refl)
  numbers_ok (Err place) is = absurd (let none : ⊥ = cc is in none)

  checked_ok : (a b : Bool) (r : Result Numbers ℕ) → (if not a then Err (0, 0) else if not b then Err (2, 0) else with_numbers o which base records r) ≡ Ok s → (n : Numbers) × (r ≡ Ok n)
  checked_ok false b r is = absurd (let none : ⊥ = cc is in none)
  checked_ok true false r is = absurd (let none : ⊥ = cc is in none)
  checked_ok true true r is = numbers_ok r is

pub checked_pages : (o : Owner) (which : Which) (first second : Option Header) (head : Header) (base : Option Base) (records : List Record) (s : State) → IsHead head base → AllByRecursion (IsRecord One) records → checked o which first second head base records ≡ Ok s → PagesFit o base records
checked_pages o which first second head base records s is items ok =
    let numbers = checked_ok o which base records s (may_own o first) (may_own o second) (numbers_of o head base records) ok in
    pages_fit o head records numbers.0 items base is numbers.1

-- ---- the heap

module _ (o : Owner) (s : State) (base : Option Base) (records : List Record) (image : List ℕ) (long : 256 * o.pages ≤ length image) where
  long_enough : with_image o s base records image ≡ with_value s (heap_of o base records image) (read_value (heap_of o base records image))
  long_enough = let is : ltb (length image) (256 * o.pages) ≡ false = le-ltb _ _ long in rw is refl

  pub whole_answer : (v : Value) → StandsFor (heap_of o base records image) v → with_image o s base records image ≡ Whole s v
  whole_answer v stands = long_enough ∙ ap (with_value s (heap_of o base records image)) (read_some (heap_of o base records image) v stands)

  broken_answer : (place : ℕ) → BreaksAt (heap_of o base records image) place → with_image o s base records image ≡ Broken (heap_of o base records image)
  broken_answer place breaks = long_enough ∙ ap (with_value s (heap_of o base records image)) (read_none (heap_of o base records image) (breaks_at_one_place (heap_of o base records image) place breaks).0)

  pub fault_answer : (D : Type 0) (fault : StoreFault) → Stands (Err fault) (heap_of o base records image) → Answers {D = D} (Err fault) (with_image o s base records image)
  fault_answer D (faults.Damaged disk place) stands = subst (λ (r : Recovery). IsRefusedAt r disk place) (sym (broken_answer place stands.1)) stands
  fault_answer D faults.Disk stands = tt
  fault_answer D faults.Memory stands = tt

-- ---- the disks of a node

module _ {D : Type 0} (told : D → Option Story) (faults : D → ℕ) (fate : D → Option Fate) (old new : Disks D) (same : AreSame told faults fate old new) where
  pub current_told : (which : Which) (l s : Story) → told old.log ≡ Some l → told old.second ≡ Some s → told (log_on which new.log new.second) ≡ Some (log_on which l s)
  current_told First l s log second = same.log.story ∙ log
  current_told Second l s log second = same.second.story ∙ second

  pub image_told : (i : Story) → told old.image ≡ Some i → told new.image ≡ Some i
  image_told i is = same.image.story ∙ is

  pub current_rests : (which : Which) → AreAtRest told old → Tells (told (log_on which new.log new.second)) (λ h. IsAtRest h.now)
  current_rests First rests h is = rests.log h (sym same.log.story ∙ is)
  current_rests Second rests h is = rests.second h (sym same.second.story ∙ is)

  pub other_rests : (which : Which) → AreAtRest told old → Tells (told (log_on which new.second new.log)) (λ h. IsAtRest h.now)
  other_rests First rests h is = rests.second h (sym same.second.story ∙ is)
  other_rests Second rests h is = rests.log h (sym same.log.story ∙ is)

  pub image_rests : AreAtRest told old → Tells (told new.image) (λ h. IsAtRest h.now)
  image_rests rests h is = rests.image h (sym same.image.story ∙ is)

-- disks on which there are no logs
module _ {D : Type 0} (told : D → Option Story) (faults : D → ℕ) (fate : D → Option Fate) (old new : Disks D) (same : AreSame told faults fate old new) (rests : AreAtRest told old) where
  pub fresh_rests : AreAtRest told new
  fresh_rests = record {
    log = λ h is. rests.log h (sym same.log.story ∙ is);
    image = λ h is. rests.image h (sym same.image.story ∙ is);
    second = λ h is. rests.second h (sym same.second.story ∙ is);
  }

  pub fresh_none : Tells (told old.log) (λ l. Tells (told old.second) (λ s. logs_of (front_of l.now.seen) (front_of s.now.seen) ≡ NoLogs)) → AreUnformatted told new
  fresh_none none l tl s ts = no_logs l.now.seen s.now.seen (none l (sym same.log.story ∙ tl) s (sym same.second.story ∙ ts))

pub seen_on : (which : Which) (l s : Story) → (log_on which l s).now.seen ≡ log_on which l.now.seen s.now.seen
seen_on First l s = refl
seen_on Second l s = refl

-- a store over the log on one disk is over the current log
pub mounts_on : {D : Type 0} (r : Result (Recovered D) StoreFault) (which : Which) (log second : List ℕ) → IsMounted r which (log_on which log second) → Mounts r log second
mounts_on (Ok (found.Whole store state records)) which log second is = ap (λ (w : Which). mount_of (log_on w log second)) is.0 ∙ is.1
mounts_on (Ok (found.Fresh disks)) which log second is = tt
mounts_on (Err fault) which log second is = tt
