-- What a seal makes of the handler's side.
use Rattle.std.proofs.Common.{◌≡◌, ◌≢◌, ℕ, ◌+◌, ◌*◌, ◌/◌, ◌<◌, ◌≤◌, suc, zero, List, [], ◌∷◌, ◌++◌, length, map, cond, eqb, leb, Bool, true, false, not, ◌&&◌, ◌||◌, Option, Some, None, Result, Ok, Err, refl, sym, ap, subst, ◌∙◌, arith, ⊎_elim, length-append, append_assoc}
use Rattle.std.specs.Prelude.{if◌then◌else◌, nat_lt, IsTrue, IfSome, IsSome}
use Rattle.std.specs.List.{AllByRecursion, filter, range_with_len}
use Rattle.std.specs.Str.{bytes_eq}
use Rattle.std.specs.declared.sync.Arc.{Arc}
use Rattle.std.proofs.lemmas.Bool.{cases_eq, false≢true}
use Rattle.std.proofs.lemmas.Bool.Decides.{nat_tests}
use Rattle.std.proofs.lemmas.List.{map-append}
use Rattle.std.proofs.lemmas.Slice.Eq.{bytes_eq-Decides}
use Rattle.ken_disk.specs.declared.faults.DiskFault.TheVariants as disk
use Rattle.ken_disk.specs.Fates.{Fate}
use Rattle.ken_disk.specs.Story.{Story, Tells, Follows, Leaves, IsAtRest}
use Rattle.ken_disk.specs.Moments.{Through}
use Rattle.ken_disk.proofs.Fates.{fate_kept}
use Rattle.ken_disk.proofs.Images.{image-seen_at_rest}
use Rattle.ken_disk.proofs.Made.{told_none}
use Rattle.ken_disk.proofs.Since.{now_too}
use Rattle.ken_disk.proofs.Told.{tells_after, some_is}
use Rattle.ken_alloc.specs.Objects.{Heap, heap_in}
use Rattle.ken_pages.specs.Paged.{page_of, page_differs, with_bytes, frozen_pages, shared_pages}
use Rattle.ken_record.specs.declared.base.Base.{Base}
use Rattle.ken_record.specs.declared.effects.Effects.{Effects}
use Rattle.ken_record.specs.declared.header.Header.{Header}
use Rattle.ken_record.specs.declared.page.Page.{Page}
use Rattle.ken_record.specs.declared.record.Record.{Record}
use Rattle.ken_record.specs.Grammar.{IsPage, IsRecord, rise_from, page_rank}
use Rattle.ken_record.specs.Spelling.{number, fields, record_bytes}
use Rattle.ken_record.specs.Versions.{One}
use Rattle.ken_record.proofs.Sizes.{number_long, fields_fit}
use Rattle.ken_log.specs.declared.faults.SealFault.{SealFault}
use Rattle.ken_log.specs.declared.faults.SealFault.TheVariants as seals
use Rattle.ken_log.specs.declared.log.Log.{Log}
use Rattle.ken_log.specs.Mounts.{Mounted, mount_of, with_record}
use Rattle.ken_log.specs.Mounts as mounts
use Rattle.ken_log.specs.Seals.{Changes, MountsAs}
use Rattle.ken_log.specs.Settled.{IsSettled}
use Rattle.ken_log.proofs.Sealed.{seal_changes}
use Rattle.ken_cover.specs.declared.layers.Layer.{Layer}
use Rattle.ken_cover.specs.Overlay.{overlay, numbers, among, newest, AreWithin}
use Rattle.ken_cover.specs.Sides.{TurnPages, sealed_pages}
use Rattle.ken_cover.proofs.Bytes.{same_pages}
use Rattle.ken_cover.proofs.Newest.{bytes_or, length-overlay, page_of-overlay, none_newest, below_newest}
use Rattle.ken_cover.proofs.Bases.{AreOwn, AreWithin-own, overlay-own, length-page_of}
use Rattle.ken_store.specs.declared.numbers.Numbers.{Numbers}
use Rattle.ken_store.specs.declared.owner.Owner.{Owner}
use Rattle.ken_store.specs.declared.turning.TurnSide.{TurnSide}
use Rattle.ken_store.specs.Ahead.{frame_page, frame_pages}
use Rattle.ken_store.specs.Numbers.{comes_next, sends_follow, outs_follow, are_within, follows, after_record, after_records}
use Rattle.ken_store.specs.Recovered.{start_of, numbers_from, numbers_of}
use Rattle.ken_store.specs.Turning.{Turning, KeepsLog, HasPages, IsSameNode, as_page, IsChangedPage, AreChangedPages, changed_pages, record_of, sealed_bytes, base_layers, live_layers, record_layer, turn_pages, SealsOn}

-- ---- the pages that a turn changed

module _ (before now : List ℕ) where
  -- those of some pages that changed
  abbrev pub changed_among : List ℕ → List Page
  changed_among ps = map as_page (map (with_bytes now) (filter (page_differs before now) ps))

  -- one page more, which changed or didn't
  abbrev pub with_first : Bool → ℕ → List ℕ → List Page
  with_first b p ps = map as_page (map (with_bytes now) (cond b (p ∷ filter (page_differs before now) ps) (filter (page_differs before now) ps)))

  own_changed : (n a k : ℕ) → a + k ≤ n → AreOwn n now (changed_among (range_with_len a k))
  own_changed n a zero le = tt
  own_changed n a (suc k) le =
      elim (page_differs before now a) as (λ b. AreOwn n now (with_first b a (range_with_len (a + 1) k))) [
        | true ↦ ((omega arith, refl), own_changed n (a + 1) k (omega arith))
        | false ↦ own_changed n (a + 1) k (omega arith)
      ]

  rising_changed : (low a k : ℕ) → low ≤ a → IsTrue (rise_from page_rank low (changed_among (range_with_len a k)))
  rising_changed low a zero le = refl
  rising_changed low a (suc k) le =
      elim (page_differs before now a) as (λ b. IsTrue (rise_from page_rank low (with_first b a (range_with_len (a + 1) k)))) [
        | true ↦ (let first : leb low a ≡ true = grind (arith, nat_tests) in rw first (rising_changed (a + 1) (a + 1) k (omega arith)))
        | false ↦ rising_changed low (a + 1) k (omega arith)
      ]

  few_changed : (a k : ℕ) → length (changed_among (range_with_len a k)) ≤ k
  few_changed a zero = omega arith
  few_changed a (suc k) =
      let rest = few_changed (a + 1) k in
      elim (page_differs before now a) as (λ b. length (with_first b a (range_with_len (a + 1) k)) ≤ suc k) [
        | true ↦ omega (arith, rest)
        | false ↦ omega (arith, rest)
      ]

  among_changed : (p a k : ℕ) → a ≤ p → p < a + k → page_differs before now p ≡ true → among (numbers (changed_among (range_with_len a k))) p ≡ true
  among_changed p a zero low high differs = absurd (omega arith)
  among_changed p a (suc k) low high differs =
      ⊎_elim
      (λ (same : a ≡ p).
      let here : page_differs before now a ≡ true = subst (λ (q : ℕ). page_differs before now q ≡ true) (sym same) differs in
      let test : eqb a p ≡ true = grind (arith, nat_tests) in
      rw (here, test) refl)
      (λ (other : a ≡ p → ⊥).
      let rest : among (numbers (changed_among (range_with_len (a + 1) k))) p ≡ true = among_changed p (a + 1) k (omega arith) (omega arith) differs in
      elim (page_differs before now a) as (λ b. among (numbers (with_first b a (range_with_len (a + 1) k))) p ≡ true) [
        | true ↦ or_true (eqb a p) (among (numbers (changed_among (range_with_len (a + 1) k))) p) rest
        | false ↦ rest
      ])
      (cases_eq a p)
    where
      or_true : (a b : Bool) → b ≡ true → (a || b) ≡ true
      or_true true b is = refl
      or_true false b is = is

differs_not : (a b : List ℕ) → not (bytes_eq a b) ≡ true → a ≢ b
differs_not a b test same = absurd (false≢true (sym (ap not ((bytes_eq-Decides a b).1 same)) ∙ test))

same_not : (a b : List ℕ) → not (bytes_eq a b) ≡ false → a ≡ b
same_not a b test = (bytes_eq-Decides a b).0 (is_true (bytes_eq a b) test)
  where
    is_true : (c : Bool) → not c ≡ false → c ≡ true
    is_true true is = refl
    is_true false is = absurd (false≢true (sym is))

module _ (n : ℕ) (before now : List ℕ) (old_size : length before ≡ 256 * n) (size : length now ≡ 256 * n) where
  pub counted_pages : length now / 256 ≡ n
  counted_pages = rw size (let many : 256 * n / 256 ≡ n = omega arith in many)

  pub as_changed : changed_pages (Some before) now ≡ changed_among before now (range_with_len 0 n)
  as_changed = ap (λ (m : ℕ). changed_among before now (range_with_len 0 m)) counted_pages

  each_changed : (a k : ℕ) → a + k ≤ n → AllByRecursion (IsChangedPage before) (changed_among before now (range_with_len a k))
  each_changed a zero le = tt
  each_changed a (suc k) le = here (page_differs before now a) refl (each_changed (a + 1) k (omega arith))
    where
      here : (b : Bool) → page_differs before now a ≡ b → AllByRecursion (IsChangedPage before) (changed_among before now (range_with_len (a + 1) k)) → AllByRecursion (IsChangedPage before) (with_first before now b a (range_with_len (a + 1) k))
      here true is rest = (record { within = omega arith; bytes = length-page_of n a now size (omega arith); differs = differs_not (page_of before a) (page_of now a) is }, rest)
      here false is rest = rest

  pub own_pages : AreOwn n now (changed_pages (Some before) now)
  own_pages = subst (AreOwn n now) (sym as_changed) (own_changed before now n 0 n (omega arith))

  pub within_pages : AreWithin n (changed_pages (Some before) now)
  within_pages = AreWithin-own n now size (changed_pages (Some before) now) own_pages

  pub few_pages : length (changed_pages (Some before) now) ≤ n
  few_pages = subst (λ (es : List Page). length es ≤ n) (sym as_changed) (few_changed before now 0 n)

  pub rising_pages : IsTrue (rise_from page_rank 0 (changed_pages (Some before) now))
  rising_pages = subst (λ (es : List Page). IsTrue (rise_from page_rank 0 es)) (sym as_changed) (rising_changed before now 0 0 n (omega arith))

  pub changed_are : AreChangedPages before (changed_pages (Some before) now)
  changed_are = record { rising = rising_pages; each = subst (AllByRecursion (IsChangedPage before)) (sym as_changed) (each_changed 0 n (omega arith)) }

  unchanged : (p : ℕ) → p < n → among (numbers (changed_pages (Some before) now)) p ≡ false → page_of before p ≡ page_of now p
  unchanged p lt none = here (page_differs before now p) refl
    where
      here : (b : Bool) → page_differs before now p ≡ b → page_of before p ≡ page_of now p
      here true is = absurd (false≢true (sym none ∙ ap (λ (es : List Page). among (numbers es) p) as_changed ∙ among_changed before now p 0 n (omega arith) (omega arith) is))
      here false is = same_not (page_of before p) (page_of now p) is

  page_of-changed : (p : ℕ) → p < n → (b : Bool) → among (numbers (changed_pages (Some before) now)) p ≡ b → bytes_or (page_of before p) (newest p (changed_pages (Some before) now)) ≡ page_of now p
  page_of-changed p lt true is =
      below_newest p (changed_pages (Some before) now) (page_of before p) (page_of now p) is
      ∙ sym (page_of-overlay n now (changed_pages (Some before) now) p size within_pages)
      ∙ ap (λ (x : List ℕ). page_of x p) (overlay-own n now size (changed_pages (Some before) now) own_pages)
  page_of-changed p lt false is = ap (bytes_or (page_of before p)) (none_newest p (changed_pages (Some before) now) is) ∙ unchanged p lt is

  -- laid over the bytes at the begin they are the bytes now
  pub overlay-changed : overlay before (changed_pages (Some before) now) ≡ now
  overlay-changed =
      same_pages n (overlay before (changed_pages (Some before) now)) now (length-overlay n before (changed_pages (Some before) now) old_size within_pages) size
      (λ p lt. page_of-overlay n before (changed_pages (Some before) now) p old_size within_pages ∙ page_of-changed p lt (among (numbers (changed_pages (Some before) now)) p) refl)

-- ---- the record of the turn

pub are_pages : (n : ℕ) (es : List Page) → n ≤ 4096 → AreWithin n es → AllByRecursion IsPage es
are_pages n [] le within = tt
are_pages n (e ∷ es) le within = (record { page = omega (arith, within.0.0); bytes = within.0.1 }, are_pages n es le within.1)

pub all_within : (n : ℕ) (es : List Page) → AreWithin n es → are_within n es ≡ true
all_within n [] within = refl
all_within n (e ∷ es) within = let first : nat_lt e.page n ≡ true = (let lt : e.page < n = within.0.0 in grind (arith, nat_tests)) in rw first (all_within n es within.1)

fits_with : (turn : ℕ) (e : Effects) (es : List Page) → IsRecord One (record_of turn e []) → length es ≤ 4096 → AllByRecursion IsPage es → IsTrue (rise_from page_rank 0 es) → IsRecord One (record_of turn e es)
fits_with turn e es is few pages rising = record {
  turn = is.turn;
  stamp = is.stamp;
  from = is.from;
  number = is.number;
  lists = (is.lists.0, is.lists.1, is.lists.2, (few, pages));
  numbered = is.numbered;
  rising = rising;
}

and_both : (a b c : Bool) → a && b ≡ true → c ≡ true → a && c ≡ true
and_both true b c one two = two
and_both false b c one two = one

follows_with : (o : Owner) (n : Numbers) (turn : ℕ) (e : Effects) (es : List Page) → follows o n (record_of turn e []) ≡ true → are_within o.pages es ≡ true → follows o n (record_of turn e es) ≡ true
follows_with o n turn e es is within =
    and_both (comes_next o n (record_of turn e []) && sends_follow o.nodes n.sent e.sends && outs_follow n.outputs e.outs) true (are_within o.pages es) is within

-- of a turn that is begun on a heap of these bytes
pub record Comes (o : Owner) (n : Numbers) (turn : ℕ) (e : Effects) (begun : Option (List ℕ)) (bytes : List ℕ) : Type 0 where
  pub fits : IsRecord One (record_of turn e (changed_pages begun bytes))
  pub follow : follows o n (record_of turn e (changed_pages begun bytes)) ≡ true
  pub changed : AreChangedPages (sealed_bytes bytes begun) (changed_pages begun bytes)
  pub laid : overlay (sealed_bytes bytes begun) (changed_pages begun bytes) ≡ bytes

module _ (o : Owner) (n : Numbers) (turn : ℕ) (e : Effects) (bytes : List ℕ) (most : o.pages ≤ 4096) (fits : IsRecord One (record_of turn e [])) (follow : follows o n (record_of turn e []) ≡ true) (size : length bytes ≡ 256 * o.pages) where
  pub comes : (begun : Option (List ℕ)) → ((b : List ℕ) → begun ≡ Some b → length b ≡ 256 * o.pages) → IsSome begun → Comes o n turn e begun bytes
  comes None sizes some = absurd cc
  comes (Some before) sizes some =
      let es : List Page = changed_pages (Some before) bytes in
      let old_size : length before ≡ 256 * o.pages = sizes before refl in
      let within : AreWithin o.pages es = within_pages o.pages before bytes old_size size in
      let few : length es ≤ o.pages = few_pages o.pages before bytes old_size size in
      record {
        fits = fits_with turn e es fits (omega (arith, few)) (are_pages o.pages es most within) (rising_pages o.pages before bytes old_size size);
        follow = follows_with o n turn e es follow (all_within o.pages es within);
        changed = changed_are o.pages before bytes old_size size;
        laid = overlay-changed o.pages before bytes old_size size;
      }

pub record_long : (r : Record) → IsRecord One r → length (record_bytes One r) ≤ 1081842
record_long r is = omega (arith, length-append (number 4 (length (fields One r))) (fields One r), number_long 4 (length (fields One r)), fields_fit r is)

-- frames that are shared, as pages
frame_pages-map : {Z : Type 0} (es : List (ℕ × Arc (List ℕ) Z)) → frame_pages es ≡ map as_page (shared_pages es)
frame_pages-map [] = refl
frame_pages-map (e ∷ es) = ap (λ (ps : List Page). frame_page e ∷ ps) (frame_pages-map es)

pub frames_are : {Z : Type 0} (es : List (ℕ × Arc (List ℕ) Z)) (now : List ℕ) (begun : Option (List ℕ)) → IsSome begun → IfSome begun (λ before. shared_pages es ≡ frozen_pages before now) → frame_pages es ≡ changed_pages begun now
frames_are es now None some is = absurd cc
frames_are es now (Some before) some is = frame_pages-map es ∙ ap (map as_page) is

-- ---- the numbers after one record more

module _ (o : Owner) (m : Numbers) (r : Record) (follow : follows o m r ≡ true) where
  after_one : (place : ℕ) → after_records o place m (r ∷ []) ≡ Ok (after_record m r)
  after_one place = rw follow refl

  records_step : (place : ℕ) (n : Numbers) (s : Record) (rs : List Record) (test : Bool)
      → ((place : ℕ) (n : Numbers) → after_records o place n rs ≡ Ok m → after_records o place n (rs ++ r ∷ []) ≡ Ok (after_record m r))
      → (if test then after_records o (place + (1 + length (record_bytes One s))) (after_record n s) rs else Err place) ≡ Ok m
      → (if test then after_records o (place + (1 + length (record_bytes One s))) (after_record n s) (rs ++ r ∷ []) else Err place) ≡ Ok (after_record m r)
  records_step place n s rs true rest is = rest (place + (1 + length (record_bytes One s))) (after_record n s) is
  records_step place n s rs false rest is = absurd (let none : ⊥ = cc is in none)

  records_more : (rs : List Record) (place : ℕ) (n : Numbers) → after_records o place n rs ≡ Ok m → after_records o place n (rs ++ r ∷ []) ≡ Ok (after_record m r)
  records_more [] place n is =
      let same : n ≡ m = cc is in
      subst (λ (k : Numbers). after_records o place k (r ∷ []) ≡ Ok (after_record m r)) (sym same) (after_one place)
  records_more (s ∷ rs) place n is = records_step place n s rs (follows o n s) (records_more rs) is

  start_more : (place : ℕ) (start : Option Numbers) (rs : List Record) → numbers_from o place start rs ≡ Ok m → numbers_from o place start (rs ++ r ∷ []) ≡ Ok (after_record m r)
  start_more place (Some n) rs is = records_more rs place n is
  start_more place None rs is = absurd (let none : ⊥ = cc is in none)

  pub numbers_more : (head : Header) (base : Option Base) (rs : List Record) → numbers_of o head base rs ≡ Ok m → numbers_of o head base (rs ++ r ∷ []) ≡ Ok (after_record m r)
  numbers_more head base rs is = start_more (32 + head.base_len) (start_of o head base) rs is

pub items_more : {A : Type 0} (P : A → Type 0) (xs : List A) (x : A) → AllByRecursion P xs → P x → AllByRecursion P (xs ++ x ∷ [])
items_more P [] x all one = (one, tt)
items_more P (y ∷ ys) x all one = (all.0, items_more P ys x all.1 one)

-- ---- what the disk of the log mounts as after a seal

module _ (T : Type 0) (item : Record) (head : Header) (base : Option Base) (rs : List Record) where
  pub mounts_more : (x : T) (a b : Option Story) → Follows (λ (h s : Story). Changes {T = T} (mount_of h.now.seen) (with_record item (mount_of h.now.seen)) 2 (Ok x) h s) a b
      → Tells a (λ h. mount_of h.now.seen ≡ mounts.Whole head base rs) → Tells b (λ h. IsAtRest h.now)
      → Tells b (λ h. mount_of h.now.seen ≡ mounts.Whole head base (rs ++ item ∷ []))
  mounts_more x None b follow is rests h told = absurd (let none : ⊥ = cc (follow, told) in none)
  mounts_more x (Some old) b follow is rests h told =
      let same : follow.0 ≡ h = some_is follow.0 h (sym follow.1 ∙ told) in
      let leaves : Leaves (MountsAs (with_record item (mount_of old.now.seen))) h.now = subst (λ (s : Story). Leaves (MountsAs (with_record item (mount_of old.now.seen))) s.now) same follow.2.ok in
      leaves h.now.seen (image-seen_at_rest h.now (rests h told)) ∙ ap (with_record item) (is old refl)

  pub mounts_same : (a b : Option Story) → Follows (λ (h s : Story). Changes {T = T} (mount_of h.now.seen) (with_record item (mount_of h.now.seen)) 2 (Err seals.Memory) h s) a b
      → Tells a (λ h. mount_of h.now.seen ≡ mounts.Whole head base rs) → Tells b (λ h. IsAtRest h.now)
      → Tells b (λ h. mount_of h.now.seen ≡ mounts.Whole head base rs)
  mounts_same None b follow is rests h told = absurd (let none : ⊥ = cc (follow, told) in none)
  mounts_same (Some old) b follow is rests h told =
      let same : follow.0 ≡ h = some_is follow.0 h (sym follow.1 ∙ told) in
      let through : Through (MountsAs (mount_of old.now.seen)) old h = subst (λ (s : Story). Through (MountsAs (mount_of old.now.seen)) old s) same (follow.2.memory refl) in
      through.each h.now.seen (now_too old h h.now.seen through.on (image-seen_at_rest h.now (rests h told))) ∙ is old refl

-- what a disk told before, where it tells now
pub told_before : (R : Story → Story → Type 0) (a b : Option Story) → Follows R a b → Tells b (λ h. (h0 : Story) × (a ≡ Some h0))
told_before R a b follow = tells_after R (λ h. (h0 : Story) × (a ≡ Some h0)) a b follow (λ x y is r. (x, is))

-- ---- a side that takes calls

module _ {D : Type 0} (told : D → Option Story) (size : D → ℕ) (old new : TurnSide D) (is : Turning told size old) where
  -- nothing of the log changed, and the heap has its pages
  pub turning_kept : KeepsLog old new → HasPages old.owner.pages (heap_in new.objects) → Turning told size new
  turning_kept same heap = record {
    owner = rw same.owner is.owner;
    log = rw same.log is.log;
    mounts = rw (same.log, same.records) is.mounts;
    count = rw (same.log, same.records) is.count;
    items = rw same.records is.items;
    numbers = rw (same.owner, same.log, same.records, same.numbers) is.numbers;
    heap = rw same.owner heap;
    turns = rw (same.base_turns, same.log) is.turns;
    rests = rw same.other is.rests;
    other = rw (same.log, same.other, same.owner) is.other;
  }

  -- nor did the heap
  pub turning_same : KeepsLog old new → heap_in new.objects ≡ heap_in old.objects → Turning told size new
  turning_same same objects = turning_kept same (subst (HasPages old.owner.pages) (sym objects) is.heap)

  -- another log took the place of the one there was, with the same head, and these records
  pub turning_with : (log : Log D) (rs : List Record) (n : Numbers) → IsSameNode old new → new.log ≡ log → log.header ≡ old.log.header → log.base ≡ old.log.base
      → new.records.items ≡ rs → new.numbers ≡ n → new.base_turns.items ≡ old.base_turns.items → HasPages old.owner.pages (heap_in new.objects)
      → IsSettled told size log → log.records ≡ length rs → Tells (told log.disk) (λ h. mount_of h.now.seen ≡ mounts.Whole old.log.header old.log.base rs)
      → AllByRecursion (IsRecord One) rs → numbers_of old.owner old.log.header old.log.base rs ≡ Ok n → Tells (told log.disk) (λ h. (h0 : Story) × (told old.log.disk ≡ Some h0)) → Turning told size new
  turning_with log rs n node now head base records numbers base_turns heap settled count mounts items counted follows = record {
    owner = rw node.owner is.owner;
    log = rw now settled;
    mounts = rw (now, head, base, records) mounts;
    count = rw (now, records) count;
    items = rw records items;
    numbers = rw (node.owner, now, head, base, records, numbers) counted;
    heap = rw node.owner heap;
    turns = rw (base_turns, now, base) is.turns;
    rests = rw node.other is.rests;
    other = λ h th s ts.
        let before = follows h (ap (λ (l : Log D). told l.disk) (sym now) ∙ th) in
        rw (node.owner, now, head) (is.other before.0 before.1 s (ap told (sym node.other) ∙ ts));
  }

-- ---- the pages after a seal

pub pages_are : (g h : List ℕ) (l m : List Layer) → g ≡ h → l ≡ m → ◌≡◌ {A = TurnPages} (record { heap = g; live = l }) (record { heap = h; live = m })
pages_are g h l m heap live = cc (heap, live)

pub live_more : (head : Header) (base : Option Base) (turns : List ℕ) (rs : List Record) (r : Record) → live_layers head base turns (rs ++ r ∷ []) ≡ live_layers head base turns rs ++ record_layer r ∷ []
live_more head base turns rs r = ap (λ (ls : List Layer). base_layers head base turns ++ ls) (map-append record_layer rs (r ∷ [])) ∙ sym (append_assoc (base_layers head base turns) (map record_layer rs) (record_layer r ∷ []))

module _ {D : Type 0} (e : Effects) (old new : TurnSide D) (pages : List Page) where
  pub sealed_is : pages ≡ changed_pages old.objects.begun old.objects.bytes → overlay (sealed_bytes old.objects.bytes old.objects.begun) (changed_pages old.objects.begun old.objects.bytes) ≡ old.objects.bytes
      → new.records.items ≡ old.records.items ++ record_of (old.numbers.turns + 1) e pages ∷ [] → heap_in new.objects ≡ record (heap_in old.objects) { begun = None }
      → new.log.header ≡ old.log.header → new.log.base ≡ old.log.base → new.base_turns.items ≡ old.base_turns.items
      → turn_pages new ≡ sealed_pages (old.numbers.turns + 1) pages (turn_pages old)
  sealed_is changed laid records objects head base base_turns =
      pages_are _ _ _ _
      (ap (λ (h : Heap). sealed_bytes h.bytes h.begun) objects ∙ sym laid ∙ ap (overlay (sealed_bytes old.objects.bytes old.objects.begun)) (sym changed))
      (rw (head, base, base_turns, records) (live_more old.log.header old.log.base old.base_turns.items old.records.items (record_of (old.numbers.turns + 1) e pages)))

-- where nothing was sealed, the disk of the log is as it was
pub unsealed : {D : Type 0} (T : Type 0) (told : D → Option Story) (size : D → ℕ) (count : D → ℕ) (ahead : D → Option Fate) (log : Log D) (item : Record) (on : D) → on ≡ log.disk → IsSettled told size log → IsRecord One item → SealsOn {T = T} told count ahead (Err seals.Memory) log.end item log.disk on
unsealed {D} T told size count ahead log item on same settled fits = subst (λ (d : D). SealsOn {T = T} told count ahead (Err seals.Memory) log.end item log.disk d) (sym same) (record {
  story = seal_changes told size log item (record_bytes One item ++ 0 ∷ []) settled fits refl {T = T} (Err disk.Memory) (told log.disk) (told_none T _ _ _ _ refl);
  calls = told_none T _ _ _ _ refl;
  cause = refl;
  fate = fate_kept T (ahead log.disk) (ahead log.disk) refl;
})

-- ---- the same of another answer with this fault

follows_as : {X : Type 0} (R Q : X → X → Type 0) → ((h s : X) → R h s → Q h s) → (a b : Option X) → Follows R a b → Follows Q a b
follows_as R Q to (Some h) b follow = (follow.0, follow.1, to h follow.0 follow.2)
follows_as R Q to None b follow = follow

fault_is : (T : Type 0) (e f : SealFault) → ◌≡◌ {A = Result T SealFault} (Err e) (Err f) → e ≡ f
fault_is T e f is = cc

changes_as : (T U : Type 0) (e : SealFault) (before after : Mounted) (count : ℕ) (h s : Story) → Changes {T = T} before after count (Err e) h s → Changes {T = U} before after count (Err e) h s
changes_as T U e before after count h s is = record {
  any_moment = is.any_moment;
  ok = tt;
  memory = λ err. is.memory (ap Err (fault_is U e seals.Memory err));
  in_doubt = λ err. is.in_doubt (ap Err (fault_is U e seals.Disk err));
}

module _ {D : Type 0} (T U : Type 0) (told : D → Option Story) (count : D → ℕ) (ahead : D → Option Fate) (place : ℕ) (item : Record) (old new : D) where
  changed_as : (e : SealFault) → Follows (λ (h s : Story). Changes {T = T} (mount_of h.now.seen) (with_record item (mount_of h.now.seen)) 2 (Err e) h s) (told old) (told new) → Follows (λ (h s : Story). Changes {T = U} (mount_of h.now.seen) (with_record item (mount_of h.now.seen)) 2 (Err e) h s) (told old) (told new)
  changed_as e = follows_as (λ (h s : Story). Changes {T = T} (mount_of h.now.seen) (with_record item (mount_of h.now.seen)) 2 (Err e) h s) (λ (h s : Story). Changes {T = U} (mount_of h.now.seen) (with_record item (mount_of h.now.seen)) 2 (Err e) h s) (λ h s is. changes_as T U e (mount_of h.now.seen) (with_record item (mount_of h.now.seen)) 2 h s is) (told old) (told new)

  pub seals_as : (e : SealFault) → SealsOn {T = T} told count ahead (Err e) place item old new → SealsOn {T = U} told count ahead (Err e) place item old new
  seals_as seals.Disk is = record { story = changed_as seals.Disk is.story; calls = is.calls; cause = is.cause; fate = is.fate }
  seals_as seals.Memory is = record { story = changed_as seals.Memory is.story; calls = is.calls; cause = is.cause; fate = is.fate }
