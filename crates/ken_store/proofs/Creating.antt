-- A store is created.
use Rattle.std.proofs.Common.{◌≡◌, ℕ, zero, suc, ◌+◌, ◌-◌, ◌*◌, ◌≤◌, inl, inr, ⊎_elim, List, [], ◌∷◌, ◌++◌, map, length, take, drop, replicate, Bool, true, false, ◌==◌, refl, sym, ap, subst, ◌∙◌, arith, eq-eqb, Option, Some, None, Result, Ok, Err}
use Rattle.std.specs.Prelude.{if◌then◌else◌, OnOk, IsErrOf, IsSome}
use Rattle.std.specs.List.{flat_map, range_with_len}
use Rattle.std.proofs.Math.Seq.{drop-append-add}
use Rattle.std.proofs.lemmas.Bool.{ne_eqb}
use Rattle.std.proofs.lemmas.List.{replicate-append-replicate, drop-replicate, take-append-drop}
use Rattle.std.proofs.lemmas.List.Concat.{flat_map-cons}
use Rattle.ken_disk.specs.declared.faults.DiskFault.TheVariants as disk
use Rattle.ken_disk.specs.Story.{DiskState, Story, Follows, IsImage, IsAtRest, Leaves}
use Rattle.ken_disk.proofs.Images.{image_at_rest}
use Rattle.ken_disk.proofs.Since.{leaves_now, stays, weaker}
use Rattle.ken_disk.proofs.Told.{some_is, told_both}
use Rattle.ken_model.specs.Layout.{first_bytes, first_heap}
use Rattle.ken_model.specs.Network.{empty_heap}
use Rattle.ken_model.proofs.First.{first_is_empty}
use Rattle.ken_log.specs.declared.faults.SealFault.{SealFault}
use Rattle.ken_log.specs.declared.faults.SealFault.TheVariants.{Disk, Memory}
use Rattle.ken_log.specs.Calls.{MadeAfterRead, log_writes}
use Rattle.ken_log.specs.Formats.{IsOldOrNone, IsOldNoneOrNew, Replaces}
use Rattle.ken_log.specs.Mounts.{mount_of}
use Rattle.ken_log.specs.Mounts as mounts
use Rattle.ken_log.specs.Seals.{HasLogCause, MountsAs, MountsAsEither, as_disk}
use Rattle.ken_image.specs.Calls.{Call, Called, Sync}
use Rattle.ken_image.specs.declared.faults.ImageFault.{ImageFault}
use Rattle.ken_image.specs.declared.faults.ImageFault.TheVariants as image_faults
use Rattle.ken_image.specs.Faults as images
use Rattle.ken_image.specs.Pages.{first_page, first_image, page_write}
use Rattle.ken_image.specs.Whole.{Keeps}
use Rattle.ken_store.specs.declared.owner.Owner.{Owner}
use Rattle.ken_store.specs.declared.faults.StoreFault.{StoreFault}
use Rattle.ken_store.specs.declared.faults.StoreFault.TheVariants as store
use Rattle.ken_store.specs.declared.heads.Front.{Front}
use Rattle.ken_store.specs.declared.heads.Front.TheVariants.{Absent, Begins}
use Rattle.ken_store.specs.declared.disks.Which.TheVariants.{First}
use Rattle.ken_store.specs.Logs.{front_of, logs_of, is_owned}
use Rattle.ken_store.specs.Numbers.{no_numbers}
use Rattle.ken_store.specs.Patching.{disk_answer}
use Rattle.ken_store.specs.Reads.{of_image, of_seal}
use Rattle.ken_store.specs.Recovered.{Fresh, state_of, recovered, with_logs, with_log}
use Rattle.ken_store.specs.Turning.{log_answer}
use Rattle.ken_store.specs.Creations.{first_header, created, HoldsFirst, FreshOrCreated, Creates, FormatsLog, MayFormat, TellsStill, image_calls}
use Rattle.ken_store.proofs.Mounted.{front_none, front_whole}
use Rattle.ken_store.proofs.Recovering.{whole_answer}

-- without logs nothing is found
pub fresh : (o : Owner) (l i s : List ℕ) → mount_of l ≡ mounts.Unformatted → mount_of s ≡ mounts.Unformatted → recovered o l i s ≡ Fresh
fresh o l i s first second =
    ap (λ (f : Front). with_logs o l i s (logs_of f (front_of s))) (front_none l first)
    ∙ ap (λ (f : Front). with_logs o l i s (logs_of Absent f)) (front_none s second)

eq_self : (n : ℕ) → (n == n) ≡ true
eq_self n = eq-eqb n n refl

pub owned : (o : Owner) → is_owned o (first_header o) ≡ true
owned o = rw (eq_self o.node, eq_self o.nodes, eq_self o.pages) refl

-- over the first heap and a first log the new store is found
pub made : (o : Owner) (l i s : List ℕ) → 1 ≤ o.pages → o.pages ≤ 4096 → mount_of l ≡ mounts.Whole (first_header o) None [] → mount_of s ≡ mounts.Unformatted → HoldsFirst o.pages i → recovered o l i s ≡ created o
made o l i s some most first second holds =
    let state = state_of o.node no_numbers None [] in
    let heap : take (256 * o.pages) i ≡ first_heap o.pages = holds.holds in
    ap (λ (f : Front). with_logs o l i s (logs_of f (front_of s))) (front_whole l (first_header o) None [] first)
    ∙ ap (λ (f : Front). with_logs o l i s (logs_of (Begins (first_header o)) f)) (front_none s second)
    ∙ ap (λ m. with_log o First (Some (first_header o)) None i m) first
    ∙ rw (owned o) (whole_answer o state None [] i holds.long (empty_heap (256 * o.pages)) (rw heap (first_is_empty o.pages some most)))

-- ---- the first image is the first heap

zeros : (first : List ℕ) (a n : ℕ) → 1 ≤ a → flat_map (first_page first) (range_with_len a n) ≡ replicate (256 * n) 0
zeros first a zero some = refl
zeros first a (suc n) some =
    let later : (a == 0) ≡ false = ne_eqb a 0 (λ e. let none : ⊥ = omega (arith, e, some) in none) in
    let more : 256 + 256 * n ≡ 256 * suc n = omega arith in
    flat_map-cons (first_page first) a (range_with_len (a + 1) n)
    ∙ ap (λ (b : Bool). (if b then first else replicate 256 0) ++ flat_map (first_page first) (range_with_len (a + 1) n)) later
    ∙ ap (λ (l : List ℕ). replicate 256 0 ++ l) (zeros first (a + 1) n (omega (arith, some)))
    ∙ replicate-append-replicate 256 (256 * n) 0
    ∙ ap (λ (k : ℕ). replicate k 0) more

heap_rest : (n : ℕ) → drop 256 (first_heap (suc n)) ≡ replicate (256 * n) 0
heap_rest n =
    let left : 256 * suc n - 32 - 224 ≡ 256 * n = omega arith in
    drop-append-add (first_bytes (suc n)) (replicate (256 * suc n - 32) 0) 224
    ∙ drop-replicate 224 (256 * suc n - 32) 0
    ∙ ap (λ (k : ℕ). replicate k 0) left

pub first_image-heap : (pages : ℕ) → 1 ≤ pages → first_image pages (take 256 (first_heap pages)) ≡ first_heap pages
first_image-heap zero some = absurd (omega (arith, some))
first_image-heap (suc n) some =
    let first = take 256 (first_heap (suc n)) in
    flat_map-cons (first_page first) 0 (range_with_len 1 n)
    ∙ ap (λ (l : List ℕ). first ++ l) (zeros first 1 n (omega arith) ∙ sym (heap_rest n))
    ∙ take-append-drop 256 (first_heap (suc n))

-- ---- the stories of a creation

-- where something follows, it is told still
pub follows_still : (R : Story → Story → Type 0) (old new : Option Story) → Follows R old new → TellsStill old new
follows_still R None new follows some = absurd (let no : ⊥ = cc some in no)
follows_still R (Some h) new follows some = subst (λ (o : Option Story). IsSome o) (sym follows.1) refl

-- what is known of what was told before and after
pub follows_at : {X : Type 0} (R : X → X → Type 0) (x y : X) (old new : Option X) → Follows R old new → old ≡ Some x → new ≡ Some y → R x y
follows_at R x y old new follows was is =
    let both = told_both R x old new was follows in
    subst (R x) (some_is both.0 y (sym both.1 ∙ is)) both.2

module _ (o : Owner) (log second : Story) (log_rests : IsAtRest log.now) (second_rests : IsAtRest second.now) (log_none : mount_of log.now.seen ≡ mounts.Unformatted) (second_none : mount_of second.now.seen ≡ mounts.Unformatted) where
  none_on : (h : Story) → IsAtRest h.now → mount_of h.now.seen ≡ mounts.Unformatted → (image : List ℕ) → IsImage h.now image → mount_of image ≡ mounts.Unformatted
  none_on h rests none image is = ap mount_of (image_at_rest h.now rests image is) ∙ none

  before : (l i s : List ℕ) → IsImage log.now l → IsImage second.now s → recovered o l i s ≡ Fresh
  before l i s first other = fresh o l i s (none_on log log_rests log_none l first) (none_on second second_rests second_none s other)

  -- the log is as it was
  pub creates_not : (T : Type 0) (fault : StoreFault) (image image2 : Story) → Creates {T = T} o (Err fault) log image second log image2
  creates_not T fault image image2 = record {
    before = before;
    order = inl refl;
    logs = stays (MountsAsEither mounts.Unformatted (mounts.Whole (first_header o) None [])) log (λ b is. inl (none_on log log_rests log_none b is));
    any_moment = λ l i s may now other. inl (before l i s ((stays (IsImage log.now) log (λ l is. is)).each l may) other);
    memory = λ is l left. none_on log log_rests log_none l left;
    ok = tt;
  }

  module _ (some : 1 ≤ o.pages) (most : o.pages ≤ 4096) (image log2 image2 : Story) (holds : Leaves (HoldsFirst o.pages) image2.now) {T : Type 0} (q : Result T SealFault) (replaces : Replaces (mounts.Whole (first_header o) None []) q log log2) where
    found_on : (l i s : List ℕ) → IsOldNoneOrNew log.now (mounts.Whole (first_header o) None []) l → IsImage image2.now i → IsImage second.now s → FreshOrCreated o (recovered o l i s)
    found_on l i s any now other =
        let none = none_on second second_rests second_none s other in
        ⊎_elim (λ was. inl (before l i s was other))
        (λ rest. ⊎_elim (λ no_log. inl (fresh o l i s no_log none)) (λ whole. inr (made o l i s some most whole none (holds i now))) rest) any

    logs_on : (l : List ℕ) → IsOldNoneOrNew log.now (mounts.Whole (first_header o) None []) l → MountsAsEither mounts.Unformatted (mounts.Whole (first_header o) None []) l
    logs_on l any = ⊎_elim (λ was. inl (none_on log log_rests log_none l was)) (λ rest. rest) any

    made_on : (l i s : List ℕ) → mount_of l ≡ mounts.Whole (first_header o) None [] → IsImage image2.now i → IsImage second.now s → recovered o l i s ≡ created o
    made_on l i s whole now other = made o l i s some most whole (none_on second second_rests second_none s other) (holds i now)

    pub creates_err : (U : Type 0) (fault : StoreFault) → (fault ≡ store.Memory → IsErrOf q Memory) → Creates {T = U} o (Err fault) log image second log2 image2
    creates_err U fault memory = record {
      before = before;
      order = inr holds;
      logs = record { on = replaces.any_moment.on; each = λ l may. logs_on l (replaces.any_moment.each l may) };
      any_moment = λ l i s may now other. found_on l i s (replaces.any_moment.each l may) now other;
      memory = λ is l left. ⊎_elim (λ was. none_on log log_rests log_none l was) (λ none. none) (leaves_now (IsOldOrNone log.now) log log2 (replaces.memory (memory is)) l left);
      ok = tt;
    }

    pub creates_ok : {U : Type 0} (x : U) (y : T) → q ≡ Ok y → Creates {T = U} o (Ok x) log image second log2 image2
    creates_ok x y ok = record {
      before = before;
      order = inr holds;
      logs = record { on = replaces.any_moment.on; each = λ l may. logs_on l (replaces.any_moment.each l may) };
      any_moment = λ l i s may now other. found_on l i s (replaces.any_moment.each l may) now other;
      memory = tt;
      ok = λ l i s is now other. made_on l i s (after l is) now other;
    }
      where
        after : (l : List ℕ) → IsImage log2.now l → mount_of l ≡ mounts.Whole (first_header o) None []
        after = subst (λ (r : Result T SealFault). OnOk r (Leaves (MountsAs (mounts.Whole (first_header o) None [])) log2.now)) ok replaces.ok

-- an image that was formatted holds the first heap, and a crash leaves it so
pub holds_first : (pages : ℕ) (first : List ℕ) (s : DiskState) → 1 ≤ pages → first ≡ take 256 (first_heap pages) → IsAtRest s → Keeps pages s → take (256 * pages) s.seen ≡ first_image pages first → Leaves (HoldsFirst pages) s
holds_first pages first s some is rests keeps holds image may =
    let same = image_at_rest s rests image may in
    record {
      long = omega (arith, keeps.long, ap length rests.safe, ap length same);
      holds = ap (take (256 * pages)) same ∙ holds ∙ ap (first_image pages) is ∙ first_image-heap pages some;
    }

-- ---- the calls that the log's disk saw

pub unformatted_still : (T : Type 0) (o : Owner) (fault : StoreFault) (told : Option Story) → Follows (MayFormat {T = T} o (Err fault)) told told
unformatted_still T o fault None = refl
unformatted_still T o fault (Some h) = (h, refl, inl refl)

-- two facts of what was told before and after, and a third that follows of both
pub follows_both : (P Q R : Story → Story → Type 0) (old new : Option Story) → Follows P old new → Follows Q old new → ((h s : Story) → old ≡ Some h → P h s → Q h s → R h s) → Follows R old new
follows_both P Q R None new one two both = one
follows_both P Q R (Some h) new one two both = (one.0, one.1, both h one.0 refl one.2 (subst (Q h) (some_is two.0 one.0 (sym two.1 ∙ one.1)) two.2))

-- what may have been left of a disk at rest mounts as what it showed
as_mounted : (s : DiskState) → IsAtRest s → (image : List ℕ) → IsOldOrNone s image → MountsAsEither (mount_of s.seen) mounts.Unformatted image
as_mounted s rests image is = ⊎_elim (λ was. inl (ap mount_of (image_at_rest s rests image was))) (λ none. inr none) is

-- the log's answer is the store's
module _ {A B : Type 0} (o : Owner) (h s : Story) where
  pub formats_ok : (x : A) (y : B) → MadeAfterRead {T = A} (Ok x) (log_writes (first_header o) None h.now.seen) h s → MayFormat {T = B} o (Ok y) h s
  formats_ok x y made = (record { calls = made; in_doubt = λ no. absurd (let none : ⊥ = cc no in none) })

  pub formats_err : IsAtRest h.now → (f : SealFault) → MadeAfterRead (as_disk {T = A} (Err f)) (log_writes (first_header o) None h.now.seen) h s → Replaces {T = A} (mounts.Whole (first_header o) None []) (Err f) h s → MayFormat {T = B} o (Err (of_seal f)) h s
  formats_err rests Disk made replaces = inr (record {
    calls = made;
    in_doubt = λ _. ⊎_elim (λ early. inl (weaker (IsOldOrNone h.now) (MountsAsEither (mount_of h.now.seen) mounts.Unformatted) h s (as_mounted h.now rests) early)) (λ x. inr x.1) (replaces.in_doubt refl);
  })
  formats_err rests Memory made replaces = inr (record { calls = made; in_doubt = λ no. absurd (let none : ⊥ = cc no in none) })

-- so is the cause of its fault
pub cause_err : (A B : Type 0) (f : SealFault) (old new : ℕ) → HasLogCause {T = A} old new (Err f) → HasLogCause {T = B} old new (log_answer (Err (of_seal f)))
cause_err A B Disk old new cause = cause
cause_err A B Memory old new cause = cause

-- and want of memory is the log's
pub memory_err : (A : Type 0) (f : SealFault) → of_seal f ≡ store.Memory → IsErrOf {T = A} (Err f) Memory
memory_err A Disk is = absurd (let none : ⊥ = cc is in none)
memory_err A Memory is = refl

-- what a format of the log answers, as the store answers it
module _ {D : Type 0} (told : D → Option Story) (faults : D → ℕ) (o : Owner) (old new : D) (A B : Type 0) where
  abbrev Replaced : Result A SealFault → Type 0
  Replaced r = Follows (λ (h n : Story). IsAtRest h.now → Replaces (mounts.Whole (first_header o) None []) r h n) (told old) (told new)

  abbrev Made : Result A SealFault → Type 0
  Made r = Follows (λ (h n : Story). MadeAfterRead (as_disk r) (log_writes (first_header o) None h.now.seen) h n) (told old) (told new)

  pub formats_log_ok : (y : A) (x : B) → Replaced (Ok y) → Made (Ok y) → HasLogCause {T = A} (faults old) (faults new) (Ok y) → FormatsLog told faults o (Ok x) old new
  formats_log_ok y x replaced calls cause = (
    follows_both (λ (h n : Story). IsAtRest h.now → Replaces (mounts.Whole (first_header o) None []) (Ok y) h n)
        (λ (h n : Story). MadeAfterRead (as_disk (Ok y)) (log_writes (first_header o) None h.now.seen) h n) (MayFormat {T = B} o (Ok x)) (told old) (told new) replaced calls
        (λ h n is _ so. formats_ok o h n y x so),
    cause,
  )

  pub formats_log_err : (f : SealFault) (fault : StoreFault) → fault ≡ of_seal f → ((h : Story) → told old ≡ Some h → IsAtRest h.now) → Replaced (Err f) → Made (Err f) → HasLogCause {T = A} (faults old) (faults new) (Err f) → FormatsLog {T = B} told faults o (Err fault) old new
  formats_log_err f fault is rests replaced calls cause = subst (λ (e : StoreFault). FormatsLog {T = B} told faults o (Err e) old new) (sym is) (
    follows_both (λ (h n : Story). IsAtRest h.now → Replaces (mounts.Whole (first_header o) None []) (Err f) h n)
        (λ (h n : Story). MadeAfterRead (as_disk (Err f)) (log_writes (first_header o) None h.now.seen) h n) (MayFormat {T = B} o (Err (of_seal f))) (told old) (told new) replaced calls
        (λ h n is so made_so. formats_err o h n (rests h is) f made_so (so (rests h is))),
    cause_err A B f (faults old) (faults new) cause,
  )

-- ---- the calls that the image's disk saw

-- none of some
none_of : (T : Type 0) (calls : List Call) (h : Story) → Called {T = T} (Err disk.Memory) (calls ++ Sync ∷ []) h h
none_of T [] h = (record { done = []; next = Sync; left = []; parts = refl }, refl)
none_of T (call ∷ calls) h = (record { done = []; next = call; left = calls ++ Sync ∷ []; parts = refl }, refl)

pub no_image_call : (T : Type 0) (o : Owner) (told : Option Story) → Follows (Called {T = T} (Err disk.Memory) (image_calls o)) told told
no_image_call T o None = refl
no_image_call T o (Some h) = (h, refl, none_of T (map (page_write (take 256 (first_heap o.pages))) (range_with_len 0 o.pages)) h)

-- the image's answer is the store's
pub image_err : (A B : Type 0) (e : ImageFault) (fault : StoreFault) (calls : List Call) (old new : Option Story) → fault ≡ of_image e
    → Follows (Called (images.as_disk {T = A} (Err e)) calls) old new → Follows (Called (disk_answer {T = B} (Err fault)) calls) old new
image_err A B e fault calls old new is follows = subst (λ (f : StoreFault). Follows (Called (disk_answer {T = B} (Err f)) calls) old new) (sym is) (by_fault e follows)
  where
    by_fault : (e : ImageFault) → Follows (Called (images.as_disk {T = A} (Err e)) calls) old new → Follows (Called (disk_answer {T = B} (Err (of_image e))) calls) old new
    by_fault image_faults.Disk f = f
    by_fault image_faults.Memory f = f
