-- Pages are written, rising, and then synced.
use Rattle.std.proofs.Common.{◌≡◌, ℕ, ◌+◌, ◌-◌, ◌<◌, ◌≤◌, max, suc, zero, List, [], ◌∷◌, ◌++◌, map, length, get_or, take, drop, replicate, refl, sym, ap, subst, ◌∙◌, append_assoc, arith, length-append, drop-cons, Option, Result, Ok, Err, true, false, ⊎_elim}
use Rattle.std.specs.Prelude.{◌==◌, if◌then◌else◌, OnOk}
use Rattle.std.specs.List.{flat_map, range_with_len}
use Rattle.std.proofs.lemmas.List.{append-nil, take-append-drop, take_at, get_or-drop, length-take-le}
use Rattle.std.proofs.lemmas.List.FromFn.{length-map-range_with_len, get_or-map-range_with_len, take-map-range_with_len, map-range_with_len_more}
use Rattle.ken_disk.specs.declared.faults.DiskFault.{DiskFault}
use Rattle.ken_disk.specs.declared.faults.DiskFault.TheVariants.{Failed, Memory}
use Rattle.ken_disk.specs.Bytes.{overwrite, IsIn, furthest}
use Rattle.ken_disk.specs.Causes.{HasCause}
use Rattle.ken_disk.specs.Fates.{Fate, Suffers}
use Rattle.ken_disk.specs.Story.{DiskState, Story, IsImage, IsAtRest, Leaves, Tells, Follows}
use Rattle.ken_disk.specs.Moments.{Through}
use Rattle.ken_disk.specs.Steps.{went, written, made_safe, after_writing, after_syncing, after_write, after_sync}
use Rattle.ken_disk.specs.Through.{Torn}
use Rattle.ken_disk.proofs.Images.{image-seen_at_rest, image-overwrite, rests-made_safe, Torn-same, Torn-by_place}
use Rattle.ken_disk.proofs.Overwrites.{length-overwrite}
use Rattle.ken_disk.proofs.Since.{stays, moved, joined, then_to}
use Rattle.ken_disk.proofs.Told.{by_step, by_none, one_by_one, weakened, tells_after}
use Rattle.ken_image.specs.Calls.{Call, Write, Sync, Called, Stop, after_calls, after_call, after_failure}
use Rattle.ken_image.specs.Pages.{place_of, first_page, first_image, page_write, format_calls}
use Rattle.ken_image.proofs.Called.{wrote_ok}

pub after_calls-append : (done more : List Call) (h : Story) → after_calls (done ++ more) h ≡ after_calls more (after_calls done h)
after_calls-append [] more h = refl
after_calls-append (call ∷ done) more h = after_calls-append done more (after_call call h)

-- the writes of the first pages
abbrev pub writes : List ℕ → ℕ → List Call
writes first count = map (page_write first) (range_with_len 0 count)

-- ---- the loop

-- so many pages are written
pub record Filled {D : Type 0} (told : D → Option Story) (size faults : D → ℕ) (fate : D → Option Fate) (first : List ℕ) (count : ℕ) (old now : D) : Type 0 where
  pub story : Follows (λ h s. s ≡ after_calls (writes first count) h) (told old) (told now)
  pub room : place_of count ≤ size now
  pub quiet : faults now ≡ faults old
  pub up : fate now ≡ fate old

module _ {D : Type 0} (told : D → Option Story) (size faults : D → ℕ) (fate : D → Option Fate) (first : List ℕ) where
  pub filled_none : (disk : D) → Filled told size faults fate first 0 disk disk
  filled_none disk = record {
    story = by_none (λ h s. s ≡ after_calls (writes first 0) h) (told disk) (told disk) refl (λ h. refl);
    room = omega arith;
    quiet = refl;
    up = refl;
  }

  module _ (count : ℕ) (old mid new : D) (filled : Filled told size faults fate first count old mid) {T : Type 0} (r : Result T DiskFault) where
    module _ (x : T) (ok : r ≡ Ok x) (wrote : told new ≡ went (after_write (place_of count) (first_page first count) r) (told mid)) where
      one_more_page : (a b c : Story) → b ≡ after_calls (writes first count) a → c ≡ after_writing (place_of count) (first_page first count) b → c ≡ after_calls (writes first (count + 1)) a
      one_more_page a b c one two =
          two ∙ ap (after_writing (place_of count) (first_page first count)) one
          ∙ sym (after_calls-append (writes first count) (page_write first count ∷ []) a)
          ∙ ap (λ (l : List Call). after_calls l a) (sym (map-range_with_len_more (page_write first) 0 count count (omega arith)))

      pub filled_more : size new ≡ max (size mid) (place_of count + 256) → faults new ≡ faults mid → fate new ≡ fate mid → Filled told size faults fate first (count + 1) old new
      filled_more long quiet up = record {
        story = one_by_one (λ h s. s ≡ after_calls (writes first count) h) (λ h s. s ≡ after_writing (place_of count) (first_page first count) h) (λ h s. s ≡ after_calls (writes first (count + 1)) h)
            (told old) (told mid) (told new) filled.story (wrote_ok (λ h s. s ≡ after_writing (place_of count) (first_page first count) h) x r (told mid) (told new) ok (place_of count) (first_page first count) wrote (λ h is. refl)) (λ a b c is. one_more_page a b c);
        room = omega (arith, long, filled.room);
        quiet = quiet ∙ filled.quiet;
        up = up ∙ filled.up;
      }

    -- a write didn't come through
    stop_at : (pages : ℕ) → count < pages → Stop (format_calls pages first)
    stop_at pages less = record {
      done = writes first count;
      next = page_write first count;
      left = drop (suc count) (writes first pages) ++ Sync ∷ [];
      parts =
          ap (λ (l : List Call). l ++ Sync ∷ []) (sym (take-append-drop count (writes first pages))
          ∙ ap (λ (l : List Call). l ++ drop count (writes first pages)) (take-map-range_with_len (page_write first) 0 pages count (omega arith))
          ∙ ap (λ (l : List Call). writes first count ++ l) (drop-cons (writes first pages) count Sync (omega (arith, length-map-range_with_len (page_write first) 0 pages))
          ∙ ap (λ (w : Call). w ∷ drop (suc count) (writes first pages)) (get_or-map-range_with_len (page_write first) 0 pages count count Sync less (omega arith))))
          ∙ append_assoc (writes first count) (page_write first count ∷ drop (suc count) (writes first pages)) (Sync ∷ []);
    }

    stopped : (pages : ℕ) → (less : count < pages) → (e : DiskFault) (a b : Story) → b ≡ after_calls (writes first count) a → Called {T = T} (Err e) (format_calls pages first) a (after_write {T = T} (place_of count) (first_page first count) (Err e) b)
    unfolding stop_at
    stopped pages less Failed a b is = (stop_at pages less, ap (after_writing (place_of count) (first_page first count)) is)
    stopped pages less Memory a b is = (stop_at pages less, is)

    pub filled_stops : (pages : ℕ) → count < pages → (e : DiskFault) → r ≡ Err e → told new ≡ went (after_write (place_of count) (first_page first count) r) (told mid) → Follows (Called {T = T} (Err e) (format_calls pages first)) (told old) (told new)
    filled_stops pages less e err wrote =
        one_by_one (λ h s. s ≡ after_calls (writes first count) h) (λ h s. s ≡ after_write {T = T} (place_of count) (first_page first count) (Err e) h) (Called {T = T} (Err e) (format_calls pages first))
        (told old) (told mid) (told new) filled.story
        (by_step (after_write {T = T} (place_of count) (first_page first count) (Err e)) (λ h s. s ≡ after_write {T = T} (place_of count) (first_page first count) (Err e) h) (told mid) (told new)
        (subst (λ (q : Result T DiskFault). told new ≡ went (after_write (place_of count) (first_page first count) q) (told mid)) err wrote) (λ h is. refl))
        (λ a b c _ one two. subst (Called {T = T} (Err e) (format_calls pages first) a) (sym two) (stopped pages less e a b one))

    pub filled_cause : (e : DiskFault) → r ≡ Err e → HasCause (faults mid) (faults new) r → HasCause {T = T} (faults old) (faults new) (Err e)
    filled_cause e err cause =
        subst (λ (n : ℕ). HasCause {T = T} n (faults new) (Err e)) filled.quiet (subst (λ (q : Result T DiskFault). HasCause (faults mid) (faults new) q) err cause)

    pub filled_fate : (e : DiskFault) → r ≡ Err e → Follows (Suffers r) (fate mid) (fate new) → Follows (Suffers {T = T} (Err e)) (fate old) (fate new)
    filled_fate e err suffers =
        subst (λ (o : Option Fate). Follows (Suffers {T = T} (Err e)) o (fate new)) filled.up (subst (λ (q : Result T DiskFault). Follows (Suffers q) (fate mid) (fate new)) err suffers)

    pub filled_room : size new ≡ size mid → OnOk r (place_of count ≤ size new)
    filled_room same = elim r as (λ q. OnOk q (place_of count ≤ size new)) [ Ok x ↦ let room : place_of count ≤ size new = omega (arith, same, filled.room) in room | Err e ↦ tt ]

    -- all pages are written, and then the sync answered
    all_but_sync : (a b : Story) → b ≡ after_calls (writes first count) a → Called r (format_calls count first) a (after_sync r b)
    all_but_sync a b is = by_cases r
      where
        by_cases : (q : Result T DiskFault) → Called q (format_calls count first) a (after_sync q b)
        by_cases (Ok x) = ap after_syncing is ∙ sym (after_calls-append (writes first count) (Sync ∷ []) a)
        by_cases (Err Failed) = (record { done = writes first count; next = Sync; left = []; parts = refl }, is)
        by_cases (Err Memory) = (record { done = writes first count; next = Sync; left = []; parts = refl }, is)

    pub filled_synced : told new ≡ went (after_sync r) (told mid) → Follows (Called r (format_calls count first)) (told old) (told new)
    filled_synced made =
        one_by_one (λ h s. s ≡ after_calls (writes first count) h) (λ h s. s ≡ after_sync r h) (Called r (format_calls count first))
        (told old) (told mid) (told new) filled.story (by_step (after_sync r) (λ h s. s ≡ after_sync r h) (told mid) (told new) made (λ h is. refl))
        (λ a b c _ one two. subst (Called r (format_calls count first) a) (sym two) (all_but_sync a b one))

-- ---- what a crash leaves meanwhile

-- of calls that write nothing past n: the disk's bytes there are those that were there
record Within (n : ℕ) (old : List ℕ) (s : DiskState) : Type 0 where
  torn : Torn 0 n old s.synced
  pending : (place : ℕ) → IsIn place s.pending → place < n
  end : furthest (length s.synced) s.pending ≤ max (length s.synced) n
  seen : IsImage s s.seen

module _ (n : ℕ) (old : List ℕ) where
  -- a place behind the torn range
  behind : (image : List ℕ) → Torn 0 n old image → (place : ℕ) → n ≤ place → get_or image place 0 ≡ get_or old place 0
  behind image torn place le =
      let there : 0 + n + (place - n) ≡ place = omega arith in
      ap (λ (i : ℕ). get_or image i 0) (sym there) ∙ sym (get_or-drop (0 + n) image (place - n) 0)
      ∙ ap (λ (l : List ℕ). get_or l (place - n) 0) torn.after ∙ get_or-drop (0 + n) old (place - n) 0 ∙ ap (λ (i : ℕ). get_or old i 0) there

  within_leaves : (s : DiskState) → Within n old s → Leaves (Torn 0 n old) s
  within_leaves s w image is =
      Torn-by_place 0 n old image (omega arith) (omega (arith, is.no_shorter, w.torn.no_shorter)) (omega (arith, is.no_longer, w.end, w.torn.no_longer))
      (λ place before. absurd (let no : ⊥ = omega (arith, before) in no))
      (λ place inside le.
      is.same place (omega (arith, inside, w.torn.no_shorter)) (λ among. let less = w.pending place among in let no : ⊥ = omega (arith, less, le) in no)
      ∙ behind s.synced w.torn place (omega (arith, le)))

  within_write : (at : ℕ) (bytes : List ℕ) (s : DiskState) → at ≤ length s.seen → at + length bytes ≤ n → Within n old s → Within n old (written at bytes s)
  within_write at bytes s inside fits w = record {
    torn = w.torn;
    pending = λ place among. ⊎_elim (λ h. let less : place < n = omega (arith, h.1, fits) in less) (w.pending place) among;
    end = omega (arith, w.end, fits);
    seen = image-overwrite at bytes s s.seen inside w.seen;
  }

  within_sync : (s : DiskState) → Within n old s → Within n old (made_safe s)
  within_sync s w = record {
    torn = within_leaves s w s.seen w.seen;
    pending = λ place among. absurd among;
    end = omega arith;
    seen = image-seen_at_rest (made_safe s) (rests-made_safe s);
  }

  -- each write begins on the disk or at its end, and ends at most at n
  abbrev Fit : List Call → List ℕ → Type 0
  Fit [] seen = Unit {0}
  Fit (Write at bytes ∷ calls) seen = (at ≤ length seen) × (at + length bytes ≤ n) × Fit calls (overwrite at bytes seen)
  Fit (Sync ∷ calls) seen = Fit calls seen

  through_all : (done more : List Call) (h : Story) → Within n old h.now → Fit (done ++ more) h.now.seen
      → Through (Torn 0 n old) h (after_calls done h) × Within n old (after_calls done h).now × Fit more (after_calls done h).now.seen
  through_all [] more h w fit = (stays (Torn 0 n old) h (within_leaves h.now w), w, fit)
  through_all (Write at bytes ∷ done) more h w fit =
      let w2 = within_write at bytes h.now fit.0 fit.1 w in
      let rest = through_all done more (after_writing at bytes h) w2 fit.2 in (
        joined (Torn 0 n old) h (after_writing at bytes h) (after_calls done (after_writing at bytes h))
            (moved (Torn 0 n old) h (written at bytes h.now) (within_leaves h.now w) (within_leaves (written at bytes h.now) w2)) rest.0,
        rest.1,
        rest.2,
      )
  through_all (Sync ∷ done) more h w fit =
      let w2 = within_sync h.now w in
      let rest = through_all done more (after_syncing h) w2 fit in (
        joined (Torn 0 n old) h (after_syncing h) (after_calls done (after_syncing h))
            (moved (Torn 0 n old) h (made_safe h.now) (within_leaves h.now w) (within_leaves (made_safe h.now) w2)) rest.0,
        rest.1,
        rest.2,
      )

  through_failure : (next : Call) (left : List Call) (a b : Story) → Through (Torn 0 n old) a b → Within n old b.now → Fit (next ∷ left) b.now.seen → Through (Torn 0 n old) a (after_failure next b)
  through_failure (Write at bytes) left a b so_far w fit =
      then_to (Torn 0 n old) a b (written at bytes b.now) so_far (within_leaves (written at bytes b.now) (within_write at bytes b.now fit.0 fit.1 w))
  through_failure Sync left a b so_far w fit = so_far

  through_called : {T : Type 0} (r : Result T DiskFault) (calls : List Call) (h s : Story) → Within n old h.now → Fit calls h.now.seen → Called r calls h s → Through (Torn 0 n old) h s
  through_called (Ok x) calls h s w fit called =
      subst (Through (Torn 0 n old) h) (sym called) (through_all calls [] h w (subst (λ (l : List Call). Fit l h.now.seen) (sym (append-nil calls)) fit)).0
  through_called (Err Failed) calls h s w fit called =
      let stop = called.0 in
      let so_far = through_all stop.done (stop.next ∷ stop.left) h w (subst (λ (l : List Call). Fit l h.now.seen) stop.parts fit) in
      subst (Through (Torn 0 n old) h) (sym called.1) (through_failure stop.next stop.left h (after_calls stop.done h) so_far.0 so_far.1 so_far.2)
  through_called (Err Memory) calls h s w fit called =
      let stop = called.0 in
      subst (Through (Torn 0 n old) h) (sym called.1) (through_all stop.done (stop.next ∷ stop.left) h w (subst (λ (l : List Call). Fit l h.now.seen) stop.parts fit)).0

within_rest : (n : ℕ) (s : DiskState) → IsAtRest s → Within n s.seen s
within_rest n s rests = record {
  torn = subst (Torn 0 n s.seen) (sym rests.safe) (Torn-same 0 n s.seen);
  pending = λ place among. absurd (rests.none place among);
  end = omega (arith, rests.within);
  seen = image-seen_at_rest s rests;
}

-- ---- of the pages of a new image

length-first_page : (first : List ℕ) (page : ℕ) → length first ≡ 256 → length (first_page first page) ≡ 256
length-first_page first page long = elim (page == 0) as (λ b. length (if b then first else replicate 256 0) ≡ 256) [ true ↦ long | false ↦ refl ]

module _ (first : List ℕ) (long : length first ≡ 256) where
  pages_fit : (n from count : ℕ) (seen : List ℕ) → place_of (from + count) ≤ n → place_of from ≤ length seen → Fit n [] (map (page_write first) (range_with_len from count) ++ Sync ∷ []) seen
  pages_fit n from zero seen end there = tt
  pages_fit n from (suc count) seen end there =
      let size = length-first_page first from long in
      (there, omega (arith, size, end), pages_fit n (from + 1) count (overwrite (place_of from) (first_page first from) seen) (omega (arith, end)) (omega (arith, size, length-overwrite (place_of from) (first_page first from) seen there)))

  -- the bytes after some calls
  abbrev over : List Call → List ℕ → List ℕ
  over [] seen = seen
  over (Write at bytes ∷ calls) seen = over calls (overwrite at bytes seen)
  over (Sync ∷ calls) seen = over calls seen

  seen-after_calls : (calls : List Call) (h : Story) → (after_calls calls h).now.seen ≡ over calls h.now.seen
  seen-after_calls [] h = refl
  seen-after_calls (Write at bytes ∷ calls) h = seen-after_calls calls (after_writing at bytes h)
  seen-after_calls (Sync ∷ calls) h = seen-after_calls calls (after_syncing h)

  -- and of each page that is written
  take-over : (from count : ℕ) (seen : List ℕ) → place_of from ≤ length seen
      → take (place_of (from + count)) (over (map (page_write first) (range_with_len from count) ++ Sync ∷ []) seen) ≡ take (place_of from) seen ++ flat_map (first_page first) (range_with_len from count)
  take-over from zero seen there = ap (λ (n : ℕ). take n seen) (let e : place_of (from + 0) ≡ place_of from = omega arith in e) ∙ sym (append-nil (take (place_of from) seen))
  take-over from (suc count) seen there =
      let size = length-first_page first from long in
      let front = length-take-le (place_of from) seen there in
      let next = overwrite (place_of from) (first_page first from) seen in
      let rest = flat_map (first_page first) (range_with_len (from + 1) count) in
      let same : place_of (from + suc count) ≡ place_of (from + 1 + count) = omega arith in
      let whole : length (take (place_of from) seen ++ first_page first from) ≡ place_of (from + 1) = omega (arith, front, size, length-append (take (place_of from) seen) (first_page first from)) in
      ap (λ (n : ℕ). take n (over (map (page_write first) (range_with_len (from + 1) count) ++ Sync ∷ []) next)) same
      ∙ take-over (from + 1) count next (omega (arith, size, length-overwrite (place_of from) (first_page first from) seen there))
      ∙ ap (λ (l : List ℕ). take (place_of (from + 1)) l ++ rest) (sym (append_assoc (take (place_of from) seen) (first_page first from) (drop (place_of from + length (first_page first from)) seen)))
      ∙ ap (λ (l : List ℕ). l ++ rest) (take_at (take (place_of from) seen ++ first_page first from) (drop (place_of from + length (first_page first from)) seen) (place_of (from + 1)) whole)
      ∙ append_assoc (take (place_of from) seen) (first_page first from) rest

  -- ---- a format

  module _ (pages : ℕ) where
    pub format_moments : {T : Type 0} (r : Result T DiskFault) (old new : Option Story) → Follows (Called r (format_calls pages first)) old new → Follows (λ h s. IsAtRest h.now → Through (Torn 0 (place_of pages) h.now.seen) h s) old new
    format_moments r old new called =
        weakened (Called r (format_calls pages first)) (λ h s. IsAtRest h.now → Through (Torn 0 (place_of pages) h.now.seen) h s) old new called
        (λ h s is made rests. through_called (place_of pages) h.now.seen r (format_calls pages first) h s (within_rest (place_of pages) h.now rests) (pages_fit (place_of pages) 0 pages h.now.seen (omega arith) (omega arith)) made)

    formatted : (h s : Story) → s ≡ after_calls (format_calls pages first) h → IsAtRest s.now × (take (place_of pages) s.now.seen ≡ first_image pages first)
    formatted h s is = (
      subst (λ (x : Story). IsAtRest x.now) (sym (is ∙ after_calls-append (writes first pages) (Sync ∷ []) h)) (rests-made_safe (after_calls (writes first pages) h).now),
      ap (λ (x : Story). take (place_of pages) x.now.seen) is ∙ ap (take (place_of pages)) (seen-after_calls (format_calls pages first) h)
          ∙ ap (λ (n : ℕ). take n (over (format_calls pages first) h.now.seen)) (let e : place_of pages ≡ place_of (0 + pages) = omega arith in e) ∙ take-over 0 pages h.now.seen (omega arith),
    )

    pub format_holds : {T : Type 0} (x : T) (r : Result T DiskFault) (old new : Option Story) → r ≡ Ok x → Follows (Called r (format_calls pages first)) old new → Tells new (λ h. IsAtRest h.now × (take (place_of pages) h.now.seen ≡ first_image pages first))
    format_holds {T = T} x r old new ok called =
        tells_after (Called {T = T} (Ok x) (format_calls pages first)) (λ h. IsAtRest h.now × (take (place_of pages) h.now.seen ≡ first_image pages first)) old new
        (subst (λ (q : Result T DiskFault). Follows (Called q (format_calls pages first)) old new) ok called) (λ h s is made. formatted h s made)
