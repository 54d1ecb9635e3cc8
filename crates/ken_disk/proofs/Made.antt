-- Writes, each with its sync: what they leave, at each moment and in the end.
use Rattle.std.proofs.Common.{◌≡◌, ℕ, ◌+◌, ◌<◌, ◌≤◌, List, [], ◌∷◌, ◌++◌, length, refl, sym, ap, subst, ◌∙◌, append_assoc, arith, length-append, Option, Some, None, Result, Ok, Err}
use Rattle.std.specs.Prelude.{OnOk, OnErr}
use Rattle.std.proofs.lemmas.List.{append-nil}
use Rattle.ken_disk.specs.declared.faults.DiskFault.{DiskFault}
use Rattle.ken_disk.specs.declared.faults.DiskFault.TheVariants.{Failed, Memory}
use Rattle.ken_disk.specs.Bytes.{overwrite}
use Rattle.ken_disk.specs.Story.{Story, IsAtRest, Leaves, Tells, Follows}
use Rattle.ken_disk.specs.Moments.{WentOn, Through}
use Rattle.ken_disk.specs.Steps.{went, written, made_safe, after_writing, after_syncing, after_write, after_sync}
use Rattle.ken_disk.specs.Writes.{after_writes, Front, Made}
use Rattle.ken_disk.specs.Through.{Torn, IsWritten, WroteThrough}
use Rattle.ken_disk.proofs.Images.{at_rest_leaves, written_leaves, rests-made_safe, image-overwrite, image-seen_at_rest, Torn-same}
use Rattle.ken_disk.proofs.Told.{by_step, by_none, one_by_one, weakened}
use Rattle.ken_disk.proofs.Since.{same, one_more, on_and_on, stays, moved, joined}

-- the bytes after these writes
abbrev pub over_all : List (ℕ × List ℕ) → List ℕ → List ℕ
over_all [] bytes = bytes
over_all (write ∷ writes) bytes = over_all writes (overwrite write.0 write.1 bytes)

pub seen-after_writes : (writes : List (ℕ × List ℕ)) (h : Story) → (after_writes writes h).now.seen ≡ over_all writes h.now.seen
seen-after_writes [] h = refl
seen-after_writes (w ∷ ws) h = seen-after_writes ws (after_syncing (after_writing w.0 w.1 h))

pub syncs-after_writes : (writes : List (ℕ × List ℕ)) (h : Story) → (after_writes writes h).now.syncs ≡ h.now.syncs + length writes
syncs-after_writes [] h = omega arith
syncs-after_writes (w ∷ ws) h = let later = syncs-after_writes ws (after_syncing (after_writing w.0 w.1 h)) in omega (arith, later)

pub rests-after_writes : (writes : List (ℕ × List ℕ)) (h : Story) → IsAtRest h.now → IsAtRest (after_writes writes h).now
rests-after_writes [] h rests = rests
rests-after_writes (w ∷ ws) h rests =
    rests-after_writes ws (after_syncing (after_writing w.0 w.1 h)) (rests-made_safe (written w.0 w.1 h.now))

-- after a write with its sync nothing is pending, whatever was before
pub rests-after_some : (w : ℕ × List ℕ) (writes : List (ℕ × List ℕ)) (h : Story) → IsAtRest (after_writes (w ∷ writes) h).now
rests-after_some w ws h =
    rests-after_writes ws (after_syncing (after_writing w.0 w.1 h)) (rests-made_safe (written w.0 w.1 h.now))

pub after_writes-append : (ws vs : List (ℕ × List ℕ)) (h : Story) → after_writes (ws ++ vs) h ≡ after_writes vs (after_writes ws h)
after_writes-append [] vs h = refl
after_writes-append (w ∷ ws) vs h = after_writes-append ws vs (after_syncing (after_writing w.0 w.1 h))

pub over_all-append : (ws vs : List (ℕ × List ℕ)) (bytes : List ℕ) → over_all (ws ++ vs) bytes ≡ over_all vs (over_all ws bytes)
over_all-append [] vs bytes = refl
over_all-append (w ∷ ws) vs bytes = over_all-append ws vs (overwrite w.0 w.1 bytes)

-- some writes, and then others
module _ (ws vs : List (ℕ × List ℕ)) where
  further : Front vs → Front (ws ++ vs)
  further front = record {
    done = ws ++ front.done;
    next = front.next;
    left = front.left;
    parts = ap (λ (l : List (ℕ × List ℕ)). ws ++ l) front.parts ∙ sym (append_assoc ws front.done (front.next ∷ front.left));
  }

  nearer : Front ws → Front (ws ++ vs)
  nearer front = record {
    done = front.done;
    next = front.next;
    left = front.left ++ vs;
    parts = ap (λ (l : List (ℕ × List ℕ)). l ++ vs) front.parts ∙ append_assoc front.done (front.next ∷ front.left) vs;
  }

  so_far : (done : List (ℕ × List ℕ)) (a b : Story) → b ≡ after_writes ws a → after_writes done b ≡ after_writes (ws ++ done) a
  so_far done a b first = ap (after_writes done) first ∙ sym (after_writes-append ws done a)

  pub made_more : {T U : Type 0} (x : U) (r : Result T DiskFault) (a b c : Story) → Made {T = U} (Ok x) ws a b → Made r vs b c → Made r (ws ++ vs) a c
  unfolding further
  made_more x (Ok y) a b c first second = second ∙ so_far vs a b first
  made_more x (Err Failed) a b c first second =
      (further second.0, second.1 ∙ ap (after_writing second.0.next.0 second.0.next.1) (so_far second.0.done a b first))
  made_more x (Err Memory) a b c first second = (further second.0, second.1 ∙ so_far second.0.done a b first)

  -- an error, after which no other is begun
  pub made_no_more : (T U : Type 0) (e : DiskFault) (a b : Story) → Made {T = T} (Err e) ws a b → Made {T = U} (Err e) (ws ++ vs) a b
  unfolding nearer
  made_no_more T U Failed a b first = (nearer first.0, first.1)
  made_no_more T U Memory a b first = (nearer first.0, first.1)

-- the first of them was not begun
pub none_made : (T : Type 0) (w : ℕ × List ℕ) (ws : List (ℕ × List ℕ)) (h : Story) → Made {T = T} (Err Memory) (w ∷ ws) h h
none_made T w ws h = (record { done = []; next = w; left = ws; parts = refl }, refl)

-- how many syncs answered Ok
pub syncs-made : {T : Type 0} (r : Result T DiskFault) (writes : List (ℕ × List ℕ)) (a b : Story) → Made r writes a b → (a.now.syncs ≤ b.now.syncs) × (b.now.syncs ≤ a.now.syncs + length writes) × OnErr r (b.now.syncs < a.now.syncs + length writes)
syncs-made (Ok x) writes a b made =
    let so_far = syncs-after_writes writes a in
    let is = ap (λ (h : Story). h.now.syncs) made in
    (omega (arith, so_far, is), omega (arith, so_far, is), tt)
syncs-made (Err Failed) writes a b made =
    let front = made.0 in
    let so_far = syncs-after_writes front.done a in
    let is = ap (λ (h : Story). h.now.syncs) made.1 in
    let long = ap length front.parts ∙ length-append front.done (front.next ∷ front.left) in
    (omega (arith, so_far, is), omega (arith, so_far, is, long), omega (arith, so_far, is, long))
syncs-made (Err Memory) writes a b made =
    let front = made.0 in
    let so_far = syncs-after_writes front.done a in
    let is = ap (λ (h : Story). h.now.syncs) made.1 in
    let long = ap length front.parts ∙ length-append front.done (front.next ∷ front.left) in
    (omega (arith, so_far, is), omega (arith, so_far, is, long), omega (arith, so_far, is, long))

went_on-after_writes : (writes : List (ℕ × List ℕ)) (h : Story) → WentOn h (after_writes writes h)
went_on-after_writes [] h = same h
went_on-after_writes (w ∷ ws) h =
    let wrote = after_writing w.0 w.1 h in
    on_and_on h (after_syncing wrote) (after_writes ws (after_syncing wrote))
    (on_and_on h wrote (after_syncing wrote) (one_more h (written w.0 w.1 h.now)) (one_more wrote (made_safe wrote.now)))
    (went_on-after_writes ws (after_syncing wrote))

pub went_on-made : {T : Type 0} (r : Result T DiskFault) (writes : List (ℕ × List ℕ)) (old new : Story) → Made r writes old new → WentOn old new
went_on-made (Ok x) writes old new made = subst (WentOn old) (sym made) (went_on-after_writes writes old)
went_on-made (Err Failed) writes old new made =
    let front = made.0 in
    let so_far = after_writes front.done old in
    subst (WentOn old) (sym made.1) (on_and_on old so_far (after_writing front.next.0 front.next.1 so_far) (went_on-after_writes front.done old) (one_more so_far (written front.next.0 front.next.1 so_far.now)))
went_on-made (Err Memory) writes old new made = subst (WentOn old) (sym made.1) (went_on-after_writes made.0.done old)

-- after Memory nothing is pending that wasn't before
pub rests-made_none : (T : Type 0) (writes : List (ℕ × List ℕ)) (old new : Story) → Made {T = T} (Err Memory) writes old new → IsAtRest old.now → IsAtRest new.now
rests-made_none T writes old new made rests = subst (λ (h : Story). IsAtRest h.now) (sym made.1) (rests-after_writes made.0.done old rests)

-- ---- what a crash leaves at each moment

module _ (P : List ℕ → Type 0) where
  module _ (at : ℕ) (bytes : List ℕ) (h : Story) (inside : at ≤ length h.now.seen) (rests : IsAtRest h.now) (torn : (image : List ℕ) → Torn at (length bytes) h.now.seen image → P image) where
    before : Leaves P h.now
    before = at_rest_leaves P h.now rests (torn h.now.seen (Torn-same at (length bytes) h.now.seen))

    after : Leaves P (written at bytes h.now)
    after image is = torn image (written_leaves at bytes h.now inside rests image is)

    pub wrote_one : Through P h (after_writing at bytes h)
    wrote_one = moved P h (written at bytes h.now) before after

    whole : P (overwrite at bytes h.now.seen)
    whole =
        torn (overwrite at bytes h.now.seen) (written_leaves at bytes h.now inside rests (overwrite at bytes h.now.seen) (image-overwrite at bytes h.now h.now.seen inside (image-seen_at_rest h.now rests)))

    pub synced_one : Through P h (after_syncing (after_writing at bytes h))
    synced_one =
        joined P h (after_writing at bytes h) (after_syncing (after_writing at bytes h)) wrote_one
        (moved P (after_writing at bytes h) (made_safe (written at bytes h.now)) after (at_rest_leaves P (made_safe (written at bytes h.now)) (rests-made_safe (written at bytes h.now)) whole))

  -- each write, over the bytes before it, may tear only into what has P
  abbrev pub Tears : List (ℕ × List ℕ) → List ℕ → Type 0
  Tears [] seen = P seen
  Tears (w ∷ ws) seen = (w.0 ≤ length seen) × ((image : List ℕ) → Torn w.0 (length w.1) seen image → P image) × Tears ws (overwrite w.0 w.1 seen)

  tears_now : (writes : List (ℕ × List ℕ)) (seen : List ℕ) → Tears writes seen → P seen
  tears_now [] seen t = t
  tears_now (w ∷ ws) seen t = t.1 seen (Torn-same w.0 (length w.1) seen)

  rests_again : (w : ℕ × List ℕ) (h : Story) → IsAtRest (after_syncing (after_writing w.0 w.1 h)).now
  rests_again w h = rests-made_safe (written w.0 w.1 h.now)

  -- all of these writes, the first of more
  pub through_all : (done more : List (ℕ × List ℕ)) (h : Story) → IsAtRest h.now → Tears (done ++ more) h.now.seen → Through P h (after_writes done h)
  through_all [] more h rests t = stays P h (at_rest_leaves P h.now rests (tears_now more h.now.seen t))
  through_all (w ∷ ws) more h rests t =
      let mid = after_syncing (after_writing w.0 w.1 h) in
      joined P h mid (after_writes ws mid) (synced_one w.0 w.1 h t.0 rests t.1) (through_all ws more mid (rests_again w h) t.2)

  -- and then one that counts as written
  pub through_some : (done : List (ℕ × List ℕ)) (next : ℕ × List ℕ) (left : List (ℕ × List ℕ)) (h : Story) → IsAtRest h.now → Tears (done ++ next ∷ left) h.now.seen → Through P h (after_writing next.0 next.1 (after_writes done h))
  through_some [] next left h rests t = wrote_one next.0 next.1 h t.0 rests t.1
  through_some (w ∷ ws) next left h rests t =
      let mid = after_syncing (after_writing w.0 w.1 h) in
      joined P h mid (after_writing next.0 next.1 (after_writes ws mid)) (synced_one w.0 w.1 h t.0 rests t.1) (through_some ws next left mid (rests_again w h) t.2)

  pub through_made : {T : Type 0} (r : Result T DiskFault) (writes : List (ℕ × List ℕ)) (h new : Story) → IsAtRest h.now → Tears writes h.now.seen → Made r writes h new → Through P h new
  through_made (Ok x) writes h new rests t made =
      subst (Through P h) (sym made) (through_all writes [] h rests (subst (λ (l : List (ℕ × List ℕ)). Tears l h.now.seen) (sym (append-nil writes)) t))
  through_made (Err Failed) writes h new rests t made =
      let front = made.0 in
      subst (Through P h) (sym made.1) (through_some front.done front.next front.left h rests (subst (λ (l : List (ℕ × List ℕ)). Tears l h.now.seen) front.parts t))
  through_made (Err Memory) writes h new rests t made =
      let front = made.0 in
      subst (Through P h) (sym made.1) (through_all front.done (front.next ∷ front.left) h rests (subst (λ (l : List (ℕ × List ℕ)). Tears l h.now.seen) front.parts t))

-- some writes that tear into what has P, and then others that tear into what has Q
pub tears_on : (P Q : List ℕ → Type 0) → ((image : List ℕ) → P image → Q image) → (ws vs : List (ℕ × List ℕ)) (seen : List ℕ) → Tears P ws seen → Tears Q vs (over_all ws seen) → Tears Q (ws ++ vs) seen
tears_on P Q so [] vs seen first second = second
tears_on P Q so (w ∷ ws) vs seen first second =
    (first.0, λ image torn. so image (first.1 image torn), tears_on P Q so ws vs (overwrite w.0 w.1 seen) first.2 second)

-- ---- one write with its sync

module _ (at : ℕ) (bytes : List ℕ) where
  pub wrote_through : {T : Type 0} (r : Result T DiskFault) (h new : Story) → at ≤ length h.now.seen → Made r ((at, bytes) ∷ []) h new → IsAtRest h.now → WroteThrough at bytes r h new
  wrote_through {T = T} r h new inside made rests = record {
    any_moment = through_made (Torn at (length bytes) h.now.seen) r ((at, bytes) ∷ []) h new rests (inside, λ image t. t, whole (Torn at (length bytes) h.now.seen) at bytes h inside rests (λ image t. t)) made;
    ok = at_ok r made;
  }
    where
      at_ok : (q : Result T DiskFault) → Made q ((at, bytes) ∷ []) h new → OnOk q (IsWritten at bytes h.now new.now)
      at_ok (Ok x) is = record { seen = ap (λ (s : Story). s.now.seen) is; rests = subst (λ (s : Story). IsAtRest s.now) (sym is) (rests-made_safe (written at bytes h.now)) }
      at_ok (Err e) is = tt

  -- the write answered an error
  pub not_written : (T : Type 0) (e : DiskFault) (h : Story) → Made {T = T} (Err e) ((at, bytes) ∷ []) h (after_write {T = T} at bytes (Err e) h)
  not_written T Failed h = (record { done = []; next = (at, bytes); left = []; parts = refl }, refl)
  not_written T Memory h = none_made T (at, bytes) [] h

  -- it answered Ok, and then the sync answered
  pub written_and_synced : {T U : Type 0} (x : U) (r : Result T DiskFault) (h : Story) → (r ≡ Err Memory → ⊥) → Made r ((at, bytes) ∷ []) h (after_sync r (after_write {T = U} at bytes (Ok x) h))
  written_and_synced x (Ok y) h roomy = refl
  written_and_synced x (Err Failed) h roomy = (record { done = []; next = (at, bytes); left = []; parts = refl }, refl)
  written_and_synced x (Err Memory) h roomy = absurd (roomy refl)

  -- by what the calls answered
  pub write_failed : (T : Type 0) (r : Result T DiskFault) (e : DiskFault) (old new : Option Story) → r ≡ Err e → new ≡ went (after_write at bytes r) old → Follows (Made {T = T} (Err e) ((at, bytes) ∷ [])) old new
  write_failed T r e old new is went_to =
      by_step (after_write {T = T} at bytes (Err e)) (Made {T = T} (Err e) ((at, bytes) ∷ [])) old new (subst (λ (q : Result T DiskFault). new ≡ went (after_write at bytes q) old) is went_to) (λ h _. not_written T e h)

  pub write_and_sync : {T : Type 0} (x : T) (r s : Result T DiskFault) (old mid new : Option Story) → r ≡ Ok x → (s ≡ Err Memory → ⊥) → mid ≡ went (after_write at bytes r) old → new ≡ went (after_sync s) mid → Follows (Made s ((at, bytes) ∷ [])) old new
  write_and_sync {T = T} x r s None mid new is roomy first second = second ∙ ap (went (after_sync s)) first
  write_and_sync {T = T} x r s (Some h) mid new is roomy first second =
      (after_sync s (after_write at bytes r h), second ∙ ap (went (after_sync s)) first, subst (λ (q : Result T DiskFault). Made s ((at, bytes) ∷ []) h (after_sync s (after_write at bytes q h))) (sym is) (written_and_synced x s h roomy))

  pub wrote_story : {T : Type 0} (r : Result T DiskFault) (old new : Option Story) → Tells old (λ h. at ≤ length h.now.seen) → Follows (Made r ((at, bytes) ∷ [])) old new → Follows (λ h s. IsAtRest h.now → WroteThrough at bytes r h s) old new
  wrote_story r old new inside made =
      weakened (Made r ((at, bytes) ∷ [])) (λ h s. IsAtRest h.now → WroteThrough at bytes r h s) old new made (λ h s is m rests. wrote_through r h s (inside h is) m rests)

-- ---- as stories are told

module _ (ws vs : List (ℕ × List ℕ)) (old mid new : Option Story) where
  pub told_more : {T U : Type 0} (x : U) (r : Result T DiskFault) → Follows (Made {T = U} (Ok x) ws) old mid → Follows (Made r vs) mid new → Follows (Made r (ws ++ vs)) old new
  told_more {U = U} x r first second =
      one_by_one (Made {T = U} (Ok x) ws) (Made r vs) (Made r (ws ++ vs)) old mid new first second (λ a b c _ m n. made_more ws vs x r a b c m n)

pub told_no_more : (ws vs : List (ℕ × List ℕ)) (T U : Type 0) (e : DiskFault) (old new : Option Story) → Follows (Made {T = T} (Err e) ws) old new → Follows (Made {T = U} (Err e) (ws ++ vs)) old new
told_no_more ws vs T U e old new made =
    weakened (Made {T = T} (Err e) ws) (Made {T = U} (Err e) (ws ++ vs)) old new made (λ a b _ m. made_no_more ws vs T U e a b m)

pub told_none : (T : Type 0) (w : ℕ × List ℕ) (ws : List (ℕ × List ℕ)) (old new : Option Story) → new ≡ old → Follows (Made {T = T} (Err Memory) (w ∷ ws)) old new
told_none T w ws old new same = by_none (Made {T = T} (Err Memory) (w ∷ ws)) old new same (none_made T w ws)
