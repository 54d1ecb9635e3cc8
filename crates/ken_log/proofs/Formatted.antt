-- A log is made.
use Rattle.std.proofs.Common.{◌≡◌, ℕ, ◌+◌, ◌≤◌, false, List, [], ◌∷◌, ◌++◌, length, get_or, drop, refl, sym, ap, subst, ◌∙◌, append_assoc, arith, length-append, inl, inr, ⊎_elim, ◌⊎◌, Option, Result, Ok, Err}
use Rattle.std.specs.Prelude.{◌==◌}
use Rattle.std.proofs.lemmas.Bool.{ne_eqb}
use Rattle.std.proofs.lemmas.Bool.Decides.{eqb_tells}
use Rattle.std.proofs.lemmas.List.{append-nil}
use Rattle.ken_disk.specs.declared.faults.DiskFault.{DiskFault}
use Rattle.ken_disk.specs.declared.faults.DiskFault.TheVariants.{Failed, Memory}
use Rattle.ken_disk.specs.Bytes.{overwrite}
use Rattle.ken_disk.specs.Story.{Story, IsAtRest, IsImage, Tells, Follows}
use Rattle.ken_disk.specs.Through.{Torn}
use Rattle.ken_disk.specs.Moments.{Through}
use Rattle.ken_disk.specs.Writes.{Made}
use Rattle.ken_disk.proofs.Images.{at_rest_leaves, image-seen_at_rest}
use Rattle.ken_log.proofs.Overwritten.{tears_weaker}
use Rattle.ken_disk.proofs.Made.{Tears, made_more, made_no_more, none_made, rests-made_none, rests-after_some}
use Rattle.ken_disk.proofs.Since.{stays, weaker}
use Rattle.ken_disk.proofs.Told.{by_none, one_by_one, weakened, tells_after}
use Rattle.ken_record.specs.declared.header.Header.{Header}
use Rattle.ken_record.specs.declared.base.Base.{Base}
use Rattle.ken_log.specs.declared.log.Log.{Log}
use Rattle.ken_log.specs.declared.faults.SealFault.{SealFault}
use Rattle.ken_log.specs.declared.faults.SealFault.TheVariants as seals
use Rattle.ken_log.specs.Calls.{gate_writes, closing, first_writes, log_writes, MadeAfterRead}
use Rattle.ken_log.specs.Mounts.{Mounted, Unformatted, Whole, mount_of}
use Rattle.ken_log.specs.Layout.{head_bytes, log_bytes, IsHead, IsLogOf}
use Rattle.ken_log.specs.Seals.{MountsAs, MountsAsEither, as_fault, as_seal, as_disk}
use Rattle.ken_log.specs.Opening.{IsClosedBehind, IsGateOf}
use Rattle.ken_log.specs.Formats.{IsOldOrNone, IsOldNoneOrNew, Replaces}
use Rattle.ken_log.specs.Settled.{Holds, IsSettled}
use Rattle.ken_log.proofs.Changed.{changed_any, changed_ok, changed_memory, changed_failed}
use Rattle.ken_log.proofs.LogMounts.{log_mounts, short_mounts, closed_mounts, closed_gate, head_long}
use Rattle.ken_log.proofs.Parts.{torn_byte}
use Rattle.ken_log.proofs.Openings.{body_quiet, gate_inside, gate_torn, gate_holds, gate_over}

-- the log that is made
first_lies : (head : Header) (base : Option Base) (free : List ℕ) → IsHead head base → IsLogOf (165 ∷ ((head_bytes head base ++ 0 ∷ []) ++ free)) head base [] (32 + head.base_len)
first_lies head base free is =
    let front : log_bytes head base [] ≡ 165 ∷ head_bytes head base = append-nil (165 ∷ head_bytes head base) in
    record {
      gate = 0;
      free = free;
      parts = ap (λ (l : List ℕ). 165 ∷ l) (append_assoc (head_bytes head base) (0 ∷ []) free) ∙ ap (λ (l : List ℕ). l ++ 0 ∷ free) (sym front);
      closed = λ e. absurd (let no : ⊥ = omega (arith, e) in no);
      header = is;
      items = tt;
      place = omega (arith, ap length front, head_long head base is);
    }

head_gate : (head : Header) (base : Option Base) (bytes : List ℕ) → IsHead head base → bytes ≡ head_bytes head base ++ 0 ∷ [] → IsGateOf [] bytes Unformatted (Whole head base [])
head_gate head base bytes is spells = subst (λ (b : List ℕ). IsGateOf [] b Unformatted (Whole head base [])) (sym spells) (record {
  closed = λ gate free closed. closed_mounts gate free closed;
  opened = λ free. log_mounts _ head base [] (32 + head.base_len) (first_lies head base free is);
})

-- ---- the first gate is closed

not_empty : (gate : ℕ) (free : List ℕ) → (length (gate ∷ free) == 0) ≡ false
not_empty gate free = ne_eqb (length (gate ∷ free)) 0 (λ e. let no : ⊥ = omega (arith, e) in no)

-- by a write of no bytes where it is there and closed, and else by a closed gate
pub closing_none : (seen : List ℕ) → 1 ≤ length seen → (get_or seen 0 0 ≡ 165 → ⊥) → closing seen ≡ []
closing_none [] long shut = absurd (omega (arith, long))
closing_none (gate ∷ free) long shut = rw (not_empty gate free, closed_gate gate shut) refl

pub closing_some : (seen : List ℕ) → (length seen ≡ 0) ⊎ (get_or seen 0 0 ≡ 165) → closing seen ≡ 0 ∷ []
closing_some [] which = refl
closing_some (gate ∷ free) which = ⊎_elim (λ none. absurd (omega (arith, none))) (λ stands. let open_one : gate ≡ 165 = stands in rw (not_empty gate free, open_one) refl) which

-- which of the two it is
data Closing (seen : List ℕ) : Type 0 where
  Shut : closing seen ≡ [] → 1 ≤ length seen → (get_or seen 0 0 ≡ 165 → ⊥) → Closing seen
  Stands : closing seen ≡ 0 ∷ [] → (length seen ≡ 0) ⊎ (get_or seen 0 0 ≡ 165) → Closing seen

closing_is : (seen : List ℕ) → Closing seen
closing_is [] = Stands refl (inl refl)
closing_is (gate ∷ free) =
    let long : 1 ≤ length (gate ∷ free) = omega arith in
    ⊎_elim
    (λ stands. Stands (closing_some (gate ∷ free) (inr stands.1)) (inr stands.1))
    (λ shut. Shut (closing_none (gate ∷ free) long shut.1) long shut.1)
    (eqb_tells gate 165)

shut_already : (seen : List ℕ) → 1 ≤ length seen → (get_or seen 0 0 ≡ 165 → ⊥) → IsClosedBehind [] seen
shut_already [] long shut = absurd (omega (arith, long))
shut_already (gate ∷ free) long shut = record { gate = gate; free = free; parts = refl; closed = shut }

pub closed_first : (seen : List ℕ) → IsClosedBehind [] (overwrite 0 (closing seen) seen)
closed_first seen = at (closing_is seen)
  where
    at : Closing seen → IsClosedBehind [] (overwrite 0 (closing seen) seen)
    at (Shut is long shut) = subst (λ (b : List ℕ). IsClosedBehind [] (overwrite 0 b seen)) (sym is) (shut_already seen long shut)
    at (Stands is which) =
        subst (λ (b : List ℕ). IsClosedBehind [] (overwrite 0 b seen)) (sym is) (record { gate = 0; free = drop 1 seen; parts = refl; closed = λ e. absurd (let no : ⊥ = omega (arith, e) in no) })

-- the same bytes, or no log
abbrev IsSameOrNone : List ℕ → List ℕ → Type 0
IsSameOrNone seen image = (image ≡ seen) ⊎ (mount_of image ≡ Unformatted)

-- a torn write of a closed gate over an open one leaves what was there, or no log
gate_torn_shut : (seen image : List ℕ) → (length seen ≡ 0) ⊎ (get_or seen 0 0 ≡ 165) → Torn 0 1 seen image → IsSameOrNone seen image
gate_torn_shut [] image which torn = inr (short_mounts image (omega (arith, torn.no_longer)))
gate_torn_shut (gate ∷ free) image which torn =
    let t = torn_byte [] 0 gate free image refl torn in
    let open_one : gate ≡ 165 = ⊎_elim (λ none. absurd (let no : ⊥ = omega (arith, none) in no)) (λ stands. stands) which in
    ⊎_elim
    (λ stands. inl (t.1 ∙ ap (λ (b : ℕ). b ∷ free) (stands.1 ∙ sym open_one)))
    (λ shut. inr (ap mount_of t.1 ∙ closed_mounts t.0 free shut.1))
    (eqb_tells t.0 165)

closing_torn : (seen image : List ℕ) → Torn 0 (length (closing seen)) seen image → IsSameOrNone seen image
closing_torn seen image torn = at (closing_is seen)
  where
    at : Closing seen → IsSameOrNone seen image
    at (Shut is long shut) =
        let t : Torn 0 0 seen image = subst (λ (b : List ℕ). Torn 0 (length b) seen image) is torn in
        let same : image ≡ seen = t.after in
        inl same
    at (Stands is which) =
        gate_torn_shut seen image which (subst (λ (b : List ℕ). Torn 0 (length b) seen image) is torn)

-- ---- the writes of a format and of a turnover

module _ (head : Header) (base : Option Base) (bytes : List ℕ) (is : IsHead head base) (spells : bytes ≡ head_bytes head base ++ 0 ∷ []) where
  abbrev after : Mounted
  after = Whole head base []

  module _ (h new : Story) (rests : IsAtRest h.now) where
    abbrev Early : List ℕ → Type 0
    Early = IsOldOrNone h.now

    abbrev Any : List ℕ → Type 0
    Any = IsOldNoneOrNew h.now after

    abbrev shut_seen : List ℕ
    shut_seen = overwrite 0 (closing h.now.seen) h.now.seen

    shut : IsClosedBehind [] shut_seen
    shut = closed_first h.now.seen

    as_it_was : IsImage h.now h.now.seen
    as_it_was = image-seen_at_rest h.now rests

    same_early : (image : List ℕ) → IsSameOrNone h.now.seen image → Early image
    same_early image e = ⊎_elim (λ same. inl (subst (IsImage h.now) (sym same) as_it_was)) (λ none. inr none) e

    early : (image : List ℕ) → Early image → Any image
    early image e = ⊎_elim (λ same. inl same) (λ none. inr (inl none)) e

    late : (image : List ℕ) → MountsAsEither Unformatted after image → Any image
    late image e = inr e

    quiet : Tears Early ((0, closing h.now.seen) ∷ (1, bytes) ∷ []) h.now.seen
    quiet =
        let inside : 0 ≤ length h.now.seen = omega arith in
        let behind = tears_weaker (MountsAs Unformatted) Early (λ image e. inr e) ((1, bytes) ∷ []) shut_seen (body_quiet [] bytes shut_seen 0 refl shut Unformatted after (head_gate head base bytes is spells)) in
        (inside, λ image torn. same_early image (closing_torn h.now.seen image torn), behind)

    any : {T : Type 0} (r : Result T DiskFault) → Made r (first_writes bytes h.now.seen) h new → Through Any h new
    any r made = changed_any Early (MountsAsEither Unformatted after) (MountsAs after) Any early late ((0, closing h.now.seen) ∷ (1, bytes) ∷ []) (0, 165 ∷ []) h rests
        quiet (gate_inside [] bytes shut_seen 0 refl shut) (gate_torn [] bytes shut_seen 0 refl shut Unformatted after (head_gate head base bytes is spells)) (gate_holds [] bytes shut_seen 0 refl shut Unformatted after (head_gate head base bytes is spells)) r new made

    replaced : {T : Type 0} (r : Result T DiskFault) → Made r (first_writes bytes h.now.seen) h new → Replaces after (as_seal r) h new
    replaced (Ok x) made = record {
      any_moment = any (Ok x) made;
      ok = changed_ok Early (MountsAsEither Unformatted after) (MountsAs after) Any early late ((0, closing h.now.seen) ∷ (1, bytes) ∷ []) (0, 165 ∷ []) h rests
          quiet (gate_inside [] bytes shut_seen 0 refl shut) (gate_torn [] bytes shut_seen 0 refl shut Unformatted after (head_gate head base bytes is spells)) (gate_holds [] bytes shut_seen 0 refl shut Unformatted after (head_gate head base bytes is spells)) (Ok x) new made;
      memory = λ m. absurd (let no : ⊥ = cc in no);
      in_doubt = λ m. absurd (let no : ⊥ = cc in no);
    }
    replaced {T = T} (Err Failed) made = record {
      any_moment = any {T = T} (Err Failed) made;
      ok = tt;
      memory = λ m. absurd (let no : ⊥ = cc in no);
      in_doubt = λ m. changed_failed Early (MountsAsEither Unformatted after) (MountsAs after) Any early late ((0, closing h.now.seen) ∷ (1, bytes) ∷ []) (0, 165 ∷ []) h rests
          quiet (gate_inside [] bytes shut_seen 0 refl shut) (gate_torn [] bytes shut_seen 0 refl shut Unformatted after (head_gate head base bytes is spells)) (gate_holds [] bytes shut_seen 0 refl shut Unformatted after (head_gate head base bytes is spells)) T new made;
    }
    replaced {T = T} (Err Memory) made = record {
      any_moment = any {T = T} (Err Memory) made;
      ok = tt;
      memory = λ m. changed_memory Early (MountsAsEither Unformatted after) (MountsAs after) Any early late ((0, closing h.now.seen) ∷ (1, bytes) ∷ []) (0, 165 ∷ []) h rests
          quiet (gate_inside [] bytes shut_seen 0 refl shut) (gate_torn [] bytes shut_seen 0 refl shut Unformatted after (head_gate head base bytes is spells)) (gate_holds [] bytes shut_seen 0 refl shut Unformatted after (head_gate head base bytes is spells)) T new made;
      in_doubt = λ m. absurd (let no : ⊥ = cc in no);
    }

    -- the read before them failed
    unread : (T : Type 0) → new ≡ h → Replaces {T = T} after (as_seal {T = T} (Err Failed)) h new
    unread T same =
        let still : Through Early h h = stays Early h (at_rest_leaves Early h.now rests (inl as_it_was)) in
        record {
          any_moment = subst (Through Any h) (sym same) (weaker Early Any h h early still);
          ok = tt;
          memory = λ m. absurd (let no : ⊥ = cc in no);
          in_doubt = λ _. inl (subst (Through Early h) (sym same) still);
        }

    pub replaced_after_read : {T : Type 0} (r : Result T DiskFault) → MadeAfterRead r (first_writes bytes h.now.seen) h new → Replaces after (as_seal r) h new
    replaced_after_read (Ok x) made = replaced (Ok x) made
    replaced_after_read {T = T} (Err Failed) made = ⊎_elim (unread T) (replaced {T = T} (Err Failed)) made
    replaced_after_read {T = T} (Err Memory) made = replaced {T = T} (Err Memory) made

  abbrev Begun : {T : Type 0} → Result T DiskFault → Story → Story → Type 0
  Begun r h s = MadeAfterRead r (first_writes bytes h.now.seen) h s

  pub begun_replaces : {T : Type 0} (r : Result T DiskFault) (old new : Option Story) → Follows (Begun r) old new → Follows (λ h s. IsAtRest h.now → Replaces after (as_seal r) h s) old new
  begun_replaces r old new made =
      weakened (Begun r) (λ h s. IsAtRest h.now → Replaces after (as_seal r) h s) old new made (λ h s _ m rests. replaced_after_read h s rests r m)

  pub begun_calls : {T : Type 0} (r : Result T DiskFault) (old new : Option Story) → Follows (Begun r) old new → Follows (λ h s. MadeAfterRead r (log_writes head base h.now.seen) h s) old new
  begun_calls r old new made =
      subst (λ (b : List ℕ). Follows (λ h s. MadeAfterRead r (first_writes b h.now.seen) h s) old new) spells made

  -- what they leave is a log that takes seals
  pub begun_settled : {D T : Type 0} (told : D → Option Story) (size : D → ℕ) (old : Option Story) (log : Log D) (x : T) → Follows (Begun (Ok x)) old (told log.disk) → log.header ≡ head → log.base ≡ base → log.spent ≡ false → log.records ≡ 0 → log.end ≡ 32 + head.base_len → 1 + length bytes ≤ size log.disk → IsSettled told size log
  begun_settled told size old log x made header under sound records end room = record {
    sound = sound;
    header = rw (header, under) is;
    few = omega (arith, records, end);
    room = omega (arith, room, end, head_long head base is, ap length spells, length-append (head_bytes head base) (0 ∷ []));
    rests = tells_after (Begun (Ok x)) (λ h. IsAtRest h.now) old (told log.disk) made (λ h s _ m. subst (λ (t : Story). IsAtRest t.now) (sym m) (rests-after_some (0, closing h.now.seen) (gate_writes 0 bytes) h));
    holds = tells_after (Begun (Ok x)) (λ h. Holds log h.now.seen) old (told log.disk) made (λ h s _ m. held s (overwrite 0 (closing h.now.seen) h.now.seen) (closed_first h.now.seen) (ap (λ (t : Story). t.now.seen) m));
  }
    where
      held : (s : Story) (seen : List ℕ) → (shut : IsClosedBehind [] seen) → s.now.seen ≡ overwrite 0 (165 ∷ []) (overwrite 1 bytes seen) → Holds log s.now.seen
      held s seen shut is_seen =
          let free = drop (length bytes) shut.free in
          let parts : s.now.seen ≡ 165 ∷ ((head_bytes head base ++ 0 ∷ []) ++ free) = is_seen ∙ gate_over [] bytes seen 0 refl shut ∙ ap (λ (b : List ℕ). 165 ∷ (b ++ free)) spells in
          let first : IsLogOf s.now.seen head base [] (32 + head.base_len) = subst (λ (b : List ℕ). IsLogOf b head base [] (32 + head.base_len)) (sym parts) (first_lies head base free is) in
          record { items = []; lies = rw (header, under, end) first; count = records }

  -- after Memory nothing is pending that wasn't before
  pub begun_rests : (T : Type 0) (old new : Option Story) → Follows (Begun {T = T} (Err Memory)) old new → Follows (λ h s. IsAtRest h.now → IsAtRest s.now) old new
  begun_rests T old new made =
      weakened (Begun {T = T} (Err Memory)) (λ h s. IsAtRest h.now → IsAtRest s.now) old new made (λ h s _ m rests. rests-made_none T (first_writes bytes h.now.seen) h s m rests)

  -- there was no memory for the bytes
  pub begun_none : (T : Type 0) (old new : Option Story) → new ≡ old → Follows (Begun {T = T} (Err Memory)) old new
  begun_none T old new same = by_none (Begun {T = T} (Err Memory)) old new same (λ h. none_made T (0, closing h.now.seen) (gate_writes 0 bytes) h)

  abbrev Told : Type 0 → SealFault → Option Story → Option Story → Type 0
  Told U f old new = Follows (λ h s. IsAtRest h.now → Replaces {T = U} after (Err f) h s) old new × Follows (λ h s. MadeAfterRead (as_disk {T = U} (Err f)) (log_writes head base h.now.seen) h s) old new × (f ≡ seals.Memory → Follows (λ h s. IsAtRest h.now → IsAtRest s.now) old new)

  -- told of the fault of a log
  pub begun_faults : (T U : Type 0) (e : DiskFault) (f : SealFault) (old new : Option Story) → f ≡ as_fault e → Follows (Begun {T = T} (Err e)) old new
      → Follows (λ h s. IsAtRest h.now → Replaces {T = U} after (Err f) h s) old new × Follows (λ h s. MadeAfterRead (as_disk {T = U} (Err f)) (log_writes head base h.now.seen) h s) old new × (f ≡ seals.Memory → Follows (λ h s. IsAtRest h.now → IsAtRest s.now) old new)
  begun_faults T U Failed f old new tells made = subst (λ (g : SealFault). Told U g old new) (sym tells) (
    begun_replaces {T = U} (Err Failed) old new made,
    begun_calls {T = U} (Err Failed) old new made,
    λ m. absurd (let no : ⊥ = cc m in no),
  )
  begun_faults T U Memory f old new tells made = subst (λ (g : SealFault). Told U g old new) (sym tells) (
    begun_replaces {T = U} (Err Memory) old new made,
    begun_calls {T = U} (Err Memory) old new made,
    λ m. begun_rests T old new made,
  )

-- ---- as stories are told

read_no_more : (T : Type 0) (e : DiskFault) (ws vs : List (ℕ × List ℕ)) (a b : Story) → MadeAfterRead {T = T} (Err e) ws a b → MadeAfterRead {T = T} (Err e) (ws ++ vs) a b
read_no_more T Failed ws vs a b made = ⊎_elim (λ same. inl same) (λ m. inr (made_no_more ws vs T T Failed a b m)) made
read_no_more T Memory ws vs a b made = made_no_more ws vs T T Memory a b made

after_read : {T : Type 0} (r : Result T DiskFault) (ws : List (ℕ × List ℕ)) (a b : Story) → Made r ws a b → MadeAfterRead r ws a b
after_read (Ok x) ws a b made = made
after_read (Err Failed) ws a b made = inr made
after_read (Err Memory) ws a b made = made

nothing_read : (T : Type 0) (e : DiskFault) (w : ℕ × List ℕ) (h : Story) → MadeAfterRead {T = T} (Err e) (w ∷ []) h h
nothing_read T Failed w h = inl refl
nothing_read T Memory w h = none_made T w [] h

abbrev Closed : {T : Type 0} → Result T DiskFault → Story → Story → Type 0
Closed r h s = MadeAfterRead r ((0, closing h.now.seen) ∷ []) h s

-- the first gate could not be looked at
pub closes_not : (T : Type 0) (e : DiskFault) (old new : Option Story) → new ≡ old → Follows (Closed {T = T} (Err e)) old new
closes_not T e old new same =
    by_none (Closed {T = T} (Err e)) old new same (λ h. nothing_read T e (0, closing h.now.seen) h)

-- it was, and this closed it
pub closes_by : {T : Type 0} (bytes : List ℕ) (r : Result T DiskFault) (old mid new : Option Story) → mid ≡ old → Tells old (λ h. closing h.now.seen ≡ bytes) → Follows (Made r ((0, bytes) ∷ [])) mid new → Follows (Closed r) old new
closes_by bytes r old mid new same is made =
    weakened (Made r ((0, bytes) ∷ [])) (Closed r) old new (subst (λ (o : Option Story). Follows (Made r ((0, bytes) ∷ [])) o new) same made) (λ h s t m.
    subst (λ (b : List ℕ). MadeAfterRead r ((0, b) ∷ []) h s) (sym (is h t)) (after_read r ((0, bytes) ∷ []) h s m))

module _ (bytes : List ℕ) where
  abbrev Began : {T : Type 0} → Result T DiskFault → Story → Story → Type 0
  Began r h s = MadeAfterRead r (first_writes bytes h.now.seen) h s

  pub begin_stops : (T : Type 0) (e : DiskFault) (old new : Option Story) → Follows (Closed {T = T} (Err e)) old new → Follows (Began {T = T} (Err e)) old new
  begin_stops T e old new made =
      weakened (Closed {T = T} (Err e)) (Began {T = T} (Err e)) old new made (λ h s _ m. read_no_more T e ((0, closing h.now.seen) ∷ []) (gate_writes 0 bytes) h s m)

  pub begin_goes_on : {T U : Type 0} (x : U) (r : Result T DiskFault) (old mid new : Option Story) → Follows (Closed (Ok x)) old mid → Follows (Made r (gate_writes 0 bytes)) mid new → Follows (Began r) old new
  begin_goes_on x r old mid new first second =
      one_by_one (Closed (Ok x)) (Made r (gate_writes 0 bytes)) (Began r) old mid new first second (λ a b c _ m n.
      after_read r ((0, closing a.now.seen) ∷ gate_writes 0 bytes) a c (made_more ((0, closing a.now.seen) ∷ []) (gate_writes 0 bytes) x r a b c m n))
