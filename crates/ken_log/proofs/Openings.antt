-- Bytes are written behind a closed gate, and then the gate is opened.
use Rattle.std.proofs.Common.{◌≡◌, ℕ, ◌+◌, ◌≤◌, List, [], ◌∷◌, ◌++◌, length, drop, refl, sym, ap, subst, ◌∙◌, append_assoc, arith, length-append, inl, inr, ⊎_elim, Result, Ok, Err}
use Rattle.std.proofs.lemmas.Bool.Decides.{eqb_tells}
use Rattle.ken_disk.specs.declared.faults.DiskFault.{DiskFault}
use Rattle.ken_disk.specs.Bytes.{overwrite}
use Rattle.ken_disk.specs.declared.faults.DiskFault.TheVariants.{Failed, Memory}
use Rattle.ken_disk.specs.Story.{Story, IsAtRest}
use Rattle.ken_disk.specs.Moments.{Through}
use Rattle.ken_disk.specs.Through.{Torn}
use Rattle.ken_disk.specs.Writes.{Made}
use Rattle.ken_disk.proofs.Made.{Tears}
use Rattle.ken_log.specs.Mounts.{Mounted, mount_of}
use Rattle.ken_log.specs.Calls.{gate_writes}
use Rattle.ken_log.specs.Seals.{MountsAs, MountsAsEither, Changes, as_seal}
use Rattle.ken_log.specs.Opening.{IsClosedBehind, IsGateOf}
use Rattle.ken_log.proofs.Parts.{over_at, torn_at, torn_byte}
use Rattle.ken_log.proofs.Changed.{changed_any, changed_ok, changed_memory, changed_failed}

module _ (front body seen : List ℕ) (at : ℕ) (place : length front ≡ at) (is : IsClosedBehind front seen) where
  -- the front with its gate
  abbrev gated : List ℕ
  gated = front ++ is.gate ∷ []

  gated_long : at + 1 ≡ length gated
  gated_long = omega (arith, place, length-append front (is.gate ∷ []))

  gated_parts : seen ≡ gated ++ is.free
  gated_parts = is.parts ∙ sym (append_assoc front (is.gate ∷ []) is.free)

  -- what stands behind the gate in the end
  abbrev behind : List ℕ
  behind = body ++ drop (length body) is.free

  pub body_over : overwrite (at + 1) body seen ≡ front ++ is.gate ∷ behind
  body_over =
      ap (overwrite (at + 1) body) gated_parts ∙ over_at gated (at + 1) gated_long body is.free ∙ append_assoc front (is.gate ∷ []) behind

  pub gate_over : overwrite at (165 ∷ []) (overwrite (at + 1) body seen) ≡ front ++ 165 ∷ behind
  gate_over = ap (overwrite at (165 ∷ [])) body_over ∙ over_at front at (sym place) (165 ∷ []) (is.gate ∷ behind)

  -- and before the gate is opened
  pub still_closed : IsClosedBehind front (overwrite (at + 1) body seen)
  still_closed = record { gate = is.gate; free = behind; parts = body_over; closed = is.closed }

  body_inside : at + 1 ≤ length seen
  body_inside = omega (arith, ap length gated_parts, length-append gated is.free, gated_long)

  pub gate_inside : at ≤ length (overwrite (at + 1) body seen)
  gate_inside = omega (arith, ap length body_over, length-append front (is.gate ∷ behind), place)

  module _ (before after : Mounted) (gates : IsGateOf front body before after) where
    -- a torn write behind the gate
    body_torn : (image : List ℕ) → Torn (at + 1) (length body) seen image → MountsAs before image
    body_torn image torn =
        let t = torn_at gated (at + 1) gated_long (length body) is.free image (subst (λ (l : List ℕ). Torn (at + 1) (length body) l image) gated_parts torn) in
        ap mount_of (t.1 ∙ append_assoc front (is.gate ∷ []) t.0) ∙ gates.closed is.gate t.0 is.closed

    pub body_quiet : Tears (MountsAs before) ((at + 1, body) ∷ []) seen
    body_quiet =
        (body_inside, body_torn, ap mount_of body_over ∙ gates.closed is.gate behind is.closed)

    -- a torn write of the gate
    pub gate_torn : (image : List ℕ) → Torn at 1 (overwrite (at + 1) body seen) image → MountsAsEither before after image
    gate_torn image torn =
        let t = torn_byte front at is.gate behind image (sym place) (subst (λ (l : List ℕ). Torn at 1 l image) body_over torn) in
        ⊎_elim
        (λ stands. inr (ap mount_of (t.1 ∙ ap (λ (b : ℕ). front ++ b ∷ behind) stands.1) ∙ gates.opened (drop (length body) is.free)))
        (λ shut. inl (ap mount_of t.1 ∙ gates.closed t.0 behind shut.1))
        (eqb_tells t.0 165)

    pub gate_holds : MountsAs after (overwrite at (165 ∷ []) (overwrite (at + 1) body seen))
    gate_holds = ap mount_of gate_over ∙ gates.opened (drop (length body) is.free)

-- the gate of the front is opened
module _ (front body : List ℕ) (at : ℕ) (before after : Mounted) (h new : Story) (place : length front ≡ at) (rests : IsAtRest h.now) (is : IsClosedBehind front h.now.seen) (gates : IsGateOf front body before after) where
  any : {T : Type 0} (r : Result T DiskFault) → Made r (gate_writes at body) h new → Through (MountsAsEither before after) h new
  any r made = changed_any (MountsAs before) (MountsAsEither before after) (MountsAs after) (MountsAsEither before after) (λ image e. inl e) (λ image e. e) ((at + 1, body) ∷ []) (at, 165 ∷ []) h rests
      (body_quiet front body h.now.seen at place is before after gates) (gate_inside front body h.now.seen at place is) (gate_torn front body h.now.seen at place is before after gates) (gate_holds front body h.now.seen at place is before after gates) r new made

  pub opening_changes : {T : Type 0} (r : Result T DiskFault) → Made r (gate_writes at body) h new → Changes before after 2 (as_seal r) h new
  opening_changes (Ok x) made = record {
    any_moment = any (Ok x) made;
    ok = changed_ok (MountsAs before) (MountsAsEither before after) (MountsAs after) (MountsAsEither before after) (λ image e. inl e) (λ image e. e) ((at + 1, body) ∷ []) (at, 165 ∷ []) h rests
        (body_quiet front body h.now.seen at place is before after gates) (gate_inside front body h.now.seen at place is) (gate_torn front body h.now.seen at place is before after gates) (gate_holds front body h.now.seen at place is before after gates) (Ok x) new made;
    memory = λ m. absurd (let no : ⊥ = cc in no);
    in_doubt = λ m. absurd (let no : ⊥ = cc in no);
  }
  opening_changes {T = T} (Err Failed) made = record {
    any_moment = any {T = T} (Err Failed) made;
    ok = tt;
    memory = λ m. absurd (let no : ⊥ = cc in no);
    in_doubt = λ m. ⊎_elim (λ early. inl early) (λ late. inr late.1) (changed_failed (MountsAs before) (MountsAsEither before after) (MountsAs after) (MountsAsEither before after) (λ image e. inl e) (λ image e. e) ((at + 1, body) ∷ []) (at, 165 ∷ []) h rests
        (body_quiet front body h.now.seen at place is before after gates) (gate_inside front body h.now.seen at place is) (gate_torn front body h.now.seen at place is before after gates) (gate_holds front body h.now.seen at place is before after gates) T new made);
  }
  opening_changes {T = T} (Err Memory) made = record {
    any_moment = any {T = T} (Err Memory) made;
    ok = tt;
    memory = λ m. changed_memory (MountsAs before) (MountsAsEither before after) (MountsAs after) (MountsAsEither before after) (λ image e. inl e) (λ image e. e) ((at + 1, body) ∷ []) (at, 165 ∷ []) h rests
        (body_quiet front body h.now.seen at place is before after gates) (gate_inside front body h.now.seen at place is) (gate_torn front body h.now.seen at place is before after gates) (gate_holds front body h.now.seen at place is before after gates) T new made;
    in_doubt = λ m. absurd (let no : ⊥ = cc in no);
  }
