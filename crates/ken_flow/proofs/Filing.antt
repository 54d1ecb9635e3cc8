-- Packets that are filed in inboxes: where there is room, each is behind the others of its inbox.
use Rattle.std.proofs.Common.{◌≡◌, ℕ, ◌+◌, ◌<◌, ◌≤◌, ◌==◌, inl, inr, Bool, true, false, nat_lt, if◌then◌else◌, List, [], ◌∷◌, ◌++◌, length, Contains, slice_index_or, slice_set, refl, sym, ap, ◌∙◌, subst, ⊎_elim, arith, length-append}
use Rattle.std.specs.Prelude.{map}
use Rattle.std.proofs.lemmas.Bool.{cases_Bool, eqb-true, eqb-false, lt-ltb, ltb-true}
use Rattle.std.proofs.lemmas.Grind.{get_or-set_at}
use Rattle.std.proofs.lemmas.List.{length-set, get_or-set_other}
use Rattle.std.proofs.lemmas.List.Elements.{Contains-append_left, Contains-append_right}
use Rattle.ken_net.specs.declared.inbox.TheConstants.{MAX_INBOX}
use Rattle.ken_net.specs.History.{puts_for}
use Rattle.ken_net.specs.Inboxes.{filed, all_filed}
use Rattle.ken_net.specs.Puts.{Put}
use Rattle.ken_net.proofs.Origins.{first_in, later_in, in_front}
use Rattle.ken_flow.proofs.Lists.{set_cases, filter_yes, filter_no}

-- the inbox of a node
abbrev pub box : ℕ → List (List (List ℕ)) → List (List ℕ)
box v boxes = slice_index_or boxes v []

bytes_of : List Put → List (List ℕ)
bytes_of ps = map (λ (p : Put). p.bytes) ps

abbrev one : Put → List (List (List ℕ)) → List (List (List ℕ))
one p boxes = slice_set boxes p.to (filed p.bytes (box p.to boxes))

-- ---- one packet

filed_with : (b : Bool) (bytes : List ℕ) (inbox : List (List ℕ)) → length (if b then inbox ++ bytes ∷ [] else inbox) ≤ length inbox + 1
filed_with true bytes inbox = omega (arith, length-append inbox (bytes ∷ []))
filed_with false bytes inbox = omega arith

filed_most : (bytes : List ℕ) (inbox : List (List ℕ)) → length (filed bytes inbox) ≤ length inbox + 1
filed_most bytes inbox = filed_with (nat_lt (length inbox) MAX_INBOX) bytes inbox

filed_short : (bytes : List ℕ) (inbox : List (List ℕ)) → length inbox ≤ MAX_INBOX → length (filed bytes inbox) ≤ MAX_INBOX
filed_short bytes inbox short = by (nat_lt (length inbox) MAX_INBOX) refl
  where
    by : (b : Bool) → nat_lt (length inbox) MAX_INBOX ≡ b → length (if b then inbox ++ bytes ∷ [] else inbox) ≤ MAX_INBOX
    by true e = omega (arith, ltb-true (length inbox) MAX_INBOX e, length-append inbox (bytes ∷ []))
    by false e = short

filed_stays : (bytes : List ℕ) (inbox : List (List ℕ)) (b : List ℕ) → Contains inbox b → Contains (filed bytes inbox) b
filed_stays bytes inbox b there = by (nat_lt (length inbox) MAX_INBOX)
  where
    by : (c : Bool) → Contains (if c then inbox ++ bytes ∷ [] else inbox) b
    by true = Contains-append_left inbox (bytes ∷ []) b there
    by false = there

filed_room : (bytes : List ℕ) (inbox : List (List ℕ)) → length inbox < MAX_INBOX → filed bytes inbox ≡ inbox ++ bytes ∷ []
filed_room bytes inbox room = ap (λ (b : Bool). if b then inbox ++ bytes ∷ [] else inbox) (lt-ltb (length inbox) MAX_INBOX room)

-- ---- the inbox of v after one packet

own_box : (v : ℕ) (p : Put) (boxes : List (List (List ℕ))) → v < length boxes → p.to ≡ v → box v (one p boxes) ≡ filed p.bytes (box v boxes)
own_box v p boxes low is = get_or-set_at boxes p.to v (filed p.bytes (box p.to boxes)) [] (sym is) (omega (arith, is, low)) ∙ ap (λ (u : ℕ). filed p.bytes (box u boxes)) is

other_box : (v : ℕ) (p : Put) (boxes : List (List (List ℕ))) → (p.to ≡ v → ⊥) → box v (one p boxes) ≡ box v boxes
other_box v p boxes other = get_or-set_other boxes p.to v (filed p.bytes (box p.to boxes)) [] (λ same. other (sym same))

pub filed_count : (ps : List Put) (boxes : List (List (List ℕ))) → length (all_filed ps boxes) ≡ length boxes
filed_count [] boxes = refl
filed_count (p ∷ ps) boxes = filed_count ps (one p boxes) ∙ length-set boxes p.to (filed p.bytes (box p.to boxes))

-- no inbox comes to more than it may
pub all_filed_short : (ps : List Put) (boxes : List (List (List ℕ))) → ((v : ℕ) → length (box v boxes) ≤ MAX_INBOX) → (v : ℕ) → length (box v (all_filed ps boxes)) ≤ MAX_INBOX
all_filed_short [] boxes short v = short v
all_filed_short (p ∷ ps) boxes short v = all_filed_short ps (one p boxes) one_short v
  where
    one_short : (u : ℕ) → length (box u (one p boxes)) ≤ MAX_INBOX
    one_short u = elim (set_cases boxes p.to (filed p.bytes (box p.to boxes)) u []) [
      | inl here ↦ subst (λ (l : List (List ℕ)). length l ≤ MAX_INBOX) (sym here.1) (filed_short p.bytes (box p.to boxes) (short p.to))
      | inr other ↦ subst (λ (l : List (List ℕ)). length l ≤ MAX_INBOX) (sym other) (short u)
    ]

module _ (v : ℕ) where
  pub more_for : (p : Put) (ps : List Put) → (p.to == v) ≡ true → length (puts_for v (p ∷ ps)) ≡ length (puts_for v ps) + 1
  more_for p ps e = ap length (filter_yes (λ (q : Put). q.to == v) p ps e) ∙ omega arith

  -- no inbox has more of what came than came for it
  pub all_filed_most : (ps : List Put) (boxes : List (List (List ℕ))) → v < length boxes → length (box v (all_filed ps boxes)) ≤ length (box v boxes) + length (puts_for v ps)
  all_filed_most [] boxes low = omega arith
  all_filed_most (p ∷ ps) boxes low =
      let rest = all_filed_most ps (one p boxes) (omega (arith, low, length-set boxes p.to (filed p.bytes (box p.to boxes)))) in
      ⊎_elim
      (λ (e : (p.to == v) ≡ true). omega (arith, rest, more_for p ps e, ap length (own_box v p boxes low (eqb-true p.to v e)), filed_most p.bytes (box v boxes)))
      (λ e. omega (arith, rest, ap length (filter_no (λ (q : Put). q.to == v) p ps e), ap length (other_box v p boxes (eqb-false p.to v e))))
      (cases_Bool (p.to == v))

  -- what waits there stays
  pub all_filed_stays : (ps : List Put) (boxes : List (List (List ℕ))) (b : List ℕ) → Contains (box v boxes) b → Contains (box v (all_filed ps boxes)) b
  all_filed_stays [] boxes b there = there
  all_filed_stays (p ∷ ps) boxes b there = all_filed_stays ps (one p boxes) b (elim (set_cases boxes p.to (filed p.bytes (box p.to boxes)) v []) [
    | inl here ↦ subst (λ (l : List (List ℕ)). Contains l b) (sym here.1) (filed_stays p.bytes (box p.to boxes) b (subst (λ (u : ℕ). Contains (box u boxes) b) (sym here.0) there))
    | inr other ↦ subst (λ (l : List (List ℕ)). Contains l b) (sym other) there
  ])

  -- where there is room for all that comes for it, each is there
  pub all_filed_has : (ps : List Put) (boxes : List (List (List ℕ))) (q : Put) → v < length boxes → length (box v boxes) + length (puts_for v ps) ≤ MAX_INBOX → Contains (puts_for v ps) q → Contains (box v (all_filed ps boxes)) q.bytes
  all_filed_has [] boxes q low room (k, few, is) = absurd (omega (arith, few))
  all_filed_has (p ∷ ps) boxes q low room there =
      let low2 : v < length (one p boxes) = omega (arith, low, length-set boxes p.to (filed p.bytes (box p.to boxes))) in
      ⊎_elim
      (λ (e : (p.to == v) ≡ true).
      let free : length (box v boxes) < MAX_INBOX = omega (arith, room, more_for p ps e) in
      let own : box v (one p boxes) ≡ box v boxes ++ p.bytes ∷ [] = own_box v p boxes low (eqb-true p.to v e) ∙ filed_room p.bytes (box v boxes) free in
      let count : length (box v (one p boxes)) ≡ length (box v boxes) + 1 = ap length own ∙ length-append (box v boxes) (p.bytes ∷ []) in
      ⊎_elim
      (λ (is : p ≡ q). all_filed_stays ps (one p boxes) q.bytes (subst (λ (l : List (List ℕ)). Contains l q.bytes) (sym own) (Contains-append_right (box v boxes) (p.bytes ∷ []) q.bytes (subst (λ (x : Put). Contains (p.bytes ∷ []) x.bytes) is (first_in p.bytes [])))))
      (λ on. all_filed_has ps (one p boxes) q low2 (omega (arith, room, count, more_for p ps e)) on)
      (in_front p (puts_for v ps) q (subst (λ (l : List Put). Contains l q) (filter_yes (λ (x : Put). x.to == v) p ps e) there)))
      (λ e.
      let same : puts_for v (p ∷ ps) ≡ puts_for v ps = filter_no (λ (x : Put). x.to == v) p ps e in
      all_filed_has ps (one p boxes) q low2 (omega (arith, room, ap length same, ap length (other_box v p boxes (eqb-false p.to v e)))) (subst (λ (l : List Put). Contains l q) same there))
      (cases_Bool (p.to == v))

  -- a put for v is among those for v, and there are no more of them than puts
  pub among : (ps : List Put) (q : Put) → q.to ≡ v → Contains ps q → Contains (puts_for v ps) q
  among [] q to there = there
  among (p ∷ ps) q to there =
      ⊎_elim
      (λ (e : (p.to == v) ≡ true). subst (λ (l : List Put). Contains l q) (sym (filter_yes (λ (x : Put). x.to == v) p ps e))
      (⊎_elim (λ (is : p ≡ q). subst (λ (x : Put). Contains (p ∷ puts_for v ps) x) is (first_in p (puts_for v ps))) (λ on. later_in p (puts_for v ps) q (among ps q to on)) (in_front p ps q there)))
      (λ e. subst (λ (l : List Put). Contains l q) (sym (filter_no (λ (x : Put). x.to == v) p ps e))
      (⊎_elim (λ (is : p ≡ q). absurd (eqb-false p.to v e (ap (λ (x : Put). x.to) is ∙ to))) (λ on. among ps q to on) (in_front p ps q there)))
      (cases_Bool (p.to == v))

  pub no_more : (ps : List Put) → length (puts_for v ps) ≤ length ps
  no_more [] = omega arith
  no_more (p ∷ ps) =
      ⊎_elim
      (λ (e : (p.to == v) ≡ true). omega (arith, no_more ps, more_for p ps e))
      (λ e. omega (arith, no_more ps, ap length (filter_no (λ (x : Put). x.to == v) p ps e)))
      (cases_Bool (p.to == v))
