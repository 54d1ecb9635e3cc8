-- The ends of the wires to all nodes: one is handed out, or comes back.
use Rattle.std.proofs.Common.{◌≡◌, ℕ, ◌+◌, ◌<◌, ◌≤◌, List, [], ◌∷◌, ◌++◌, length, set, sym, ap, subst, ◌∙◌, inl, inr, arith}
use Rattle.std.specs.Prelude.{slice_index_or}
use Rattle.std.proofs.lemmas.Bool.{cases_lt}
use Rattle.std.proofs.lemmas.List.{get_or-set_other, get_or_append_left, get_or_default, length-append}
use Rattle.std.proofs.lemmas.Grind.{get_or-set_at}
use Rattle.std.proofs.Math.Seq.{get_or-append_seam}
use Rattle.ken_wire.specs.declared.view.Sent.{Sent}
use Rattle.ken_wire.specs.declared.send_end.SendEnd.{SendEnd}
use Rattle.ken_wire.specs.declared.take_end.TakeEnd.{TakeEnd}
use Rattle.ken_wire.specs.Ends.{from_of, to_of, taker_of, made_of, joined_of}
use Rattle.ken_wire.specs.Nets.{AreFrom}
use Rattle.ken_wire.specs.Rounds.{HaveBack, IsSeated, IsBackAt, AtEach}

module _ {X : Type 0} where
  -- the last of a list
  last : (xs : List X) (x d : X) (k : ℕ) → k ≡ length xs → slice_index_or (xs ++ x ∷ []) k d ≡ x
  last xs x d k e = ap (λ (i : ℕ). slice_index_or (xs ++ x ∷ []) i d) e ∙ get_or-append_seam xs x [] d

  -- what was read at a place that is still as it was
  read : (xs ys : List X) (a d : X) (n : ℕ) → n < length xs → a ≡ slice_index_or xs n a → slice_index_or xs n d ≡ slice_index_or ys n d → a ≡ slice_index_or ys n d
  read xs ys a d n low is same = is ∙ get_or_default xs n a d low ∙ same

-- a node has one end more
pub own_more : (node : ℕ) (ends : List SendEnd) (end : SendEnd) → AreFrom node ends → from_of end ≡ node → to_of end ≡ length ends → AreFrom node (ends ++ end ∷ [])
own_more node ends end are from to k d low = elim (cases_lt k (length ends)) [
  | inl lt ↦ subst (λ (e : SendEnd). (from_of e ≡ node) × (to_of e ≡ k)) (sym (get_or_append_left ends (end ∷ []) d k lt)) (are k d lt)
  | inr le ↦
      let is : k ≡ length ends = omega (arith, low, le, length-append ends (end ∷ [])) in
      subst (λ (e : SendEnd). (from_of e ≡ node) × (to_of e ≡ k)) (sym (last ends end d k is)) (from, to ∙ sym is)
]

-- one more wire has so many ends
pub made_more : (made : ℕ) (takes : List TakeEnd) (b : TakeEnd) (n : ℕ) → n < length takes → taker_of b ≡ n → made_of b ≡ made
    → ((k : ℕ) (d : TakeEnd) → k < n → (taker_of (slice_index_or takes k d) ≡ k) × (made_of (slice_index_or takes k d) ≡ made))
    → (k : ℕ) (d : TakeEnd) → k < n + 1 → (taker_of (slice_index_or (set takes n b) k d) ≡ k) × (made_of (slice_index_or (set takes n b) k d) ≡ made)
made_more made takes b n low to count before k d there = elim (cases_lt k n) [
  | inl lt ↦ subst (λ (t : TakeEnd). (taker_of t ≡ k) × (made_of t ≡ made)) (sym (get_or-set_other takes n k b d (λ x. omega (arith, lt, x)))) (before k d lt)
  | inr le ↦
      let is : k ≡ n = omega (arith, there, le) in
      subst (λ (t : TakeEnd). (taker_of t ≡ k) × (made_of t ≡ made)) (sym (get_or-set_at takes n k b d is low)) (to ∙ sym is, count)
]

-- one more wire has its end
pub seated_more : (old takes : List TakeEnd) (ends : List SendEnd) (a b : TakeEnd) (end : SendEnd) (n : ℕ) → n ≡ length ends → n < length takes → a ≡ slice_index_or takes n a → IsSeated a b end
    → ((k : ℕ) (d : TakeEnd) → n ≤ k → k < length takes → slice_index_or takes k d ≡ slice_index_or old k d)
    → AtEach IsSeated old takes ends → AtEach IsSeated old (set takes n b) (ends ++ end ∷ [])
seated_more old takes ends a b end n count low is seated same before k d e there = elim (cases_lt k (length ends)) [
  | inl lt ↦
      let there2 : slice_index_or (set takes n b) k d ≡ slice_index_or takes k d = get_or-set_other takes n k b d (λ x. omega (arith, lt, count, x)) in
      let end2 : slice_index_or (ends ++ end ∷ []) k e ≡ slice_index_or ends k e = get_or_append_left ends (end ∷ []) e k lt in
      subst (λ (x : TakeEnd). IsSeated (slice_index_or old k d) x (slice_index_or (ends ++ end ∷ []) k e)) (sym there2)
      (subst (λ (x : SendEnd). IsSeated (slice_index_or old k d) (slice_index_or takes k d) x) (sym end2) (before k d e lt))
  | inr le ↦
      let k_is : k ≡ length ends = omega (arith, there, le, length-append ends (end ∷ [])) in
      let k_n : k ≡ n = omega (arith, k_is, count) in
      let there2 : slice_index_or (set takes n b) k d ≡ b = get_or-set_at takes n k b d k_n low in
      let end2 : slice_index_or (ends ++ end ∷ []) k e ≡ end = last ends end e k k_is in
      let old2 : a ≡ slice_index_or old k d = read takes old a d n low is (same n d (omega arith) low) ∙ ap (λ (i : ℕ). slice_index_or old i d) (sym k_n) in
      subst (λ (x : TakeEnd). IsSeated (slice_index_or old k d) x (slice_index_or (ends ++ end ∷ []) k e)) (sym there2)
      (subst (λ (x : SendEnd). IsSeated (slice_index_or old k d) b x) (sym end2)
      (subst (λ (x : TakeEnd). IsSeated x b end) old2 seated))
]

-- one more end is back
pub back_more : (old takes : List TakeEnd) (all ends rest : List SendEnd) (a b : TakeEnd) (end : SendEnd) (n : ℕ) → ends ≡ rest ++ end ∷ [] → n ≡ length rest → n < length takes → a ≡ slice_index_or takes n a → IsBackAt a b end
    → ((k : ℕ) (e : SendEnd) → k < length ends → slice_index_or ends k e ≡ slice_index_or all k e)
    → ((k : ℕ) (d : TakeEnd) → k < length ends → slice_index_or takes k d ≡ slice_index_or old k d)
    → ((k : ℕ) (d : TakeEnd) (e : SendEnd) → length ends ≤ k → k < length all → IsBackAt (slice_index_or old k d) (slice_index_or takes k d) (slice_index_or all k e))
    → (k : ℕ) (d : TakeEnd) (e : SendEnd) → length rest ≤ k → k < length all → IsBackAt (slice_index_or old k d) (slice_index_or (set takes n b) k d) (slice_index_or all k e)
back_more old takes all ends rest a b end n split count low is back same others before k d e le there =
    let long : length ends ≡ length rest + 1 = ap (λ (l : List SendEnd). length l) split ∙ length-append rest (end ∷ []) in
    elim (cases_lt n k) [
      | inl lt ↦
          let there2 : slice_index_or (set takes n b) k d ≡ slice_index_or takes k d = get_or-set_other takes n k b d (λ x. omega (arith, lt, x)) in
          subst (λ (x : TakeEnd). IsBackAt (slice_index_or old k d) x (slice_index_or all k e)) (sym there2) (before k d e (omega (arith, long, count, lt)) there)
      | inr ge ↦
          let k_n : k ≡ n = omega (arith, ge, le, count) in
          let in_ends : k < length ends = omega (arith, long, k_n, count) in
          let there2 : slice_index_or (set takes n b) k d ≡ b = get_or-set_at takes n k b d k_n low in
          let end2 : end ≡ slice_index_or all k e = sym (last rest end e k (k_n ∙ count)) ∙ ap (λ (l : List SendEnd). slice_index_or l k e) (sym split) ∙ same k e in_ends in
          let old2 : a ≡ slice_index_or old k d = read takes old a d n low is (others n d (omega (arith, in_ends, k_n))) ∙ ap (λ (i : ℕ). slice_index_or old i d) (sym k_n) in
          subst (λ (x : TakeEnd). IsBackAt (slice_index_or old k d) x (slice_index_or all k e)) (sym there2)
          (subst (λ (x : SendEnd). IsBackAt (slice_index_or old k d) b x) end2
          (subst (λ (x : TakeEnd). IsBackAt x b end) old2 back))
    ]

some_end : (ends : List SendEnd) (k : ℕ) → k < length ends → SendEnd
some_end [] k low = absurd (omega (arith, low))
some_end (e ∷ es) k low = e

-- so one more end is back at each wire
pub back_count : (old new : List TakeEnd) (ends : List SendEnd) (count : ℕ) → length ends ≡ length old → length new ≡ length old → AtEach IsBackAt old new ends → HaveBack count old → HaveBack (count + 1) new
back_count old new ends count all same back before k d low =
    let there : k < length old = omega (arith, low, same) in
    let low2 : k < length ends = omega (arith, there, all) in
    let b = back k d (some_end ends k low2) low2 in
    ap (λ (l : List Sent). length l) b.3 ∙ length-append (joined_of (slice_index_or old k d)) _ ∙ ap (λ (n : ℕ). n + 1) (before k d there)
