-- A turn is sealed.
use Rattle.std.proofs.Common.{◌≡◌, ℕ, zero, suc, ◌+◌, ◌-◌, ◌<◌, ◌≤◌, List, [], ◌∷◌, ◌++◌, filter, length, slice_get, slice_index, slice_index_or, Some, true, false, ◌==◌, if◌then◌else◌, refl, sym, ap, ◌∙◌, subst, ⊎_elim, arith, eq-eqb, ne_eqb, append-nil, length-append}
use Rattle.std.proofs.lemmas.Bool.{cases_eq}
use Rattle.std.proofs.lemmas.List.{length-map, length_push}
use Rattle.std.proofs.lemmas.List.Sums.{sum_by-append}
use Rattle.std.proofs.lemmas.List.Concat.{flat_map-append}
use Rattle.ken_model.specs.declared.messages.Message.{Message}
use Rattle.ken_model.specs.declared.messages.Out.{Out}
use Rattle.ken_model.specs.Game.{Game}
use Rattle.ken_model.specs.Network.{Turn, outside, numbered, outputs_from}
use Rattle.ken_model.specs.Posted.{posted_after}
use Rattle.ken_record.specs.declared.effects.Effects.{Effects}
use Rattle.ken_core.specs.declared.ledger.Ledger.{Ledger}
use Rattle.ken_core.specs.Turns.{consumed_from, mails_to, outs_of, effects_of}
use Rattle.ken_core.specs.Ledgers.{sent_to, counted_from, IsLedger, IsSealed, IsSameLedger}
use Rattle.ken_core.proofs.Numbers.{mails_to-push, mails_in-effects}
use Rattle.ken_core.proofs.Mailing.{mails_back, numbered_at}

-- a ledger with other room
pub same_ledger : (g : Game) (v : ℕ) (l l2 : Ledger) → IsSameLedger l l2 → IsLedger g v l → IsLedger g v l2
same_ledger g v l l2 same is = record {
  turns = subst (λ ts. length ts ≤ g.turns) (sym same.turns) is.turns;
  consumed_width = ap (λ x. length x.items) same.consumed ∙ is.consumed_width;
  consumed = λ u within. ap (λ x. slice_index x.items u) same.consumed ∙ is.consumed u within ∙ ap (consumed_from u) (sym same.turns);
  inputs = ap (λ x. x.items) same.inputs ∙ is.inputs;
  inputs_consumed = same.inputs_consumed ∙ is.inputs_consumed ∙ ap (consumed_from outside) (sym same.turns);
  sent_width = sym (length-map l2.sent.items (λ list. list.items)) ∙ ap length same.sent ∙ length-map l.sent.items (λ list. list.items) ∙ is.sent_width;
  sent = λ w within. ap (λ ls. slice_index_or ls w []) same.sent ∙ is.sent w within ∙ ap (mails_to v w) (sym same.turns);
  outs = same.outs ∙ is.outs ∙ ap outs_of (sym same.turns);
  numbered = λ w k m at. is.numbered w k m (subst (λ ts. slice_get (mails_to v w ts) k ≡ Some m) same.turns at);
}

-- what one turn more consumes
consumed-push : (u : ℕ) (es : List Effects) (e : Effects) → consumed_from u (es ++ e ∷ []) ≡ (if u == e.from then consumed_from u es + 1 else consumed_from u es)
consumed-push u es e =
    let split : consumed_from u (es ++ e ∷ []) ≡ consumed_from u es + (0 + (if e.from == u then 1 else 0)) = sum_by-append (λ (x : Effects). if x.from == u then 1 else 0) es (e ∷ []) in
    ⊎_elim
    (λ (same : e.from ≡ u).
    let one : ◌≡◌ {A = ℕ} (if e.from == u then 1 else 0) 1 = ap (λ b. if b then 1 else 0) (eq-eqb e.from u same) in
    let more : consumed_from u (es ++ e ∷ []) ≡ consumed_from u es + 1 = omega (arith, split, one) in
    more ∙ ap (λ b. if b then consumed_from u es + 1 else consumed_from u es) (sym (eq-eqb u e.from (sym same))))
    (λ (other : e.from ≡ u → ⊥).
    let none : ◌≡◌ {A = ℕ} (if e.from == u then 1 else 0) 0 = ap (λ b. if b then 1 else 0) (ne_eqb e.from u other) in
    let still : consumed_from u (es ++ e ∷ []) ≡ consumed_from u es = omega (arith, split, none) in
    still ∙ ap (λ b. if b then consumed_from u es + 1 else consumed_from u es) (sym (ne_eqb u e.from (λ s. other (sym s)))))
    (cases_eq e.from u)

outs-push : (es : List Effects) (e : Effects) → outs_of (es ++ e ∷ []) ≡ outs_of es ++ e.outs
outs-push es e = flat_map-append (λ (x : Effects). x.outs) es (e ∷ []) ∙ ap (λ xs. outs_of es ++ xs) (append-nil e.outs)

-- a message of a list that was joined
joined_at : (n : ℕ) (xs ys : List Message) (k : ℕ) (m : Message) → slice_get (xs ++ ys) k ≡ Some m → ((j : ℕ) → slice_get xs j ≡ Some m → m.number ≡ n + j + 1) → ((j : ℕ) → slice_get ys j ≡ Some m → m.number ≡ n + length xs + j + 1) → m.number ≡ n + k + 1
joined_at n [] ys k m is one other = let h = other k is in omega arith
joined_at n (x ∷ xs) ys zero m is one other = one 0 is
joined_at n (x ∷ xs) ys (suc k) m is one other =
    let h = joined_at (suc n) xs ys k m is (λ j at. let e = one (suc j) at in omega arith) (λ j at. let e = other j at in omega arith) in
    omega arith

module _ (g : Game) (v : ℕ) (l l2 : Ledger) (t : Turn) (mails : List Message) (made : List Out) (is : IsLedger g v l) (sealed : IsSealed (effects_of v l.turns.items t) mails made l l2) (few : g.nodes ≤ outside) (more : length l.turns.items < g.turns)
    (mails_are : mails ≡ posted_after v t.stamp (λ w. length (mails_to v w l.turns.items)) t.effect.sends) (outs_are : made ≡ outputs_from (length (outs_of l.turns.items)) t.effect.outs) where
  all_mails : (w : ℕ) → mails_to v w l2.turns.items ≡ mails_to v w l.turns.items ++ filter (λ (m : Message). m.to == w) mails
  all_mails w =
      ap (mails_to v w) sealed.turns ∙ mails_to-push v w l.turns.items (effects_of v l.turns.items t)
      ∙ ap (λ ms. mails_to v w l.turns.items ++ ms) (mails_back v t.stamp w (λ x. length (mails_to v x l.turns.items)) t.effect.sends ∙ ap (filter (λ (m : Message). m.to == w)) (sym mails_are))

  counted : (u : ℕ) → counted_from l u ≡ consumed_from u l.turns.items → counted_from l2 u ≡ consumed_from u l2.turns.items
  counted u old =
      sealed.counted u ∙ ap (λ k. if u == t.message.from then k + 1 else k) old ∙ sym (consumed-push u l.turns.items (effects_of v l.turns.items t)) ∙ ap (consumed_from u) (sym sealed.turns)

  pub sealed_ledger : IsLedger g v l2
  sealed_ledger = record {
    turns = omega (arith, more, ap length sealed.turns, length_push l.turns.items (effects_of v l.turns.items t));
    consumed_width = sealed.consumed_width ∙ is.consumed_width;
    consumed = λ u within.
        let inside : (u == outside) ≡ false = ne_eqb u outside (λ e. omega arith) in
        let old : counted_from l u ≡ consumed_from u l.turns.items = ap (λ b. if b then l.inputs_consumed else slice_index l.consumed.items u) inside ∙ is.consumed u within in
        sym (ap (λ b. if b then l2.inputs_consumed else slice_index l2.consumed.items u) inside) ∙ counted u old;
    inputs = sealed.inputs ∙ is.inputs;
    inputs_consumed =
        let yes : (outside == outside) ≡ true = eq-eqb outside outside refl in
        let old : counted_from l outside ≡ consumed_from outside l.turns.items = ap (λ b. if b then l.inputs_consumed else slice_index l.consumed.items outside) yes ∙ is.inputs_consumed in
        sym (ap (λ b. if b then l2.inputs_consumed else slice_index l2.consumed.items outside) yes) ∙ counted outside old;
    sent_width = sealed.sent_width ∙ is.sent_width;
    sent = λ w within. sealed.sent w ∙ ap (λ ms. ms ++ filter (λ (m : Message). m.to == w) mails) (is.sent w within) ∙ sym (all_mails w);
    outs = sealed.outs ∙ ap (λ os. os ++ made) is.outs ∙ ap (λ os. outs_of l.turns.items ++ os) outs_are ∙ sym (outs-push l.turns.items (effects_of v l.turns.items t)) ∙ ap outs_of (sym sealed.turns);
    numbered = λ w k m at.
        let whole : mails_to v w l2.turns.items ≡ mails_to v w l.turns.items ++ numbered v w (length (mails_to v w l.turns.items)) t.stamp t.effect.sends =
        ap (mails_to v w) sealed.turns ∙ mails_to-push v w l.turns.items (effects_of v l.turns.items t) ∙ ap (λ ms. mails_to v w l.turns.items ++ ms) (mails_in-effects v w l.turns.items t) in
        let h = joined_at 0 (mails_to v w l.turns.items) (numbered v w (length (mails_to v w l.turns.items)) t.stamp t.effect.sends) k m (subst (λ ms. slice_get ms k ≡ Some m) whole at)
        (λ j h. let e = is.numbered w j m h in omega arith)
        (λ j h. let e = numbered_at v w (length (mails_to v w l.turns.items)) t.stamp t.effect.sends j m h in omega arith) in
        omega arith;
  }

  -- the messages that it sent before are still there
  pub still_sent : (w number : ℕ) → number - 1 < length (mails_to v w l.turns.items) → number - 1 < length (mails_to v w l2.turns.items)
  still_sent w number within = omega (arith, within, ap length (all_mails w), length-append (mails_to v w l.turns.items) (filter (λ (m : Message). m.to == w) mails))

  pub same_mail : (w k : ℕ) → w < g.nodes → k < length (mails_to v w l.turns.items) → slice_get (sent_to l2 w) k ≡ slice_get (sent_to l w) k
  same_mail w k within there = ap (λ ms. slice_get ms k) (sealed.sent w) ∙ front_at (sent_to l w) (filter (λ (m : Message). m.to == w) mails) k (omega (arith, there, ap length (is.sent w within)))
    where
      front_at : (xs ys : List Message) (i : ℕ) → i < length xs → slice_get (xs ++ ys) i ≡ slice_get xs i
      front_at [] ys i h = absurd (omega arith)
      front_at (x ∷ xs) ys zero h = refl
      front_at (x ∷ xs) ys (suc i) h = front_at xs ys i (omega arith)
