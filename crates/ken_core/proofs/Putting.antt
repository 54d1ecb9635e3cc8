-- A node puts a packet, or takes one, or emits an output.
use Rattle.std.proofs.Common.{◌≡◌, ◌≢◌, ℕ, ◌+◌, ◌-◌, ◌<◌, List, [], ◌∷◌, ◌++◌, length, slice_get, slice_set, slice_index, Some, None, Option, Bool, true, false, IsTrue, ◌==◌, ◌&&◌, ◌||◌, if◌then◌else◌, refl, sym, ap, ◌∙◌, subst, inl, inr, arith, eq-eqb, ne_eqb, append-nil}
use Rattle.std.proofs.Common.{◌^◌}
use Rattle.std.proofs.lemmas.Bool.{cases_Bool, eqb-true}
use Rattle.ken_model.specs.declared.messages.Out.{Out}
use Rattle.std.proofs.lemmas.Option.{slice_get_within}
use Rattle.ken_model.specs.declared.messages.Message.{Message}
use Rattle.ken_model.specs.declared.reports.Emission.{Emission}
use Rattle.ken_model.specs.Game.{Game}
use Rattle.ken_core.specs.declared.events.Event.TheVariants.{Send, Ack, Emit}
use Rattle.ken_core.specs.declared.machine.Machine.{Machine}
use Rattle.ken_core.specs.Turns.{consumed_from, mails_to, outs_of}
use Rattle.ken_core.specs.Sets.{has_at}
use Rattle.ken_core.specs.Ledgers.{sent_to}
use Rattle.ken_core.specs.Packets.{Receipt, Mail, Answer, receipt_of, mail_out, emitted_out, unacked, due}
use Rattle.ken_core.specs.Steps.{NodeStep}
use Rattle.ken_core.specs.Clusters.{WasPut, mail_after, mail_put, answer_after, answer_put, emissions_by}
use Rattle.ken_core.specs.Groups.{shown, node_in, group_of, IsKept, AreKept, made_by}
use Rattle.ken_core.specs.Marking.{PutsMail, HasNoMail, IsSame, place_past, Acknowledges, HasConsumedNone, IsAlike}
use Rattle.ken_core.proofs.Ledgers.{mail_is, get_some}
use Rattle.ken_core.proofs.Moves.{moved, barred, still_kept}
use Rattle.ken_core.proofs.Repaged.{IsPlayed, same_group}

-- a node whose sets of put mails look the same
same_mailed : (m m2 : Machine) → IsSame m m2 → shown m2 ≡ shown m
same_mailed m m2 same =
    ap shown same.0 ∙ ap (λ sets. record { node = node_in m; mail = λ w number. if has_at sets w number then slice_get (sent_to m.ledger w) (number - 1) else None; answer = (shown m).answer }) same.1

same_kept : (g : Game) (made v : ℕ) (m m2 : Machine) → IsSame m m2 → IsKept g made v m → IsKept g made v m2
same_kept g made v m m2 same kept = subst (λ (x : Machine). IsKept g made v x) (sym same.0) (record {
  ledger = kept.ledger;
  pages = kept.pages;
  acked = kept.acked;
  retired = kept.retired;
  mailed = ap length same.1 ∙ kept.mailed;
  answered = kept.answered;
  put = λ w number is. kept.put w number (ap (λ sets. has_at sets w number) (sym same.1) ∙ is);
  early = kept.early;
})

pub same_played : (g : Game) (ms : List Machine) (es : List Emission) (v k : ℕ) (m m2 : Machine) → AreKept g ms → slice_get ms v ≡ Some m → k ≡ v → IsSame m m2 → (group_of g (slice_set ms k m2) es ≡ group_of g ms es) × AreKept g (slice_set ms k m2)
same_played g ms es v k m m2 kept is same looks =
    subst (λ x. (group_of g (slice_set ms x m2) es ≡ group_of g ms es) × AreKept g (slice_set ms x m2)) (sym same)
    (same_group g ms es v m m2 is (same_mailed m m2 looks), still_kept g ms v m m2 is kept (ap (λ (x : Machine). x.ledger) looks.0) (same_kept g (made_by ms) v m m2 looks (kept.each v m is)))

-- one mail more among those that were put
mail_far : (u v w number : ℕ) (m : Message) (old : Option Message) → m.from ≡ v → u ≢ v → mail_put u w number (Mail m) old ≡ old
mail_far u v w number m old from ne = rw (ne_eqb m.from u (λ e. ne (sym e ∙ from))) refl

both : (a b : Bool) → (a && b) ≡ true → (a ≡ true) × (b ≡ true)
both true true is = (refl, refl)
both true false is = absurd cc
both false b is = absurd cc

pick : (b had : Bool) (o s : Option Message) → (b ≡ true → o ≡ s) → (if b || had then o else None) ≡ (if b then s else (if had then o else None))
pick true had o s e = e refl
pick false had o s e = refl

mail_near : (v to place w number : ℕ) (m : Message) (sent : ℕ → List Message) (had now : Bool) → m.from ≡ v → m.to ≡ to → m.number ≡ place + 1 → slice_get (sent to) place ≡ Some m → now ≡ (((to == w) && (place + 1 == number)) || had) → (if now then slice_get (sent w) (number - 1) else None) ≡ mail_put v w number (Mail m) (if had then slice_get (sent w) (number - 1) else None)
mail_near v to place w number m sent had now from is counted there marked =
    let old : Option Message = if had then slice_get (sent w) (number - 1) else None in
    let same : ((m.from == v) && (m.to == w) && (m.number == number)) ≡ ((to == w) && (place + 1 == number)) =
    ap (λ x. (x == v) && (m.to == w) && (m.number == number)) from ∙ ap (λ x. (v == v) && (x == w) && (m.number == number)) is ∙ ap (λ x. (v == v) && (to == w) && (x == number)) counted ∙ rw (eq-eqb v v refl) refl in
    ap (λ x. if x then slice_get (sent w) (number - 1) else None) marked
    ∙ pick ((to == w) && (place + 1 == number)) had (slice_get (sent w) (number - 1)) (Some m) (λ holds.
    let parts = both (to == w) (place + 1 == number) holds in
    let at : w ≡ to = sym (eqb-true to w parts.0) in
    let number_is : number - 1 ≡ place = let e = eqb-true (place + 1) number parts.1 in omega arith in
    ap (λ x. slice_get (sent x) (number - 1)) at ∙ ap (λ k. slice_get (sent to) k) number_is ∙ there)
    ∙ ap (λ x. if x then Some m else old) (sym same)

module _ (g : Game) (ms : List Machine) (es : List Emission) (v k to i : ℕ) (m m2 : Machine) (kept : AreKept g ms) (is : slice_get ms v ≡ Some m) (same : k ≡ v) (known : v < g.nodes) (up : m.up ≡ true) where
  sent_kept : PutsMail to i m m2 → IsKept g (made_by ms) v m2
  sent_kept p =
      let mine = kept.each v m is in
      let there : to < g.nodes = omega (arith, p.known, mine.acked) in
      subst (λ (x : Machine). IsKept g (made_by ms) v x) (sym p.rest) (record {
        ledger = mine.ledger;
        pages = mine.pages;
        acked = mine.acked;
        retired = mine.retired;
        mailed = p.width ∙ mine.mailed;
        answered = mine.answered;
        put = λ w number has. elim (cases_Bool ((to == w) && (place_past to i m + 1 == number))) [
          | inl here ↦ (let parts = both (to == w) (place_past to i m + 1 == number) here in
              let at : to ≡ w = eqb-true to w parts.0 in
              let number_is = eqb-true (place_past to i m + 1) number parts.1 in
              let sent : place_past to i m < length (mails_to v w m.ledger.turns.items) = subst (λ x. place_past to i m < length (mails_to v x m.ledger.turns.items)) at (omega (arith, p.sent, ap length (mine.ledger.sent to there))) in
              omega arith)
          | inr other ↦ mine.put w number (sym (p.all w number ∙ ap (λ b. b || has_at m.mailed.items w number) other) ∙ has)
        ];
        early = mine.early;
      })

  sent_step : PutsMail to i m m2 → IsPlayed g ms (slice_set ms k m2) es es (Send v to i) true
  sent_step p =
      let mine = kept.each v m is in
      let there : to < g.nodes = omega (arith, p.known, mine.acked) in
      let place : ℕ = place_past to i m in
      let all : sent_to m.ledger to ≡ mails_to v to m.ledger.turns.items = mine.ledger.sent to there in
      let some = get_some (mails_to v to m.ledger.turns.items) place (omega (arith, p.sent, ap length all)) in
      let mail : Message = some.0 in
      let due : unacked v to i (node_in m) ≡ Some mail = some.1 in
      let says = mail_is v to place m.ledger.turns.items mail some.1 in
      let counted = mine.ledger.numbered to place mail some.1 in
      let step : NodeStep g (WasPut (group_of g ms es)) v (node_in m) (Send v to i) (node_in m2) = (mail, (up, there, due, ap node_in p.rest)) in
      let looks : (w number : ℕ) → (shown m2).mail w number ≡ mail_put v w number (Mail mail) ((shown m).mail w number) = λ w number.
      ap (λ (x : Machine). (shown x).mail w number) p.rest ∙ mail_near v to place w number mail (sent_to m.ledger) (has_at m.mailed.items w number) (has_at m2.mailed.items w number) says.0 says.1 counted (ap (λ ss. slice_get ss place) all ∙ some.1) (p.all w number) in
      subst (λ x. IsPlayed g ms (slice_set ms x m2) es es (Send v to i) true) (sym same)
      (record {
        plays = moved g ms v m m2 is es es (Send v to i) refl known step
            (λ u w number ne old. subst (λ (o : Option Message). mail_after u w number (mail_out v to (node_in m) o).puts old ≡ old) (sym due) (mail_far u v w number mail old says.0 ne))
            (λ u w through ne old. subst (λ (o : Option Message). answer_after u w through (mail_out v to (node_in m) o).puts old ≡ old) (sym due) refl)
            (λ w number. subst (λ (o : Option Message). (shown m2).mail w number ≡ mail_after v w number (mail_out v to (node_in m) o).puts ((shown m).mail w number)) (sym due) (looks w number))
            (λ w through. subst (λ (o : Option Message). (shown m2).answer w through ≡ answer_after v w through (mail_out v to (node_in m) o).puts ((shown m).answer w through)) (sym due) (ap (λ (x : Machine). (shown x).answer w through) p.rest))
            (subst (λ (o : Option Message). es ≡ es ++ emissions_by v (mail_out v to (node_in m) o).outs) (sym due) (sym (append-nil es)));
        kept = still_kept g ms v m m2 is kept (ap (λ (x : Machine). x.ledger) p.rest) (sent_kept p);
      })

  -- no such message
  sent_none : HasNoMail to i m → IsSame m m2 → IsPlayed g ms (slice_set ms k m2) es es (Send v to i) false
  sent_none none looks =
      let mine = kept.each v m is in
      let still = same_played g ms es v k m m2 kept is same looks in
      record {
        plays = (
          barred g ms v m m2 is es es (Send v to i) refl (λ n2 step.
              let there : to < g.nodes = step.1.1 in
              let past = none (omega (arith, there, mine.acked)) in
              let within = slice_get_within (mails_to v to m.ledger.turns.items) (place_past to i m) step.0 step.1.2 in
              let all = ap length (mine.ledger.sent to there) in
              omega arith),
          still.0,
        );
        kept = still.1;
      }

  pub sent_played : (happened : Bool) → (IsTrue happened → PutsMail to i m m2) → (happened ≡ false → HasNoMail to i m) → (happened ≡ false → IsSame m m2) → IsPlayed g ms (slice_set ms k m2) es es (Send v to i) happened
  sent_played true made none looks = sent_step (made refl)
  sent_played false made none looks = sent_none (none refl) (looks refl)

-- an output
module _ (g : Game) (ms : List Machine) (es es2 : List Emission) (v k : ℕ) (m : Machine) (o : Out) (kept : AreKept g ms) (is : slice_get ms v ≡ Some m) (same : k ≡ v) (known : v < g.nodes) (up : m.up ≡ true) (next : due (node_in m) ≡ Some o) where
  pub emitted_small : m.emitted + 1 < 2 ^ 64
  emitted_small =
      let within = slice_get_within (outs_of m.ledger.turns.items) m.emitted o next in
      let all = ap length (kept.each v m is).ledger.outs in
      omega (arith, m.ledger.outs.ok, m.ledger.outs.small)

  pub emit_played : es2 ≡ es ++ record { node = v; out = o } ∷ [] → IsPlayed g ms (slice_set ms k (record m { emitted = m.emitted + 1 })) es es2 (Emit v) true
  emit_played more =
      let mine = kept.each v m is in
      let m2 : Machine = record m { emitted = m.emitted + 1 } in
      let step : NodeStep g (WasPut (group_of g ms es)) v (node_in m) (Emit v) (node_in m2) = (o, (up, next, refl)) in
      subst (λ x. IsPlayed g ms (slice_set ms x m2) es es2 (Emit v) true) (sym same)
      (record {
        plays = moved g ms v m m2 is es es2 (Emit v) refl known step
            (λ u w number ne old. subst (λ (x : Option Out). mail_after u w number (emitted_out x).puts old ≡ old) (sym next) refl)
            (λ u w through ne old. subst (λ (x : Option Out). answer_after u w through (emitted_out x).puts old ≡ old) (sym next) refl)
            (λ w number. subst (λ (x : Option Out). (shown m2).mail w number ≡ mail_after v w number (emitted_out x).puts ((shown m).mail w number)) (sym next) refl)
            (λ w through. subst (λ (x : Option Out). (shown m2).answer w through ≡ answer_after v w through (emitted_out x).puts ((shown m).answer w through)) (sym next) refl)
            (subst (λ (x : Option Out). es2 ≡ es ++ emissions_by v (emitted_out x).outs) (sym next) more);
        kept = still_kept g ms v m m2 is kept refl (record {
          ledger = mine.ledger;
          pages = mine.pages;
          acked = mine.acked;
          retired = mine.retired;
          mailed = mine.mailed;
          answered = mine.answered;
          put = mine.put;
          early = mine.early;
        });
      })

-- what was consumed is acknowledged
same_answers : (m m2 : Machine) → IsAlike m m2 → shown m2 ≡ shown m
same_answers m m2 same = ap shown same.0 ∙ ap (λ sets. record { node = node_in m; mail = (shown m).mail; answer = λ w through. has_at sets w through }) same.1

alike_kept : (g : Game) (made v : ℕ) (m m2 : Machine) → m2 ≡ record m { answered = m2.answered } → length m2.answered.items ≡ length m.answered.items → IsKept g made v m → IsKept g made v m2
alike_kept g made v m m2 same width kept = subst (λ (x : Machine). IsKept g made v x) (sym same) (record {
  ledger = kept.ledger;
  pages = kept.pages;
  acked = kept.acked;
  retired = kept.retired;
  mailed = kept.mailed;
  answered = width ∙ kept.answered;
  put = kept.put;
  early = kept.early;
})

pub alike_played : (g : Game) (ms : List Machine) (es : List Emission) (v k : ℕ) (m m2 : Machine) → AreKept g ms → slice_get ms v ≡ Some m → k ≡ v → IsAlike m m2 → (group_of g (slice_set ms k m2) es ≡ group_of g ms es) × AreKept g (slice_set ms k m2)
alike_played g ms es v k m m2 kept is same looks =
    subst (λ x. (group_of g (slice_set ms x m2) es ≡ group_of g ms es) × AreKept g (slice_set ms x m2)) (sym same)
    (same_group g ms es v m m2 is (same_answers m m2 looks), still_kept g ms v m m2 is kept (ap (λ (x : Machine). x.ledger) looks.0) (alike_kept g (made_by ms) v m m2 looks.0 (ap length looks.1) (kept.each v m is)))

pick_answer : (b had : Bool) → (b || had) ≡ (if b then true else had)
pick_answer true had = refl
pick_answer false had = refl

module _ (g : Game) (ms : List Machine) (es : List Emission) (v k from : ℕ) (m m2 : Machine) (kept : AreKept g ms) (is : slice_get ms v ≡ Some m) (same : k ≡ v) (known : v < g.nodes) (up : m.up ≡ true) where
  answer_near : (w t : ℕ) (a : Receipt) (had now : Bool) → a.from ≡ v → a.to ≡ from → now ≡ (((from == w) && (a.through == t)) || had) → now ≡ answer_put v w t (Answer a) had
  answer_near w t a had now one two marked =
      let cond : ((a.from == v) && (a.to == w) && (a.through == t)) ≡ ((from == w) && (a.through == t)) =
      ap (λ x. (x == v) && (a.to == w) && (a.through == t)) one ∙ ap (λ x. (v == v) && (x == w) && (a.through == t)) two ∙ rw (eq-eqb v v refl) refl in
      marked ∙ pick_answer ((from == w) && (a.through == t)) had ∙ ap (λ x. if x then true else had) (sym cond)

  ack_step : Acknowledges from m m2 → IsPlayed g ms (slice_set ms k m2) es es (Ack v from) true
  ack_step p =
      let mine = kept.each v m is in
      let there : from < g.nodes = omega (arith, p.known, mine.ledger.consumed_width) in
      let count : slice_index m.ledger.consumed.items from ≡ consumed_from from m.ledger.turns.items = mine.ledger.consumed from there in
      let some : 0 < consumed_from from m.ledger.turns.items = omega (arith, p.some) in
      let a : Receipt = receipt_of v from (node_in m) in
      let step : NodeStep g (WasPut (group_of g ms es)) v (node_in m) (Ack v from) (node_in m2) = (up, there, some, ap node_in p.rest) in
      let looks : (w t : ℕ) → (shown m2).answer w t ≡ answer_put v w t (Answer a) ((shown m).answer w t) = λ w t.
      answer_near w t a (has_at m.answered.items w t) (has_at m2.answered.items w t) refl refl (p.all w t ∙ ap (λ x. ((from == w) && (x == t)) || has_at m.answered.items w t) count) in
      subst (λ x. IsPlayed g ms (slice_set ms x m2) es es (Ack v from) true) (sym same)
      (record {
        plays = moved g ms v m m2 is es es (Ack v from) refl known step
            (λ u w number ne old. refl)
            (λ u w through ne old. rw (ne_eqb v u (λ e. ne (sym e))) refl)
            (λ w number. ap (λ (x : Machine). (shown x).mail w number) p.rest)
            looks
            (sym (append-nil es));
        kept = still_kept g ms v m m2 is kept (ap (λ (x : Machine). x.ledger) p.rest) (alike_kept g (made_by ms) v m m2 p.rest p.width mine);
      })

  ack_none : HasConsumedNone from m → IsAlike m m2 → IsPlayed g ms (slice_set ms k m2) es es (Ack v from) false
  ack_none none looks =
      let mine = kept.each v m is in
      let still = alike_played g ms es v k m m2 kept is same looks in
      record {
        plays = (
          barred g ms v m m2 is es es (Ack v from) refl (λ n2 step.
              let there : from < g.nodes = step.1 in
              let some : 0 < consumed_from from m.ledger.turns.items = step.2 in
              let count = mine.ledger.consumed from there in
              let zero = none (omega (arith, there, mine.ledger.consumed_width)) in
              omega arith),
          still.0,
        );
        kept = still.1;
      }

  pub ack_played : (happened : Bool) → (IsTrue happened → Acknowledges from m m2) → (happened ≡ false → HasConsumedNone from m) → (happened ≡ false → IsAlike m m2) → IsPlayed g ms (slice_set ms k m2) es es (Ack v from) happened
  ack_played true made none looks = ack_step (made refl)
  ack_played false made none looks = ack_none (none refl) (looks refl)
