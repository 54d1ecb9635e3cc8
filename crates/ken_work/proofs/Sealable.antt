-- A turn that was made may be sealed.
use Rattle.std.proofs.Common.{◌≡◌, ℕ, ◌+◌, ◌<◌, ◌≤◌, ◌^◌, ◌⊎◌, List, [], ◌∷◌, ◌*◌, length, Bool, true, false, Option, Some, refl, sym, ap, subst, ◌∙◌, arith, inl, inr, ⊎_elim, eq-eqb}
use Rattle.std.specs.Prelude.{nat_lt, ◌&&◌, ◌||◌, ◌==◌, slice_index, slice_index_or}
use Rattle.std.specs.List.{AllByRecursion}
use Rattle.std.proofs.lemmas.Bool.{cases_lt, false≢true}
use Rattle.ken_disk.specs.Story.{Story}
use Rattle.ken_model.specs.declared.messages.Message.{Message}
use Rattle.ken_model.specs.declared.messages.Send.{Send}
use Rattle.ken_model.specs.Effects.{Effect}
use Rattle.ken_model.specs.Handler.{Handler}
use Rattle.ken_model.specs.Network.{outputs_from}
use Rattle.ken_app.specs.Turning.{IsAllowed, IsShortText}
use Rattle.ken_record.specs.declared.effects.Effects.{Effects}
use Rattle.ken_record.specs.declared.record.Record.{Record}
use Rattle.ken_record.specs.Grammar.{AtMost, IsRecord, IsSent, IsWord}
use Rattle.ken_record.specs.Versions.{One}
use Rattle.ken_core.proofs.Numbers.{length-outputs_from}
use Rattle.ken_order.specs.Consumed.{Consumed, IsSender, place}
use Rattle.ken_store.proofs.BaseStands.{both, is_less}
use Rattle.ken_store.proofs.Turned.{side_stands}
use Rattle.ken_store.specs.declared.numbers.Numbers.{Numbers}
use Rattle.ken_store.specs.declared.owner.Owner.{Owner}
use Rattle.ken_store.specs.declared.turning.TurnSide.{TurnSide}
use Rattle.ken_store.specs.Numbers.{are_within, comes_next, follows, outs_follow, sender_index, sends_follow}
use Rattle.ken_store.specs.Turning.{MaySeal, record_of}
use Rattle.ken_work.specs.declared.worker.TurnWorker.{TurnWorker}
use Rattle.ken_work.specs.Capped as capped
use Rattle.ken_work.specs.Capped.{HasHigh, IsHigh}
use Rattle.ken_work.specs.Making.{IsMade, IsMessage, MayTakeMore, effects_in, stamp_in}
use Rattle.ken_app.specs.Limits.{KeepsLimits}
use Rattle.ken_work.specs.Workers.{Working}
use Rattle.ken_work.proofs.Handled.{call_of, if_some}
use Rattle.ken_work.proofs.Numbering.{are_numbered-outputs_from, length-posted, outs_fit, outs_follow-outputs_from, sends_follow-sents, sents, sents_fit}

pub AllByRecursion-weaker : {A : Type 0} (P Q : A → Type 0) (xs : List A) → ((x : A) → P x → Q x) → AllByRecursion P xs → AllByRecursion Q xs
AllByRecursion-weaker P Q [] weaker all = tt
AllByRecursion-weaker P Q (x ∷ xs) weaker all = (weaker x all.0, AllByRecursion-weaker P Q xs weaker all.1)

-- ---- numbers that aren't high

not_high : (n : ℕ) → (IsHigh n → ⊥) → n < 2 ^ 63
not_high n none = ⊎_elim (λ h. h) (λ high. absurd (none high)) (cases_lt n (2 ^ 63))

module _ (n : Numbers) (low : HasHigh n → ⊥) where
  pub low_stamp : n.stamp < 2 ^ 63
  low_stamp = not_high n.stamp (λ h. low (capped.stamp h))

  pub low_consumed : (at : ℕ) → slice_index n.consumed at < 2 ^ 63
  low_consumed at = not_high (slice_index n.consumed at) (λ h. low (capped.consumed at h))

  pub low_sent : (at : ℕ) → slice_index n.sent at < 2 ^ 63
  low_sent at = not_high (slice_index n.sent at) (λ h. low (capped.sent at h))

  pub low_outputs : n.outputs < 2 ^ 63
  low_outputs = not_high n.outputs (λ h. low (capped.outputs h))

-- ---- the effects of a turn

module _ (o : Owner) (n : Numbers) (v : ℕ) (m : Message) (draws : List ℕ) (effect : Effect) (few : o.nodes ≤ 8) (wide : length n.sent ≡ 8) (low : HasHigh n → ⊥) (turns : n.turns < 100000) (sender : IsSender o.nodes m.from) (number : m.number ≡ slice_index n.consumed (place m.from) + 1) (stamp : m.stamp < 2 ^ 63) (drawn : AtMost 16 IsWord draws) (allowed : IsAllowed o.nodes effect) where
  e : Effects
  e = effects_in v n m draws effect

  few_sends : length effect.sends ≤ 16
  few_sends = allowed.few_sends

  few_outs : length effect.outs ≤ 16
  few_outs = allowed.few_outs

  pub fits : IsRecord One (record_of (n.turns + 1) (effects_in v n m draws effect) [])
  fits =
      let one = low_stamp n low in
      let taken = low_consumed n low (place m.from) in
      let out = low_outputs n low in
      let known : AllByRecursion (λ (s : Send). (s.to < 8) × IsShortText s.bytes) effect.sends = AllByRecursion-weaker (λ (s : Send). (s.to < o.nodes) × IsShortText s.bytes) (λ (s : Send). (s.to < 8) × IsShortText s.bytes) effect.sends (λ s h. let below = h.0 in (omega arith, h.1)) allowed.sends in
      let sent : AllByRecursion IsSent (sents v (stamp_in n m) n.sent effect.sends) = sents_fit v (stamp_in n m) n.sent effect.sends wide known (λ w. let h = low_sent n low w in let k = few_sends in omega arith) in
      let k = few_sends in
      let j = few_outs in
      let many : length (sents v (stamp_in n m) n.sent effect.sends) ≤ 16 = omega (arith, length-posted v (stamp_in n m) (λ w. slice_index n.sent w) effect.sends) in
      let said : length (outputs_from n.outputs effect.outs) ≤ 16 = omega (arith, length-outputs_from n.outputs effect.outs) in
      record {
        turn = (omega arith, omega arith);
        stamp = (omega arith, omega arith);
        from = ⊎_elim (λ node. inl (omega arith)) inr sender;
        number = (omega (arith, number), omega (arith, number, taken));
        lists = (drawn, (many, sent), (said, outs_fit n.outputs effect.outs (omega arith) allowed.outs), (omega arith, tt));
        numbered = are_numbered-outputs_from n.outputs effect.outs;
        rising = refl;
      }

  pub follow : follows o n (record_of (n.turns + 1) (effects_in v n m draws effect) []) ≡ true
  follow =
      let r : Record = record_of (n.turns + 1) (effects_in v n m draws effect) [] in
      let known : AllByRecursion (λ (s : Send). s.to < o.nodes) effect.sends = AllByRecursion-weaker (λ (s : Send). (s.to < o.nodes) × IsShortText s.bytes) (λ (s : Send). s.to < o.nodes) effect.sends (λ s h. h.0) allowed.sends in
      let next : comes_next o n r ≡ true =
      both ((r.turn == n.turns + 1) && nat_lt n.stamp r.stamp && (nat_lt r.from o.nodes || r.from == 255)) (r.number == slice_index_or n.consumed (sender_index r.from) 0 + 1)
      (both ((r.turn == n.turns + 1) && nat_lt n.stamp r.stamp) (nat_lt r.from o.nodes || r.from == 255)
      (both (r.turn == n.turns + 1) (nat_lt n.stamp r.stamp) (eq-eqb (n.turns + 1) (n.turns + 1) refl) (is_less n.stamp (stamp_in n m) (omega arith)))
      (is_sender m.from o.nodes sender))
      (eq-eqb m.number (slice_index n.consumed (place m.from) + 1) number) in
      both (comes_next o n r && sends_follow o.nodes n.sent r.sends && outs_follow n.outputs r.outs) (are_within o.pages [])
      (both (comes_next o n r && sends_follow o.nodes n.sent r.sends) (outs_follow n.outputs r.outs)
      (both (comes_next o n r) (sends_follow o.nodes n.sent r.sends) next (sends_follow-sents v (stamp_in n m) o.nodes n.sent effect.sends (omega (arith, few, wide)) known))
      (outs_follow-outputs_from n.outputs effect.outs))
      refl
    where
      either : (a b : Bool) → (a ≡ true) ⊎ (b ≡ true) → (a || b) ≡ true
      either true b is = refl
      either false b is = ⊎_elim (λ no. absurd (false≢true no)) (λ yes. yes) is

      is_sender : (from nodes : ℕ) → IsSender nodes from → (nat_lt from nodes || from == 255) ≡ true
      is_sender from nodes is = either (nat_lt from nodes) (from == 255) (⊎_elim (λ node. inl (is_less from nodes node)) (λ out. inr (eq-eqb from 255 out)) is)

-- ---- the turn

module _ {D : Type 0} (told : D → Option Story) (size : D → ℕ) (h : Handler) (w : TurnWorker D) (working : Working told size h w) (keeps : KeepsLimits w.nodes (256 * w.side.owner.pages) h) (m : Message) (message : IsMessage w.node w.order m) where
  -- what the handler makes of the message is within the limits
  pub allowed : (draws : List ℕ) (effect : Effect) → AllByRecursion IsWord draws → h.after w.node w.nodes w.side.objects.value m draws ≡ Some effect → IsAllowed w.nodes effect
  allowed draws effect words made =
      let call = call_of w.side.owner w.order m draws w.node w.nodes working.side.owner working.node working.nodes (ap (λ (c : Consumed). c.nodes) working.order) message words in
      if_some (IsAllowed w.nodes) (h.after w.node w.nodes w.side.objects.value m draws) effect made (keeps w.node w.side.objects.value m draws working.heap call)

  module _ (more : MayTakeMore w) (most : w.cap ≤ 100000) where
    pub may_seal : (e : Effects) (new : TurnSide D) → IsMade h m e w.side new → AtMost 16 IsWord e.draws → MaySeal new e
    may_seal e new made drawn =
        let same = made.same in
        let s : TurnSide D = w.side in
        let n : Numbers = w.side.numbers in
        let o : Owner = w.side.owner in
        let v : ℕ = w.side.owner.node in
        let order = working.order in
        let few : o.nodes ≤ 8 = working.side.owner.nodes in
        let wide : length n.sent ≡ 8 = (side_stands told size w.side working.side).0.sends.long in
        let few_turns : n.turns < 100000 = let t = more.turns in omega arith in
        let sender : IsSender o.nodes m.from = subst (λ k. IsSender k m.from) (ap (λ (c : Consumed). c.nodes) order ∙ sym working.nodes) message.sender in
        let number : m.number ≡ slice_index n.consumed (place m.from) + 1 = message.number ∙ ap (λ (c : Consumed). slice_index c.consumed (place m.from) + 1) order in
        let after : h.after w.node w.nodes w.side.objects.value m e.draws ≡ Some made.effect = rw (working.node, working.nodes) at made.made in
        let is : IsAllowed o.nodes made.effect = subst (λ k. IsAllowed k made.effect) (sym working.nodes) (allowed e.draws made.effect drawn.1 after) in
        let spelled = fits o n v m e.draws made.effect few wide more.numbers few_turns sender number message.stamp drawn is in
        let going = follow o n v m e.draws made.effect few wide more.numbers few_turns sender number message.stamp drawn is in
        let P : Numbers → Effects → Type 0 = λ k x. IsRecord One (record_of (k.turns + 1) x []) in
        let Q : Owner → Numbers → Effects → Type 0 = λ p k x. follows p k (record_of (k.turns + 1) x []) ≡ true in
        record {
          fits = subst (λ k. P k e) (sym same.numbers) (subst (P n) (sym made.effects) spelled);
          follows = subst (λ p. Q p new.numbers e) (sym same.owner) (subst (λ k. Q o k e) (sym same.numbers) (subst (Q o n) (sym made.effects) going));
          room = let end = more.end in rw same.log (omega arith);
        }
