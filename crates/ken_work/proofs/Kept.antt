-- A turn that was sealed is kept, and its worker takes calls.
use Rattle.std.proofs.Common.{◌≡◌, ℕ, ◌+◌, max, List, [], ◌∷◌, ◌++◌, length, Option, Some, ◌*◌, slice_set, refl, sym, ap, ◌∙◌, arith, ◌<◌, ◌≤◌, ⊎_elim, Bool, true, false, ◌==◌, if◌then◌else◌, lit<, eq-eqb}
use Rattle.std.proofs.lemmas.Bool.{false≢true}
use Rattle.std.proofs.lemmas.List.{get_or-set_same, length_push}
use Rattle.ken_alloc.specs.Objects.{Heap}
use Rattle.ken_disk.specs.Story.{Story}
use Rattle.ken_model.specs.declared.messages.Message.{Message}
use Rattle.ken_model.specs.Handler.{Handler}
use Rattle.ken_order.specs.Consumed.{Consumed, IsSender, consumed_from, place}
use Rattle.ken_record.specs.declared.effects.Effects.{Effects}
use Rattle.ken_record.specs.declared.page.Page.{Page}
use Rattle.ken_store.specs.declared.numbers.Numbers.{Numbers}
use Rattle.ken_store.specs.declared.owner.Owner.{Owner}
use Rattle.ken_store.specs.declared.turning.TurnSide.{TurnSide}
use Rattle.ken_store.specs.Numbers.{after_record}
use Rattle.ken_store.specs.Turning.{IsSameNode, IsSealed, Turning, record_of}
use Rattle.ken_work.specs.declared.worker.TurnWorker.{TurnWorker}
use Rattle.ken_work.specs.Calls.{consumed_with}
use Rattle.ken_work.specs.Making.{IsMade, IsMessage, stamp_in}
use Rattle.ken_work.proofs.Handled.{call_of}
use Rattle.ken_app.specs.Limits.{ComesTo}
use Rattle.ken_app.specs.Limits as limits
use Rattle.ken_work.specs.Workers.{Working}

module _ {D : Type 0} (told : D → Option Story) (size : D → ℕ) (h : Handler) (before : TurnSide D) (w new : TurnWorker D) (m : Message) (e : Effects) (working : Working told size h (record w { side = before })) (made : IsMade h m e before w.side) (message : IsMessage w.node w.order m) where
  stamped : e.stamp ≡ stamp_in before.numbers m
  stamped = ap (λ (x : Effects). x.stamp) made.effects

  -- what is consumed then
  pub order_kept : (c : Consumed) → c ≡ record { nodes = w.order.nodes; stamp = max w.order.stamp m.stamp + 1; consumed = slice_set w.order.consumed (place e.from) e.number } → c ≡ consumed_with m e.stamp w.order
  order_kept c is =
      let stamp : max w.order.stamp m.stamp + 1 ≡ e.stamp = ap (λ (x : Consumed). max x.stamp m.stamp + 1) working.order ∙ sym stamped in
      let from : e.from ≡ m.from = ap (λ (x : Effects). x.from) made.effects in
      let number : e.number ≡ m.number = ap (λ (x : Effects). x.number) made.effects in
      is
      ∙ ap (λ k. record { nodes = w.order.nodes; stamp = k; consumed = slice_set w.order.consumed (place e.from) e.number }) stamp
      ∙ ap (λ k. record { nodes = w.order.nodes; stamp = e.stamp; consumed = slice_set w.order.consumed (place k) e.number }) from
      ∙ ap (λ k. record { nodes = w.order.nodes; stamp = e.stamp; consumed = slice_set w.order.consumed (place m.from) k }) number

  module _ (turn : ℕ) (pages : List Page) (sealed : IsSealed e w.side turn pages new.side) (same : IsSameNode w.side new.side) (turning : Turning told size new.side)
      (node : new.node ≡ w.node) (nodes : new.nodes ≡ w.nodes) (order : new.order ≡ consumed_with m e.stamp w.order) (turns : new.turns.items ≡ w.turns.items ++ e ∷ []) where
    owner : new.side.owner ≡ before.owner
    owner = same.owner ∙ made.same.owner

    numbers : new.side.numbers ≡ after_record before.numbers (record_of turn e pages)
    numbers = sealed.numbers ∙ ap (λ (n : Numbers). after_record n (record_of turn e pages)) made.same.numbers

    consumed : slice_set w.order.consumed (place m.from) m.number ≡ new.side.numbers.consumed
    consumed =
        ap (λ (x : Consumed). slice_set x.consumed (place m.from) m.number) working.order
        ∙ ap (λ (x : Effects). slice_set before.numbers.consumed (place x.from) x.number) (sym made.effects)
        ∙ ap (λ (n : Numbers). n.consumed) (sym numbers)

    ordered : new.order ≡ record { nodes = new.nodes; stamp = new.side.numbers.stamp; consumed = new.side.numbers.consumed }
    ordered =
        order
        ∙ ap (λ k. record { nodes = k; stamp = e.stamp; consumed = slice_set w.order.consumed (place m.from) m.number }) (ap (λ (x : Consumed). x.nodes) working.order ∙ sym nodes)
        ∙ ap (λ k. record { nodes = new.nodes; stamp = k; consumed = slice_set w.order.consumed (place m.from) m.number }) (ap (λ (n : Numbers). n.stamp) (sym numbers))
        ∙ ap (λ l. record { nodes = new.nodes; stamp = new.side.numbers.stamp; consumed = l }) consumed

    value : new.side.objects.value ≡ made.effect.value
    value = ap (λ (x : Heap). x.value) sealed.objects ∙ made.value

    comes : ComesTo h new.node new.nodes (256 * new.side.owner.pages) new.side.objects.value
    comes =
        let after : h.after w.node w.nodes before.objects.value m e.draws ≡ Some made.effect = rw (working.node, working.nodes) at made.made in
        let call = call_of before.owner w.order m e.draws w.node w.nodes working.side.owner working.node working.nodes (ap (λ (c : Consumed). c.nodes) working.order) message made.words in
        let next : ComesTo h w.node w.nodes (256 * before.owner.pages) made.effect.value = limits.next working.heap call after in
        rw (node, nodes, owner, value) next

    pub working_kept : Working told size h new
    working_kept = record {
      side = turning;
      idle = ap (λ (x : Heap). x.begun) sealed.objects;
      node = ap (λ (o : Owner). o.node) owner ∙ working.node ∙ sym node;
      nodes = ap (λ (o : Owner). o.nodes) owner ∙ working.nodes ∙ sym nodes;
      order = ordered;
      count = ap length turns ∙ length_push w.turns.items e ∙ ap (λ n. n + 1) working.count ∙ ap (λ (n : Numbers). n.turns + 1) (sym made.same.numbers) ∙ sym sealed.counted ∙ ap (λ (n : Numbers). n.turns) (sym sealed.numbers);
      heap = comes;
    }

-- ---- what is consumed of the sender of a turn

place_known : (nodes from : ℕ) → nodes ≤ 8 → IsSender nodes from → place from < 9
place_known nodes from few sender = at (from == 255) refl
  where
    at : (b : Bool) → (from == 255) ≡ b → (if b then 8 else from) < 9
    at true is = lit< tt
    at false is = ⊎_elim (λ node. omega arith) (λ out. absurd (false≢true (sym is ∙ eq-eqb from 255 out))) sender

pub some_consumed : (c now : Consumed) (m : Message) (stamp : ℕ) → now ≡ consumed_with m stamp c → length c.consumed ≡ 9 → c.nodes ≤ 8 → IsSender c.nodes m.from → 0 < m.number → 0 < consumed_from now m.from
some_consumed c now m stamp is long few sender some =
    let known : place m.from < length c.consumed = omega (arith, long, place_known c.nodes m.from few sender) in
    let here : consumed_from now m.from ≡ m.number = ap (λ (x : Consumed). consumed_from x m.from) is ∙ get_or-set_same c.consumed (place m.from) m.number 0 known in
    omega (arith, here, some)
