use Rattle.std.proofs.Common.{◌≡◌, ◌+◌, ◌∷◌, [], ◌++◌, ◌∙◌, ℕ, List, length, sym, ap, subst, arith, append_assoc, rules}
use Rattle.ken_links.specs.Rings.{popped, known}
use Rattle.ken_outbox.specs.Waiting.{Waiting}
use Rattle.ken_ship.specs.declared.items.Sealed.{Sealed}
use Rattle.ken_ship.specs.Handing.{with_turns, Received}
use Rattle.ken_ship.specs.Parts.{due_in}
use Rattle.ken_ship.proofs.Handed.{one_counted, received_more}
use Rattle.ken_ship.proofs.backlog.Backlog.move_known.Goals as goal

pub loop-moved-preserved : goal.loop-moved-preserved
loop-moved-preserved c =
    let inv = c.loop-moved.invariant in
    let v : ℕ = c.args.self.now.node in
    let box : Waiting = c.loop-moved.self.outbox in
    let before : List Sealed = c.loop-moved.self.turns.items in
    let t : Sealed = c.pop_known-turn.result in
    let old : List Sealed = popped c.args.ring.now in
    let new : List Sealed = popped c.pop_known-turn.new.self in
    let due : Waiting = due_in c.args.self.now in
    let items : c.push_back_reserved.new.self.items ≡ before ++ t ∷ [] = c.push_back_reserved.ensures.items in
    let back : v ≡ c.loop-moved.self.node = sym inv.node in
    let so_far : Received v old (popped c.loop-moved.ring) due (with_turns v before box) = subst (λ (u : ℕ). Received v old (popped c.loop-moved.ring) due (with_turns u before box)) inv.node inv.received in
    let more : Received v old new due (with_turns v (before ++ t ∷ []) box) = received_more v old (popped c.loop-moved.ring) new before due box t so_far c.pop_known-turn.ensures.popped in
    let here : Received v old new due (with_turns c.loop-moved.self.node c.push_back_reserved.new.self.items box) =
    subst (λ (u : ℕ). Received v old new due (with_turns u c.push_back_reserved.new.self.items box)) back
    (subst (λ (ts : List Sealed). Received v old new due (with_turns v ts box)) (sym items) more) in
    let one : length (known c.loop-moved.ring) ≡ length (known c.pop_known-turn.new.self) + 1 = omega (arith, ap (λ (ts : List Sealed). length ts) c.pop_known-turn.ensures.known) in
    record {
      node = inv.node;
      ring = search (rules, inv.ring, c.pop_known-turn.ensures.ring);
      count = c.pop_known-turn.ensures.nones ∙ inv.count;
      received = here;
      number = one_counted old (popped c.loop-moved.ring) new inv.received.turns c.args.self.now.handed t inv.received.popped_are c.pop_known-turn.ensures.popped;
      all = ap (λ (ts : List Sealed). ts ++ known c.pop_known-turn.new.self) c.pop_known-turn.ensures.popped ∙ append_assoc (popped c.loop-moved.ring) (t ∷ []) (known c.pop_known-turn.new.self)
          ∙ ap (λ (ts : List Sealed). popped c.loop-moved.ring ++ ts) (sym c.pop_known-turn.ensures.known) ∙ inv.all;
      left = omega (arith, inv.left, one);
      room = omega (arith, inv.room, one);
    }
