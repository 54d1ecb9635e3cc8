use Rattle.std.proofs.Common.{◌≡◌, ◌∷◌, ◌++◌, [], ℕ, List, ◌+◌, ◌∙◌, subst, sym, arith, rules}
use Rattle.ken_links.specs.Rings.{popped}
use Rattle.ken_outbox.specs.Waiting.{Waiting}
use Rattle.ken_ship.specs.declared.items.Sealed.{Sealed}
use Rattle.ken_ship.specs.Handing.{with_turns}
use Rattle.ken_ship.specs.Parts.{due_in}
use Rattle.ken_ship.proofs.Handed.{HandedSoFar, one_counted, one_more}
use Rattle.ken_ship.proofs.backlog.Backlog.pop_from.Goals as goal

pub loop-given-preserved : goal.loop-given-preserved
loop-given-preserved c =
    let inv = c.loop-given.invariant in
    let v : ℕ = c.args.self.now.node in
    let box : Waiting = c.loop-given.self.outbox in
    let before : List Sealed = c.loop-given.self.turns.items in
    let t : Sealed = c.in-Some.turn in
    let items : c.push_back_reserved.new.self.items ≡ before ++ t ∷ [] = c.push_back_reserved.ensures.items in
    let back : v ≡ c.loop-given.self.node = sym inv.node in
    let so_far : HandedSoFar v c.loop-given._given (popped c.args.ring.now) (popped c.loop-given.ring) (due_in c.args.self.now) (with_turns v before box) =
    subst (λ (u : ℕ). HandedSoFar v c.loop-given._given (popped c.args.ring.now) (popped c.loop-given.ring) (due_in c.args.self.now) (with_turns u before box)) inv.node inv.handed in
    let more = one_more v c.loop-given._given (popped c.args.ring.now) (popped c.loop-given.ring) (popped c.pop.new.self) before (due_in c.args.self.now) box t so_far c.in-Some.ensures.popped in
    let here : HandedSoFar v (c.loop-given._given + 1) (popped c.args.ring.now) (popped c.pop.new.self) (due_in c.args.self.now) (with_turns c.loop-given.self.node c.push_back_reserved.new.self.items box) =
    subst (λ (u : ℕ). HandedSoFar v (c.loop-given._given + 1) (popped c.args.ring.now) (popped c.pop.new.self) (due_in c.args.self.now) (with_turns u c.push_back_reserved.new.self.items box)) back
    (subst (λ (ts : List Sealed). HandedSoFar v (c.loop-given._given + 1) (popped c.args.ring.now) (popped c.pop.new.self) (due_in c.args.self.now) (with_turns v ts box)) (sym items) more) in
    record { node = inv.node; ring = search (rules, inv.ring, c.in-Some.ensures.ring); count = c.in-Some.ensures.counted ∙ inv.count; handed = here; number = one_counted (popped c.args.ring.now) (popped c.loop-given.ring) (popped c.pop.new.self) inv.handed.turns c.args.self.now.handed t inv.handed.popped_are c.in-Some.ensures.popped; room = omega (arith, inv.room) }
