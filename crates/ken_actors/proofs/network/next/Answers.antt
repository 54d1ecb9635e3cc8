use Rattle.std.proofs.Common.{◌≡◌, ◌<◌, ◌≤◌, List, length, map, slice_index_or, IfOk, sym, ap, subst, refl, ◌∙◌, arith}
use Rattle.std.proofs.lemmas.Bool.{ltb-true}
use Rattle.std.proofs.lemmas.List.{length-map, get_or_past}
use Rattle.ken_model.specs.declared.facts.Facts.{Facts}
use Rattle.ken_model.specs.declared.messages.Step.{Step}
use Rattle.ken_model.proofs.Elements.{All-unmap}
use Rattle.ken_actors.specs.declared.node.Node.{Node}
use Rattle.ken_actors.specs.Held.{Held, held_at, no_node, IsOfRun}
use Rattle.ken_actors.specs.Nodes.{held_of}
use Rattle.ken_actors.specs.Next.{IsNext}
use Rattle.ken_actors.proofs.Waiting.{front_past, front_next, held_node}
use Rattle.ken_actors.proofs.network.next.Goals as goal

pub returns-in_default-clause-no_message : goal.returns-in_default-clause-no_message
returns-in_default-clause-no_message c =
    let f : Facts = c.args.facts.now in
    let hs : List Held = map held_of c.args.nodes.now in
    let s : Step = c.args.step.now in
    let beyond : length c.args.nodes.now ≤ c.from.result = c.in_default.ensures.lookup.3 in
    let past : f.nodes ≤ s.node = omega (arith, c.requires.held.width, length-map c.args.nodes.now held_of, c.from.ensures) in
    let none : (held_at hs s.node).turns ≡ 0 = ap (λ (h : Held). h.turns) (get_or_past hs s.node no_node (omega (arith, c.requires.held.width, past))) in
    ((λ e. (omega (arith, none, c.requires.limits.some_turn), front_past f hs s.from s.node c.requires.held past)), (λ h. refl))

pub front-requires-clause-widths : goal.front-requires-clause-widths
front-requires-clause-widths c = λ k d within.
    let is = All-unmap (IsOfRun c.args.facts.now) held_of c.args.nodes.now c.requires.held.each k d within in
    let width : c.args.facts.now.nodes ≡ length c.args.nodes.now = sym c.requires.held.width ∙ length-map c.args.nodes.now held_of in
    (sym (length-map (slice_index_or c.args.nodes.now k d).sent.items _) ∙ is.sent ∙ width, is.taken ∙ width)

pub returns-clause-next : goal.returns-clause-next
returns-clause-next c =
    let f : Facts = c.args.facts.now in
    let ns : List Node = c.args.nodes.now in
    let hs : List Held = map held_of ns in
    let s : Step = c.args.step.now in
    let lt = ltb-true c.from.result (length ns) (sym c.in-Some.ensures.lookup.0) in
    let within : s.node < length ns = omega (arith, c.from.ensures, lt) in
    let n : Node = c.in-Some.receiver.now in
    let is : held_at hs s.node ≡ held_of n = held_node ns s.node n within (subst (λ k. n ≡ slice_index_or ns k n) c.from.ensures c.in-Some.ensures.lookup.1) in
    let few : n.turns < f.turns = c.if-receiver-facts.false in
    let more : (held_at hs s.node).turns < f.turns = omega (arith, few, ap (λ (h : Held). h.turns) is) in
    let known : s.node < f.nodes = omega (arith, within, length-map ns held_of, c.requires.held.width) in
    let nodes : length ns ≡ f.nodes = sym (length-map ns held_of) ∙ c.requires.held.width in
    subst (λ r. IfOk r (λ m. IsNext f hs s m.now)) (sym c.ok_or.ensures.value)
    (front_next f hs s (length ns) nodes more known c.requires.limits c.requires.held c.front.result c.front.ensures.front c.front.ensures.sender c.front.ensures.room)
