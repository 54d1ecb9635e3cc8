use Rattle.std.proofs.Common.{◌≡◌, ◌<◌, ◌+◌, ◌^◌, max, List, length, map, slice_set, sym, ap, subst, ◌∙◌, arith, refl, rules, Ok, Some, ℕ}
use Rattle.std.specs.List.{All, AllByRecursion}
use Rattle.std.proofs.Math.Seq.{map-set_same}
use Rattle.std.proofs.lemmas.List.Elements.{All-from_recursion}
use Rattle.ken_model.specs.declared.messages.Done.{Done}
use Rattle.ken_model.specs.declared.messages.Message.{Message}
use Rattle.ken_model.specs.declared.messages.Send.{Send}
use Rattle.ken_model.specs.declared.messages.Step.{Step}
use Rattle.ken_model.specs.declared.facts.Facts.{Facts}
use Rattle.ken_model.specs.declared.values.Value.{Value}
use Rattle.ken_model.specs.Spelling.{IsWord}
use Rattle.ken_actors.specs.declared.node.Node.{Node}
use Rattle.ken_actors.specs.Held.{Held, AreHeld, playing_of, sent_to}
use Rattle.ken_actors.specs.Nodes.{held_of, held_run}
use Rattle.ken_actors.specs.Next.{IsNext}
use Rattle.ken_model.specs.Effects.{Effect}
use Rattle.ken_actors.specs.Actors.{IsStep}
use Rattle.ken_actors.proofs.Moved.{known_posted, length_posted}
use Rattle.ken_actors.proofs.Stepped.{heaps_kept, is_step, node_at, run_stepped}
use Rattle.ken_actors.proofs.actors.Actors.step.Goals as goal

pub returns-in_default-clause-unchanged : goal.returns-in_default-clause-unchanged
returns-in_default-clause-unchanged g c = λ fault is other.
    let same = map-set_same g.P.Player.value c.self.inside.heaps.items c.from-2.result c.play.new.heap c.index_mut-heap.result.now
    (c.play.ensures.unchanged (c.in_ok-played.was ∙ ap Ok c.in_default.is) ∙ ap g.P.Player.value c.index_mut-heap.ensures.value) in
    ap (λ (vs : List Value). record { player = c.self.inside.player.now; facts = c.self.inside.facts.now; values = vs; nodes = map held_of c.self.inside.nodes.items }) same ∙ c.self.view_is

pub make-requires-clause-known : goal.make-requires-clause-known
make-requires-clause-known g c =
    let f : Facts = c.self.inside.facts.now in
    let ns : List Node = c.self.inside.nodes.items in
    let s : Step = c.args.step.now in
    let next : IsNext f (map held_of ns) s c.in_ok-message.message.now = subst (λ (l : List Node). IsNext f (map held_of l) s c.in_ok-message.message.now) c.deref.ensures.value c.in_ok-message.ensures.next in
    let there = node_at f ns s c.from-3.result c.index_mut-node.result.now c.self.invariant.nodes next.known c.from-3.ensures c.index_mut-node.ensures.value in
    let known : AllByRecursion (λ (x : Send). x.to < f.nodes) c.in-Some.played.sends = rw c.in-Some.is at c.in_ok-played.ensures.known in
    subst (λ k. All (λ (x : Send). x.to < k) c.in-Some.played.sends) (sym there.sent) (All-from_recursion (λ (x : Send). x.to < f.nodes) c.in-Some.played.sends known)

pub make-requires-clause-sender : goal.make-requires-clause-sender
make-requires-clause-sender g c = λ node.
    let f : Facts = c.self.inside.facts.now in
    let ns : List Node = c.self.inside.nodes.items in
    let s : Step = c.args.step.now in
    let next : IsNext f (map held_of ns) s c.in_ok-message.message.now = subst (λ (l : List Node). IsNext f (map held_of l) s c.in_ok-message.message.now) c.deref.ensures.value c.in_ok-message.ensures.next in
    let there = node_at f ns s c.from-3.result c.index_mut-node.result.now c.self.invariant.nodes next.known c.from-3.ensures c.index_mut-node.ensures.value in
    let sender = next.sender node in
    omega (arith, sender, there.taken)

pub invariant_of-self-in_err-made : goal.invariant_of-self-in_err-made
invariant_of-self-in_err-made g c =
    let f : Facts = c.self.inside.facts.now in
    let ns : List Node = c.self.inside.nodes.items in
    let same : map held_of (slice_set ns c.from-3.result c.make.new.self) ≡ map held_of ns =
    map-set_same held_of ns c.from-3.result c.make.new.self c.index_mut-node.result.now (c.in_err-made.ensures.err ∙ ap held_of c.index_mut-node.ensures.value) in
    record {
      limits = c.self.invariant.limits;
      heaps = heaps_kept g.P.Player.value c.self.inside.heaps.items c.from-2.result c.play.new.heap f.nodes c.self.invariant.heaps;
      nodes = subst (AreHeld f) (sym same) c.self.invariant.nodes;
    }

pub invariant_of-self-2 : goal.invariant_of-self-2
invariant_of-self-2 g c =
    let f : Facts = c.self.inside.facts.now in
    let ns : List Node = c.self.inside.nodes.items in
    let s : Step = c.args.step.now in
    let m : Message = c.in_ok-message.message.now in
    let n : Node = c.index_mut-node.result.now in
    let first : Node = c.index.result.now in
    let next : IsNext f (map held_of ns) s m = subst (λ (l : List Node). IsNext f (map held_of l) s m) c.deref.ensures.value c.in_ok-message.ensures.next in
    let words : AllByRecursion IsWord s.draws = subst (AllByRecursion IsWord) c.as_slice-draws.ensures c.are_words.ensures in
    let there = node_at f ns s c.from-3.result n c.self.invariant.nodes next.known c.from-3.ensures c.index_mut-node.ensures.value in
    let seen = node_at f ns s c.from.result first c.self.invariant.nodes next.known c.from.ensures (search rules) in
    let stamped : c.max-stamp.result + 1 ≡ max n.stamp m.stamp + 1 = ap (λ k. k + 1) (c.max-stamp.ensures ∙ ap (λ (h : Held). max h.stamp m.stamp) (sym seen.is ∙ there.is)) in
    let effect : Effect = record { value = g.P.Player.value c.play.new.heap; sends = c.in-Some.played.sends; outs = c.in-Some.played.outs } in
    let Plays : List ℕ → Type 0 = λ draws. (g.P.Player.handler c.self.inside.player.now).after s.node f.nodes (g.P.Player.value c.index_mut-heap.result.now) m draws ≡ Some effect in
    let drawn : Plays c.as_slice-draws.result.now = rw c.in-Some.is at c.in_ok-played.ensures.played in
    let played : Plays s.draws = subst Plays c.as_slice-draws.ensures drawn in
    run_stepped g.P.Player.value c.self.inside.player.now g.P.Player.handler f c.self.inside.heaps.items ns s m c.self.invariant next words
    c.from-2.result c.from-3.result c.index_mut-heap.result.now c.play.new.heap n c.make.new.self c.from-2.ensures c.from-3.ensures c.index_mut-heap.ensures.value c.index_mut-node.ensures.value
    (c.max-stamp.result + 1) c.in-Some.played.sends c.in-Some.played.outs c.in_ok-made.made stamped played c.in_ok-made.ensures.made

pub returns-clause-done : goal.returns-clause-done
returns-clause-done g c =
    let f : Facts = c.self.inside.facts.now in
    let ns : List Node = c.self.inside.nodes.items in
    let s : Step = c.args.step.now in
    let m : Message = c.in_ok-message.message.now in
    let n : Node = c.index_mut-node.result.now in
    let first : Node = c.index.result.now in
    let next : IsNext f (map held_of ns) s m = subst (λ (l : List Node). IsNext f (map held_of l) s m) c.deref.ensures.value c.in_ok-message.ensures.next in
    let words : AllByRecursion IsWord s.draws = subst (AllByRecursion IsWord) c.as_slice-draws.ensures c.are_words.ensures in
    let there = node_at f ns s c.from-3.result n c.self.invariant.nodes next.known c.from-3.ensures c.index_mut-node.ensures.value in
    let seen = node_at f ns s c.from.result first c.self.invariant.nodes next.known c.from.ensures (search rules) in
    let stamped : c.max-stamp.result + 1 ≡ max n.stamp m.stamp + 1 = ap (λ k. k + 1) (c.max-stamp.ensures ∙ ap (λ (h : Held). max h.stamp m.stamp) (sym seen.is ∙ there.is)) in
    let effect : Effect = record { value = g.P.Player.value c.play.new.heap; sends = c.in-Some.played.sends; outs = c.in-Some.played.outs } in
    let Plays : List ℕ → Type 0 = λ draws. (g.P.Player.handler c.self.inside.player.now).after s.node f.nodes (g.P.Player.value c.index_mut-heap.result.now) m draws ≡ Some effect in
    let drawn : Plays c.as_slice-draws.result.now = rw c.in-Some.is at c.in_ok-played.ensures.played in
    let played : Plays s.draws = subst Plays c.as_slice-draws.ensures drawn in
    let done : Done = record { stamp = c.max-stamp.result + 1; number = m.number; sends = c.new.result; outs = c.new-2.result } in
    let is = is_step g.P.Player.value c.self.inside.player.now g.P.Player.handler f c.self.inside.heaps.items ns s m c.self.invariant next words
    c.from-2.result c.from-3.result c.index_mut-heap.result.now c.play.new.heap n c.make.new.self c.from-2.ensures c.from-3.ensures c.index_mut-heap.ensures.value c.index_mut-node.ensures.value
    (c.max-stamp.result + 1) c.in-Some.played.sends c.in-Some.played.outs c.in_ok-made.made stamped played c.in_ok-made.ensures.made
    done refl refl c.new.ensures c.new-2.ensures in
    subst (λ r. IsStep (playing_of g.P.Player.handler r) (playing_of g.P.Player.handler (held_run c.self.inside.player.now f (map g.P.Player.value (slice_set c.self.inside.heaps.items c.from-2.result c.play.new.heap)) (slice_set ns c.from-3.result c.make.new.self))) s done)
    c.self.view_is is

pub returns-clause-known : goal.returns-clause-known
returns-clause-known g c =
    let nodes : ℕ = c.self.inside.facts.now.nodes in
    let known : AllByRecursion (λ (x : Send). x.to < nodes) c.in-Some.played.sends = rw c.in-Some.is at c.in_ok-played.ensures.known in
    let posted = known_posted nodes c.args.step.now.node (c.max-stamp.result + 1) _ c.in-Some.played.sends known in
    let of : List Message → ℕ → Type 0 = λ ms n. AllByRecursion (λ (x : Message). x.to < n) ms in
    let here : of c.new.result nodes = subst (λ (ms : List Message). of ms nodes) (sym (c.new.ensures ∙ c.in_ok-made.ensures.made.done_sends)) posted in
    subst (of c.new.result) (ap (λ r. r.facts.nodes) c.self.view_is) here

pub returns-clause-few : goal.returns-clause-few
returns-clause-few g c =
    let few : length c.in-Some.played.sends < 2 ^ 32 = rw c.in-Some.is at c.in_ok-played.ensures.few in
    omega (arith, few, ap length (c.new.ensures ∙ c.in_ok-made.ensures.made.done_sends), length_posted c.args.step.now.node (c.max-stamp.result + 1) (λ (w : ℕ). length (sent_to (held_of c.index_mut-node.result.now) w)) c.in-Some.played.sends)
