use Rattle.std.proofs.Common.{◌≡◌, ℕ, ◌+◌, ◌<◌, ◌≤◌, List, ◌∷◌, length, map, drop, slice_index_or, slice_set, sym, ap, subst, ◌∙◌, arith, add-one}
use Rattle.std.proofs.Math.Seq.{drop-cons}
use Rattle.std.proofs.lemmas.List.{length-map}
use Rattle.std.proofs.lemmas.List.Elements.{All-from_recursion}
use Rattle.ken_model.specs.declared.facts.Facts.{Facts}
use Rattle.ken_model.specs.declared.facts.Input.{Input}
use Rattle.ken_actors.specs.declared.node.Node.{Node}
use Rattle.ken_model.specs.Network.{inputs_from}
use Rattle.ken_actors.specs.Held.{held_at}
use Rattle.ken_actors.specs.Nodes.{held_of, IsGiven}
use Rattle.ken_actors.proofs.Started.{given_first, given_more, given_to, held_given}
use Rattle.ken_actors.proofs.network.give_inputs.Goals as goal

pub loop-input-init : goal.loop-input-init
loop-input-init c = λ v known. given_first c.args.facts.now c.args.nodes.now v c.requires.fresh (omega (arith, c.requires.long))

pub loop-input-preserved : goal.loop-input-preserved
loop-input-preserved c = λ v within.
    let f : Facts = c.args.facts.now in
    let ns : List Node = c.loop-input.nodes in
    let k : ℕ = c.loop-input.input-index in
    let i : Input = c.input-item.result in
    let more : k < length f.inputs = omega (arith, c.loop-input-test.true, ap length c.as_slice-input-items.ensures) in
    let is : i ≡ slice_index_or f.inputs k i = c.input-item.is ∙ ap (λ l. slice_index_or l k i) c.as_slice-input-items.ensures in
    let rest : drop k f.inputs ≡ i ∷ drop (k + 1) f.inputs = rw add-one (drop-cons f.inputs k i more) ∙ ap (λ x. x ∷ drop (k + 1) f.inputs) (sym is) in
    let at : c.from.result ≡ i.node = c.from.ensures in
    let known : i.node < length ns = omega (arith, c.loop-input.auto.nodes, c.requires.long, subst (λ (x : Input). x.node < f.nodes) (sym is) (All-from_recursion (λ (x : Input). (x.node < f.nodes) × (length x.text ≤ 512)) f.inputs c.requires.limits.inputs k i more).0) in
    let n : Node = slice_index_or ns c.from.result c.index-nodes-from.result in
    let given = held_given ns i.node n c.give.new.self i known (subst (λ j. n ≡ slice_index_or ns j n) at (ap (slice_index_or ns c.from.result) c.index-nodes-from.is)) c.in_ok-give.ensures.rest c.in_ok-give.ensures.inputs in
    let whole : map held_of (slice_set ns c.from.result c.give.new.self) ≡ slice_set (map held_of ns) i.node (given_to (held_at (map held_of ns) i.node) i) = ap (λ j. map held_of (slice_set ns j c.give.new.self)) at ∙ given in
    subst (λ hs. IsGiven f.nodes (held_at hs v) (inputs_from v (length (held_at hs v).inputs) (drop (k + 1) f.inputs)) (inputs_from v 0 f.inputs)) (sym whole)
    (given_more f (map held_of ns) i (drop (k + 1) f.inputs) v (λ w. inputs_from w 0 f.inputs) (omega (arith, length-map ns held_of)) (rw rest at (c.loop-input.invariant v within)))
