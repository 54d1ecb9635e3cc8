use Rattle.std.proofs.Common.{◌≡◌, true, false, Some, IfSome, option_map, sym, ap, subst, ◌∙◌, arith}
use Rattle.std.specs.List.{AllByRecursion}
use Rattle.std.proofs.lemmas.List.Elements.{recursion_from_All}
use Rattle.ken_model.specs.declared.kinds.Kind.{Kind}
use Rattle.ken_model.specs.declared.messages.Message.{Message}
use Rattle.ken_model.specs.declared.values.Value.{Value}
use Rattle.ken_model.specs.Heap.{IsHeap}
use Rattle.ken_model.specs.Kinds.{after}
use Rattle.ken_model.specs.Reactions.{effect_in}
use Rattle.ken_model.specs.Spelling.{IsWord}
use Rattle.ken_model.proofs.Heaps.{heap_after}
use Rattle.ken_num.specs.Numbers.{num}
use Rattle.ken_actors.specs.Decided.{takes}
use Rattle.ken_actors.proofs.Deciding.{kind_plays, kind_refuses, page_heap}
use Rattle.ken_actors.proofs.Sending.{SendsFew, of_kind}
use Rattle.ken_actors.proofs.kinds.KindPlayerPlayer.play.Goals as goal

pub invariant_of-heap : goal.invariant_of-heap
invariant_of-heap c = subst IsHeap (sym (c.replace-before.ensures.after ∙ c.no_blocks.ensures)) page_heap

pub invariant_of-heap-2 : goal.invariant_of-heap-2
invariant_of-heap-2 c =
    let kind : Kind = c.args.self.now.0 in
    let v : Value = c.replace-before.result in
    let m : Message = c.args.message.now in
    let heap : IsHeap v = subst IsHeap (sym c.replace-before.ensures.value) c.heap.invariant in
    let words : AllByRecursion IsWord c.args.draws.now = recursion_from_All IsWord c.args.draws.now c.in_ok-reaction.ensures.words in
    let made : after kind c.args.node c.args.nodes v m c.args.draws.now ≡ Some (effect_in c.in-Some.reaction) = sym c.in_ok-reaction.ensures.effect ∙ ap (option_map effect_in) c.in-Some.is in
    heap_after kind c.args.node c.args.nodes v m c.args.draws.now (effect_in c.in-Some.reaction) heap words made

pub returns-clause-few : goal.returns-clause-few
returns-clause-few c =
    let kind : Kind = c.args.self.now.0 in
    let v : Value = c.replace-before.result in
    let m : Message = c.args.message.now in
    let made : after kind c.args.node c.args.nodes v m c.args.draws.now ≡ Some (effect_in c.in-Some.reaction) = sym c.in_ok-reaction.ensures.effect ∙ ap (option_map effect_in) c.in-Some.is in
    let few : SendsFew c.args.nodes (effect_in c.in-Some.reaction) = subst (λ o. IfSome o (SendsFew c.args.nodes)) made (of_kind kind c.args.node c.args.nodes v m c.args.draws.now (omega (arith, c.requires.placed.0))) in
    omega (arith, few, c.requires.placed.1)

pub returns-then-not-takes-clause-undefined : goal.returns-then-not-takes-clause-undefined
returns-then-not-takes-clause-undefined c = λ none decided.
    let other : takes c.args.self.now.0 (num c.args.message.now.bytes) c.args.draws.now ≡ false = rw c.as_slice.ensures at (sym c.takes.ensures ∙ c.if-not-takes.true) in
    kind_refuses c.args.self.now.0 c.args.node c.args.nodes c.args.heap.now c.args.message.now c.args.draws.now other

pub unreachable-requires : goal.unreachable-requires
unreachable-requires c =
    let own : takes c.args.self.now.0 (num c.args.message.now.bytes) c.args.draws.now ≡ true = rw c.as_slice.ensures at (sym c.takes.ensures ∙ c.if-not-takes.false) in
    kind_plays c.args.self.now.0 c.args.node c.args.nodes c.replace-before.result c.args.message.now c.args.draws.now own (sym (ap (option_map effect_in) c.in_default.is) ∙ c.in_ok-reaction.ensures.effect)
