use Rattle.std.proofs.Common.{◌≡◌, refl, sym, ◌∙◌, arith}
use Rattle.std.proofs.lemmas.List.{take_all}
use Rattle.ken_script.specs.Inputs.{input_of}
use Rattle.ken_script.proofs.Lists.{all_of-more}
use Rattle.ken_script.proofs.Items.{wrong_here, too_many, none_wrong}
use Rattle.ken_script.proofs.inputs.inputs_of.Goals as goal

pub returns-then-place-eq-MAX_INPUTS-clause-wrong :
    goal.returns-then-place-eq-MAX_INPUTS-clause-wrong
returns-then-place-eq-MAX_INPUTS-clause-wrong c =
    rw c.at.ensures (refl, too_many c.args.nodes c.args.items.now c.loop-place.place c.loop-place.inputs.items c.loop-place-test.true c.if-place-eq-MAX_INPUTS.true c.loop-place.invariant.0)

pub returns-in_default-clause-wrong : goal.returns-in_default-clause-wrong
returns-in_default-clause-wrong c =
    rw c.at-in_default.ensures (refl, wrong_here c.args.nodes c.args.items.now c.loop-place.place c.index-items-place.result c.loop-place.inputs.items c.loop-place-test.true (omega arith) c.index-items-place.is c.loop-place.invariant.0 (sym c.in_default.ensures))

pub loop-place-preserved : goal.loop-place-preserved
loop-place-preserved c =
    let text : c.new-text.result ≡ c.in-Some.text.now = c.new-text.ensures ∙ c.in_ok-from_slice.ensures.items ∙ c.as_bytes.ensures.value in
    (rw (c.in_ok-push.ensures.items, text) (all_of-more (input_of c.args.nodes) c.args.items.now c.loop-place.place c.index-items-place.result c.loop-place.inputs.items _ c.loop-place-test.true c.index-items-place.is c.loop-place.invariant.0 (sym c.in-Some.ensures)), omega arith)

pub returns-clause-right : goal.returns-clause-right
returns-clause-right c =
    none_wrong c.args.nodes c.args.items.now c.loop-place.inputs.items (omega arith) (rw (take_all c.loop-place.place c.args.items.now (omega arith)) at c.loop-place.invariant.0)
