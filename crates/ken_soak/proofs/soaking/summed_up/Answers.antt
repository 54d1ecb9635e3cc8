use Rattle.std.proofs.Common.{◌≡◌, ℕ, List, ap, subst, ◌∙◌, arith}
use Rattle.std.specs.Prelude.{IfOk}
use Rattle.ken_gen.specs.Summary.{all_roots, all_turns, summary_of}
use Rattle.ken_soak.proofs.Summed.{few_turns, small_roots, sums_up}
use Rattle.ken_soak.proofs.soaking.summed_up.Goals as goal

pub summary_of-requires-clause-few_turns : goal.summary_of-requires-clause-few_turns
summary_of-requires-clause-few_turns c =
    let is = c.requires.1 in
    let few = few_turns c.args.seed c.requires.0 c.args.inputs is.some is.few_nodes is.few_inputs c.args.lines.now is.run c.in_ok-totals.totals.items c.in_ok-totals.ensures in
    omega (arith, few, ap all_turns c.as_slice.ensures.value)

pub summary_of-requires-clause-small_roots : goal.summary_of-requires-clause-small_roots
summary_of-requires-clause-small_roots c =
    let is = c.requires.1 in
    let small = small_roots c.args.seed c.requires.0 c.args.inputs is.some is.few_nodes is.few_inputs c.args.lines.now is.run c.in_ok-totals.totals.items c.in_ok-totals.ensures in
    omega (arith, small, ap all_roots c.as_slice.ensures.value)

-- the totals are those of the run's nodes
pub returns : goal.returns
returns c = λ nodes is.
    let sums = sums_up c.args.seed nodes c.args.inputs is.some is.few_nodes is.few_inputs c.args.lines.now is.run c.in_ok-totals.totals.items c.in_ok-totals.ensures in
    subst (λ (told : List ℕ). IfOk c.summary_of.result (λ text. text ≡ told)) (ap (summary_of c.args.seed c.args.inputs) c.as_slice.ensures.value ∙ sums) c.summary_of.ensures.text
