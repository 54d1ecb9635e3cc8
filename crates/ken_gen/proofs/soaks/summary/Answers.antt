use Rattle.std.proofs.Common.{List, ◌<◌, sym, subst, ◌∙◌}
use Rattle.std.specs.List.{AllByRecursion}
use Rattle.ken_model.specs.declared.facts.Input.{Input}
use Rattle.ken_gen.proofs.Soaked.{soak_known}
use Rattle.ken_gen.proofs.soaks.summary.Goals as goal

pub follow_all-requires-clause-known : goal.follow_all-requires-clause-known
follow_all-requires-clause-known c =
    subst (λ (is : List Input). AllByRecursion (λ (i : Input). i.node < c.args.nodes) is) (sym (c.as_slice.ensures.value ∙ c.in_ok-drawn.ensures.inputs)) (soak_known c.args.nodes c.args.inputs _ c.requires.some)
