use Rattle.std.proofs.Common.{sym, ◌∙◌, arith}
use Rattle.ken_num.proofs.Small.{num-lt}
use Rattle.ken_gen.proofs.walks.follow_input.Goals as goal

pub returns-in-Some-clause-small : goal.returns-in-Some-clause-small
returns-in-Some-clause-small c = omega (arith, c.follow.ensures.small, num-lt c.as_slice.result.now c.in-Some.number (sym c.num.ensures ∙ c.in-Some.is))
