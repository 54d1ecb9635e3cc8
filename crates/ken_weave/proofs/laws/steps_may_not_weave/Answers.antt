use Rattle.ken_weave.proofs.Crossing.{may_not}
use Rattle.ken_weave.proofs.laws.steps_may_not_weave.Goals as goal

pub returns : goal.returns
returns c = may_not
