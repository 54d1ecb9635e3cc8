use Rattle.ken_flow.proofs.Modest.{turns_are_modest}
use Rattle.ken_flow.proofs.laws.turns_are_modest.Goals as goal

pub returns : goal.returns
returns c = turns_are_modest
