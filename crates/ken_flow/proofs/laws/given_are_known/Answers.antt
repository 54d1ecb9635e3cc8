use Rattle.ken_flow.proofs.Flows.{given_are_known}
use Rattle.ken_flow.proofs.laws.given_are_known.Goals as goal

pub returns : goal.returns
returns c = given_are_known
