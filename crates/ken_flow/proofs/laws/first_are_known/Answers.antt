use Rattle.ken_flow.proofs.Flows.{first_are_known}
use Rattle.ken_flow.proofs.laws.first_are_known.Goals as goal

pub returns : goal.returns
returns c = first_are_known
