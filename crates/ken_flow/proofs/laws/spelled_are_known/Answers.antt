use Rattle.ken_flow.proofs.Flows.{spelled_are_known}
use Rattle.ken_flow.proofs.laws.spelled_are_known.Goals as goal

pub returns : goal.returns
returns c = spelled_are_known
