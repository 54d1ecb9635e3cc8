use Rattle.ken_flow.proofs.Flows.{passed_are_known}
use Rattle.ken_flow.proofs.laws.passed_are_known.Goals as goal

pub returns : goal.returns
returns c = passed_are_known
