use Rattle.ken_flow.proofs.Flows.{known_stays}
use Rattle.ken_flow.proofs.laws.known_stays.Goals as goal

pub returns : goal.returns
returns c = known_stays
