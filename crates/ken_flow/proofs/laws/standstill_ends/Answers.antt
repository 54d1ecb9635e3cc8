use Rattle.ken_flow.proofs.Stamps.{standstill_ends}
use Rattle.ken_flow.proofs.laws.standstill_ends.Goals as goal

pub returns : goal.returns
returns c = standstill_ends
