use Rattle.ken_flow.proofs.Visits.{never_more_open}
use Rattle.ken_flow.proofs.laws.never_more_open.Goals as goal

pub returns : goal.returns
returns c = never_more_open
