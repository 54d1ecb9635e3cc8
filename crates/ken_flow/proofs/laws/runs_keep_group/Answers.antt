use Rattle.ken_flow.proofs.Gathering.{runs_keep_group}
use Rattle.ken_flow.proofs.laws.runs_keep_group.Goals as goal

pub returns : goal.returns
returns c = runs_keep_group
