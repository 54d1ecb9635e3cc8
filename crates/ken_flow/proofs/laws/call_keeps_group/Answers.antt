use Rattle.ken_flow.proofs.Groups.{call_keeps_group}
use Rattle.ken_flow.proofs.laws.call_keeps_group.Goals as goal

pub returns : goal.returns
returns c = call_keeps_group
