use Rattle.ken_core.proofs.Calls.{step_keeps_accord}
use Rattle.ken_core.proofs.laws.step_keeps_accord.Goals as goal

pub returns : goal.returns
returns c = step_keeps_accord
