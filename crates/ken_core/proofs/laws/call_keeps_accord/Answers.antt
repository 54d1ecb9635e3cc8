use Rattle.ken_core.proofs.Calls.{call_keeps_accord}
use Rattle.ken_core.proofs.laws.call_keeps_accord.Goals as goal

pub returns : goal.returns
returns c = call_keeps_accord
