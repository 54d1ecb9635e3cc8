use Rattle.ken_core.proofs.Calls.{events_keep_accord}
use Rattle.ken_core.proofs.laws.events_keep_accord.Goals as goal

pub returns : goal.returns
returns c = events_keep_accord
