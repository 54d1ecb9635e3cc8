use Rattle.ken_core.proofs.Together.{runs_keep_accord}
use Rattle.ken_core.proofs.laws.runs_keep_accord.Goals as goal

pub returns : goal.returns
returns c = runs_keep_accord
