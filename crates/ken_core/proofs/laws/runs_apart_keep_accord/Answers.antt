use Rattle.ken_core.proofs.Apart.{runs_apart_keep_accord}
use Rattle.ken_core.proofs.laws.runs_apart_keep_accord.Goals as goal

pub returns : goal.returns
returns c = runs_apart_keep_accord
