use Rattle.ken_core.proofs.Doubt.{turnover_in_doubt}
use Rattle.ken_core.proofs.laws.turnover_in_doubt.Goals as goal

pub returns : goal.returns
returns c = turnover_in_doubt
