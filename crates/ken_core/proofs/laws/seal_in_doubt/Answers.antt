use Rattle.ken_core.proofs.Doubt.{seal_in_doubt}
use Rattle.ken_core.proofs.laws.seal_in_doubt.Goals as goal

pub returns : goal.returns
returns c = seal_in_doubt
