use Rattle.ken_actors.proofs.Deciding.{kind_decided}
use Rattle.ken_actors.proofs.laws.kinds_are_decided.Goals as goal

pub returns : goal.returns
returns c = kind_decided
