use Rattle.ken_wire.proofs.Whole.{nothing_is_lost}
use Rattle.ken_wire.proofs.laws.nothing_is_lost.Goals as goal

pub returns : goal.returns
returns c = nothing_is_lost
