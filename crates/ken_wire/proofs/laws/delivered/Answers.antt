use Rattle.ken_wire.proofs.Came.{delivered}
use Rattle.ken_wire.proofs.laws.delivered.Goals as goal

pub returns : goal.returns
returns c = delivered
