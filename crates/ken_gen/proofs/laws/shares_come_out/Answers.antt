use Rattle.ken_gen.proofs.Shared.{shares_come_out}
use Rattle.ken_gen.proofs.laws.shares_come_out.Goals as goal

pub returns : goal.returns
returns c = shares_come_out
