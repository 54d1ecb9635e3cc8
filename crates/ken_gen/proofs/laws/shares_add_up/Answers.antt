use Rattle.ken_gen.proofs.AddUp.{shares_add_up}
use Rattle.ken_gen.proofs.laws.shares_add_up.Goals as goal

pub returns : goal.returns
returns c = shares_add_up
