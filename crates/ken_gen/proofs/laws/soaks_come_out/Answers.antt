use Rattle.ken_gen.proofs.Soaked.{soaks_come_out}
use Rattle.ken_gen.proofs.laws.soaks_come_out.Goals as goal

pub returns : goal.returns
returns c = soaks_come_out
