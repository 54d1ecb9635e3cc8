use Rattle.ken_beside.proofs.Over.{run_is_over}
use Rattle.ken_beside.proofs.laws.a_run_is_over_more.Goals as goal

pub returns : goal.returns
returns g c = run_is_over g.T.Taking.takes
