use Rattle.ken_beside.proofs.GoingOn.{patcher_goes_on}
use Rattle.ken_beside.proofs.laws.a_patcher_goes_on.Goals as goal

pub returns : goal.returns
returns g c = patcher_goes_on g.D.Disk
