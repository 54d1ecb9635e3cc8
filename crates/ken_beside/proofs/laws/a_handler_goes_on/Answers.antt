use Rattle.ken_beside.proofs.GoingOn.{handler_goes_on}
use Rattle.ken_beside.proofs.laws.a_handler_goes_on.Goals as goal

pub returns : goal.returns
returns g c = λ h. handler_goes_on g.D.Disk g.N.Net g.O.Oracle h
