use Rattle.ken_beside.proofs.GoingOn.{sender_goes_on}
use Rattle.ken_beside.proofs.laws.a_sender_goes_on.Goals as goal

pub returns : goal.returns
returns g c = sender_goes_on g.N.Net g.U.Outlet
