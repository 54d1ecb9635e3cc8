use Rattle.ken_beside.proofs.Failing.{failure_beside}
use Rattle.ken_beside.proofs.laws.a_failed_turn_comes_last.Goals as goal

pub returns : goal.returns
returns g c =
    let n = g.met.N.Net in
    failure_beside g.D.Disk g.N.Net g.O.Oracle g.U.Outlet n.put_still n.put_joins n.given_still n.given_joins
