use Rattle.ken_beside.proofs.Together.{side_by_side}
use Rattle.ken_beside.proofs.laws.steps_side_by_side.Goals as goal

pub returns : goal.returns
returns g c =
    let n = g.met.N.Net in
    side_by_side g.D.Disk g.N.Net g.O.Oracle g.U.Outlet n.put_still n.put_joins n.given_still n.given_joins
