use Rattle.ken_beside.proofs.Meetings.{steps_and_meeting, failure_and_meeting}
use Rattle.ken_beside.proofs.laws.steps_and_a_meeting.Goals as goal

pub returns-clause-up : goal.returns-clause-up
returns-clause-up g c =
    let n = g.met.N.Net in
    steps_and_meeting g.D.Disk g.N.Net g.O.Oracle g.U.Outlet n.put_still n.put_joins n.given_still n.given_joins

pub returns-clause-down : goal.returns-clause-down
returns-clause-down g c =
    let n = g.met.N.Net in
    failure_and_meeting g.D.Disk g.N.Net g.O.Oracle g.U.Outlet n.put_still n.put_joins n.given_still n.given_joins
