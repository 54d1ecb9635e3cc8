use Rattle.ken_net.proofs.Joins.{went_joins}
use Rattle.ken_net.proofs.passing.pass.Goals as goal

pub returns-in-Two : goal.returns-in-Two
returns-in-Two g c = rw c.in-Two.is (went_joins g.met.B.Base.put_joins g.met.B.Base.given_joins c.pass_one-in-Two.ensures c.pass_one-in-Two-2.ensures)
