use Rattle.ken_flow.proofs.Puts.{put_stays_put}
use Rattle.ken_flow.proofs.laws.put_stays_put.Goals as goal

pub returns : goal.returns
returns c = put_stays_put
