use Rattle.ken_flow.proofs.Puts.{acks_go_no_further}
use Rattle.ken_flow.proofs.laws.acks_go_no_further.Goals as goal

pub returns : goal.returns
returns c = acks_go_no_further
