use Rattle.ken_flow.proofs.Puts.{puts_are_put}
use Rattle.ken_flow.proofs.laws.puts_are_put.Goals as goal

pub returns : goal.returns
returns c = puts_are_put
