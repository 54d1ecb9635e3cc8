use Rattle.ken_core.proofs.Doubt.{puts_are_handed_in}
use Rattle.ken_core.proofs.laws.puts_are_handed_in.Goals as goal

pub returns : goal.returns
returns c = puts_are_handed_in
