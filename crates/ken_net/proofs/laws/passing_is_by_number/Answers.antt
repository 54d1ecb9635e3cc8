use Rattle.ken_net.proofs.History.{by_number}
use Rattle.ken_net.proofs.laws.passing_is_by_number.Goals as goal

pub returns : goal.returns
returns c = by_number
