use Rattle.ken_flow.proofs.Groups.{first_is_in_accord}
use Rattle.ken_flow.proofs.laws.first_is_in_accord.Goals as goal

pub returns : goal.returns
returns c = first_is_in_accord c.start_is_in_accord.ensures
