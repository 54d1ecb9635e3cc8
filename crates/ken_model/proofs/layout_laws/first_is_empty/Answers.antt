use Rattle.ken_model.proofs.First.{first_is_empty}
use Rattle.ken_model.proofs.layout_laws.first_is_empty.Goals as goal

pub returns : goal.returns
returns c = first_is_empty
