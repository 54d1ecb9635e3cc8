use Rattle.ken_model.proofs.ReadBack.{stands_for_one}
use Rattle.ken_model.proofs.layout_laws.stands_for_one.Goals as goal

pub returns : goal.returns
returns c = stands_for_one
