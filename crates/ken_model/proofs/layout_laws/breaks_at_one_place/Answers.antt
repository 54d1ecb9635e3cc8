use Rattle.ken_model.proofs.OnePlace.{breaks_at_one_place}
use Rattle.ken_model.proofs.layout_laws.breaks_at_one_place.Goals as goal

pub returns : goal.returns
returns c = breaks_at_one_place
