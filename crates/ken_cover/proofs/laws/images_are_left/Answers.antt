use Rattle.ken_cover.proofs.Left.{images_are_left}
use Rattle.ken_cover.proofs.laws.images_are_left.Goals as goal

pub returns : goal.returns
returns c = images_are_left
