use Rattle.ken_cover.proofs.Keeps.{images_recover}
use Rattle.ken_cover.proofs.laws.images_recover.Goals as goal

pub returns : goal.returns
returns c = images_recover
