use Rattle.ken_cover.proofs.Left.{crash_leaves_image}
use Rattle.ken_cover.proofs.laws.crash_leaves_image.Goals as goal

pub returns : goal.returns
returns c = crash_leaves_image
