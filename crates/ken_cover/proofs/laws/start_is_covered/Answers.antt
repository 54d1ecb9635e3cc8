use Rattle.ken_cover.proofs.Keeps.{start_is_covered}
use Rattle.ken_cover.proofs.laws.start_is_covered.Goals as goal

pub returns : goal.returns
returns c = start_is_covered
