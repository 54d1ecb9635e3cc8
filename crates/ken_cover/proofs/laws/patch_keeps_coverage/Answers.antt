use Rattle.ken_cover.proofs.Keeps.{patch_keeps_coverage}
use Rattle.ken_cover.proofs.laws.patch_keeps_coverage.Goals as goal

pub returns : goal.returns
returns c = patch_keeps_coverage
