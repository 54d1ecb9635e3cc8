use Rattle.ken_cover.proofs.Keeps.{seal_keeps_coverage}
use Rattle.ken_cover.proofs.laws.seal_keeps_coverage.Goals as goal

pub returns : goal.returns
returns c = seal_keeps_coverage
