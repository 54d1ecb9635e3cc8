use Rattle.ken_cover.proofs.Keeps.{down_keeps_coverage}
use Rattle.ken_cover.proofs.laws.down_keeps_coverage.Goals as goal

pub returns : goal.returns
returns c = down_keeps_coverage
