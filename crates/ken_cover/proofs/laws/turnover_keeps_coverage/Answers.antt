use Rattle.ken_cover.proofs.Keeps.{turnover_keeps_coverage}
use Rattle.ken_cover.proofs.laws.turnover_keeps_coverage.Goals as goal

pub returns : goal.returns
returns c = turnover_keeps_coverage
