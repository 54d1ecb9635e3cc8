use Rattle.ken_cover.proofs.Keeps.{recovery_keeps_coverage}
use Rattle.ken_cover.proofs.laws.recovery_keeps_coverage.Goals as goal

pub returns : goal.returns
returns c = recovery_keeps_coverage
