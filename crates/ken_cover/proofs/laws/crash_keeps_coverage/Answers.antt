use Rattle.ken_cover.proofs.Keeps.{crash_keeps_coverage}
use Rattle.ken_cover.proofs.laws.crash_keeps_coverage.Goals as goal

pub returns : goal.returns
returns c = crash_keeps_coverage
