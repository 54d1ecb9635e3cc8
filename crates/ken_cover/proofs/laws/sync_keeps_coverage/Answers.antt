use Rattle.ken_cover.proofs.Keeps.{sync_keeps_coverage}
use Rattle.ken_cover.proofs.laws.sync_keeps_coverage.Goals as goal

pub returns : goal.returns
returns c = sync_keeps_coverage
