-- How a run has ended.
use Rattle.std.proofs.Common.{◌∙◌, ap}
use Rattle.ken_drive.specs.Ended.{ending_of}
use Rattle.ken_drive.proofs.report.end.Goals as goal

pub returns : goal.returns
returns g c = λ game e. c.ending_of.ensures ∙ ap ending_of (c.waiting.ensures game e)
