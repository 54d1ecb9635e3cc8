use Rattle.ken_check.proofs.Once.{judged_once}
use Rattle.ken_check.proofs.laws.reports_are_judged_once.Goals as goal

pub returns : goal.returns
returns c = judged_once
