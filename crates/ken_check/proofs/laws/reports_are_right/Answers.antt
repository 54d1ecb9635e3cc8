use Rattle.ken_check.proofs.Reports.{reports_are_right}
use Rattle.ken_check.proofs.laws.reports_are_right.Goals as goal

pub returns : goal.returns
returns c = reports_are_right
