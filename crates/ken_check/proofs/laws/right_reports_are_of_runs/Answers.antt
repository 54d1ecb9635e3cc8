use Rattle.ken_check.proofs.Runs.{right_reports_are_of_runs}
use Rattle.ken_check.proofs.laws.right_reports_are_of_runs.Goals as goal

pub returns : goal.returns
returns c = right_reports_are_of_runs
