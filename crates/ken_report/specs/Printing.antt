-- Why a report wasn't printed whole.
use Rattle.std.specs.Prelude.{◌≡◌, ℕ, ◌≤◌, Result, OnOk, IsErrOf}
use Rattle.ken_io.specs.Causes.{Rose}
use Rattle.ken_report.specs.declared.faults.ReportFault.{ReportFault}
use Rattle.ken_report.specs.declared.faults.ReportFault.TheVariants.{Failed, Memory}

-- printing says that it failed only where the sink's count rose, and passes no fault over
pub record HasReportCause (before now : ℕ) (result : Result (Unit {0}) ReportFault) : Type 0 where
  pub later : before ≤ now
  pub failed : IsErrOf result Failed → Rose before now
  pub memory : IsErrOf result Memory → now ≡ before
  pub passed : OnOk result (now ≡ before)
