-- Laws of the judgement.
use Rattle.std.specs.Prelude.{◌≡◌, ℕ, List}
use Rattle.ken_model.specs.declared.messages.Step.{Step}
use Rattle.ken_model.specs.declared.reports.Emission.{Emission}
use Rattle.ken_model.specs.declared.reports.Ending.{Ending}
use Rattle.ken_model.specs.declared.reports.RestartLine.{RestartLine}
use Rattle.ken_model.specs.Emissions.{AreByNode, AreLegalEmissions}
use Rattle.ken_model.specs.Ending.{Ends}
use Rattle.ken_model.specs.Game.{Game}
use Rattle.ken_model.specs.Report.{lines_of, report}
use Rattle.ken_model.specs.Schedule.{IsLegal, play}
use Rattle.ken_model.specs.Spelling.{IsPrintable}
use Rattle.ken_check.specs.declared.verdict.Verdict.{Verdict}
use Rattle.ken_check.specs.declared.verdict.Verdict.TheVariants.{Right}
use Rattle.ken_check.specs.Judged.{IsJudged}
use Rattle.ken_check.specs.Right.{AreRestartsSoFar}

-- a report is judged in one way
abbrev pub JudgedOnce : Type 0
JudgedOnce = (g : Game) (most : ℕ) (bytes : List ℕ) (a b : Verdict) → IsJudged g most bytes a → IsJudged g most bytes b → a ≡ b

-- the report of a run in which nothing failed is right: of a legal schedule, with legal emissions and restarts of its nodes, and its ending
abbrev pub ReportsAreRight : Type 0
ReportsAreRight =
    (g : Game) (most : ℕ) (schedule : List Step) (emissions : List Emission) (restarts : List RestartLine) (ending : Ending)
    → IsLegal g schedule → AreLegalEmissions g (play g schedule) emissions → AreByNode 0 emissions → AreRestartsSoFar g most schedule restarts → Ends g (play g schedule) emissions ending
    → IsPrintable (lines_of g schedule emissions restarts ending) → IsJudged g most (report g schedule emissions restarts ending) Right

-- and a report that is right is one of such a run
pub record IsReportOf (g : Game) (most : ℕ) (bytes : List ℕ) : Type 0 where
  pub schedule : List Step
  pub emissions : List Emission
  pub restarts : List RestartLine
  pub ending : Ending
  pub text : bytes ≡ report g schedule emissions restarts ending
  pub legal : IsLegal g schedule
  pub each : AreLegalEmissions g (play g schedule) emissions
  pub by_node : AreByNode 0 emissions
  pub often : AreRestartsSoFar g most schedule restarts
  pub ends : Ends g (play g schedule) emissions ending

abbrev pub RightReportsAreOfRuns : Type 0
RightReportsAreOfRuns = (g : Game) (most : ℕ) (bytes : List ℕ) → IsJudged g most bytes Right → IsReportOf g most bytes
