use Rattle.ken_run.specs.Accounts.{AreAccounted, Terms}
use Rattle.ken_run.specs.Refusals.{AreRefused}
use Rattle.ken_run.specs.Running.{IsRunning}
use Rattle.ken_model.specs.Game.{Game}
use Rattle.std.proofs.Common.{◌≡◌, ℕ}
use Rattle.ken_run.specs.Drained.{PassesOn}
use Rattle.ken_run.specs.Draining.{StaysWhole}
use Rattle.ken_run.specs.Flowing.{work_left}
use Rattle.ken_run.specs.Open.{open_left}
use Rattle.ken_run.proofs.run.Run.until_progress.Given as goal

abbrev pub invariant-passes : goal.invariant-passes
invariant-passes g l = record {
  stays : StaysWhole (λ w. g.D.Disk.told w.disk) (λ w. g.D.Disk.size w.disk) g.U.Outlet.took g.A.App.handler l.fn.self l.self;
  same : work_left l.self ≡ work_left l.fn.self;
  on : PassesOn (λ w. g.D.Disk.told w.disk) (λ w. g.D.Disk.size w.disk) g.U.Outlet.took g.A.App.handler l.fn.self l.self;
  left_is : l.left ≡ work_left l.self;
  accounts : (terms : Terms) (game : Game) (made : ℕ) → IsRunning (λ w. g.D.Disk.told w.disk) (λ w. g.D.Disk.size w.disk) g.U.Outlet.took g.A.App.handler game made l.fn.self → made ≡ game.nodes → AreAccounted (λ w. g.D.Disk.told w.disk) (λ w. g.D.Disk.faults w.disk) (λ w. g.D.Disk.fate w.disk) g.O.Oracle.telling terms game made l.fn.self → AreAccounted (λ w. g.D.Disk.told w.disk) (λ w. g.D.Disk.faults w.disk) (λ w. g.D.Disk.fate w.disk) g.O.Oracle.telling terms game made l.self;
  refused : (terms : Terms) (game : Game) (made : ℕ) → IsRunning (λ w. g.D.Disk.told w.disk) (λ w. g.D.Disk.size w.disk) g.U.Outlet.took g.A.App.handler game made l.fn.self → made ≡ game.nodes → AreRefused g.U.Outlet.faults g.U.Outlet.fate terms made l.fn.self → AreRefused g.U.Outlet.faults g.U.Outlet.fate terms made l.self;
}

abbrev pub decreases-passes : goal.decreases-passes
decreases-passes g l = open_left l.self
