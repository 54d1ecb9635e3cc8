use Rattle.ken_run.specs.Accounts.{StayAccounted}
use Rattle.ken_run.specs.Refusals.{StayRefused}
use Rattle.ken_run.specs.Running.{StaysRunning}
use Rattle.ken_run.proofs.Patched.{VisitedBelow}
use Rattle.ken_run.proofs.run.Run.pass.Given as goal
use Rattle.ken_flow.specs.Standstill.{VisitedTo}
use Rattle.ken_run.specs.Flowing.{AllMoved}

abbrev pub invariant-loop-node : goal.invariant-loop-node
invariant-loop-node g l = record {
  up : StaysRunning (λ w. g.D.Disk.told w.disk) (λ w. g.D.Disk.size w.disk) g.U.Outlet.took g.A.App.handler l.fn.self l.self;
  moved : AllMoved (λ w. g.D.Disk.told w.disk) (λ w. g.D.Disk.size w.disk) g.U.Outlet.took g.A.App.handler (λ game. VisitedTo game 0 l.node) l.fn.self l.self;
  accounts : StayAccounted (λ w. g.D.Disk.told w.disk) (λ w. g.D.Disk.size w.disk) g.U.Outlet.took g.A.App.handler (λ w. g.D.Disk.faults w.disk) (λ w. g.D.Disk.fate w.disk) g.O.Oracle.telling l.fn.self l.self;
  visited : VisitedBelow (λ w. g.D.Disk.told w.disk) l.node l.fn.self l.self;
  refused : StayRefused g.U.Outlet.faults g.U.Outlet.fate l.fn.self l.self;
}
