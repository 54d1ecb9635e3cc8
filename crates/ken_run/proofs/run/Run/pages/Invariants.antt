use Rattle.ken_run.specs.Accounts.{StaysAccounted}
use Rattle.ken_run.specs.Left.{left_at, pages_left}
use Rattle.ken_run.specs.Patched.{Changes, IsNotRestarted, MaySync}
use Rattle.ken_run.specs.Refusals.{StaysRefused}
use Rattle.ken_run.specs.Running.{StaysUp}
use Rattle.ken_run.proofs.run.Run.pages.Given as goal
use Rattle.ken_flow.specs.Standstill.{Written}
use Rattle.ken_run.specs.Flowing.{Moves}

abbrev pub invariant-pages : goal.invariant-pages
invariant-pages g l = record {
  up : StaysUp (λ w. g.D.Disk.told w.disk) (λ w. g.D.Disk.size w.disk) g.U.Outlet.took g.A.App.handler l.node l.fn.self l.self;
  moved : Moves (λ w. g.D.Disk.told w.disk) (λ w. g.D.Disk.size w.disk) g.U.Outlet.took g.A.App.handler (λ game. Written l.node) l.node l.fn.self l.self;
  accounts : StaysAccounted (λ w. g.D.Disk.told w.disk) (λ w. g.D.Disk.size w.disk) g.U.Outlet.took g.A.App.handler (λ w. g.D.Disk.faults w.disk) (λ w. g.D.Disk.fate w.disk) g.O.Oracle.telling l.node l.fn.self l.self;
  called : Changes (λ a b. IsNotRestarted a b × MaySync (λ w. g.D.Disk.told w.disk) a b) l.node l.fn.self l.self;
  refused : StaysRefused g.U.Outlet.faults g.U.Outlet.fate l.node l.fn.self l.self;
}

abbrev pub decreases-pages : goal.decreases-pages
decreases-pages g l = left_at pages_left l.self.stations.items l.node
