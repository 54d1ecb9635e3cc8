use Rattle.std.proofs.Common.{◌≡◌, ◌-◌, ◌≤◌}
use Rattle.ken_run.specs.Accounts.{StaysHeld}
use Rattle.ken_run.specs.Left.{tries_at}
use Rattle.ken_run.specs.Patched.{Changes}
use Rattle.ken_run.specs.Refusals.{StaysRefused}
use Rattle.ken_run.proofs.Patched.{MayHaveTried}
use Rattle.ken_run.specs.Running.{StaysDown}
use Rattle.ken_run.proofs.run.Run.restart.Given as goal
use Rattle.ken_run.specs.Flowing.{work_left}

abbrev pub invariant-tries : goal.invariant-tries
invariant-tries g l = record {
  down : StaysDown (λ w. g.D.Disk.told w.disk) (λ w. g.D.Disk.size w.disk) g.U.Outlet.took g.A.App.handler l.node l.fn.self l.self;
  less : work_left l.self ≤ work_left l.fn.self;
  most_is : l.most ≡ l.self.restarts;
  accounts : StaysHeld (λ w. g.D.Disk.told w.disk) (λ w. g.D.Disk.size w.disk) g.U.Outlet.took g.A.App.handler (λ w. g.D.Disk.faults w.disk) (λ w. g.D.Disk.fate w.disk) g.O.Oracle.telling l.node l.fn.self l.self;
  refused : StaysRefused g.U.Outlet.faults g.U.Outlet.fate l.node l.fn.self l.self;
  tried : Changes MayHaveTried l.node l.fn.self l.self;
  most_was : l.self.restarts ≡ l.fn.self.restarts;
}

abbrev pub decreases-tries : goal.decreases-tries
decreases-tries g l = l.most - tries_at l.self.stations.items l.node
