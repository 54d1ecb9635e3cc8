-- One call after another, as long as there is one to make.
use Rattle.ken_run.proofs.AccountsRestarts.{accounts-handed-on}
use Rattle.ken_run.proofs.Leaving.{handed-on, still-works, stays-first}
use Rattle.ken_run.proofs.Refusals.{refused-handed-on}
use Rattle.ken_run.proofs.run.Run.pages.Goals as goal
use Rattle.ken_flow.specs.Standstill.{Written}
use Rattle.ken_run.proofs.Moves.{moves-none, moves-then}
use Rattle.ken_run.specs.Patched.{IsNotRestarted, MaySync, HasPatched}
use Rattle.ken_run.proofs.Patched.{call-broken, changes-none, err-still, not-restarted, ok-still, still-then, may-sync, may-sync-then, patched-too, went-then}
use Rattle.ken_run.proofs.Visits.{less-then, written-none, written-then}

pub patch-requires : goal.patch-requires
patch-requires g c = still-works (λ w. g.D.Disk.told w.disk) (λ w. g.D.Disk.size w.disk) g.U.Outlet.took g.A.App.handler c.args.node c.args.self.now c.pages.self c.pages.invariant.up c.requires

pub pages-init : goal.pages-init
pages-init g c = record {
  up = stays-first (λ w. g.D.Disk.told w.disk) (λ w. g.D.Disk.size w.disk) g.U.Outlet.took g.A.App.handler c.args.node c.args.self.now;
  moved = moves-none (λ w. g.D.Disk.told w.disk) (λ w. g.D.Disk.size w.disk) g.U.Outlet.took g.A.App.handler (λ game. Written c.args.node) c.args.node c.args.self.now (λ game. written-none c.args.node);
  accounts = λ terms game made running low accounted. accounted;
  refused = λ terms made low are. are;
  called = changes-none (λ a b. IsNotRestarted a b × MaySync (λ w. g.D.Disk.told w.disk) a b) c.args.node c.args.self.now (λ a. (not-restarted a, may-sync (λ w. g.D.Disk.told w.disk) a));
}

pub returns-in_err-patch-clause-leaves : goal.returns-in_err-patch-clause-leaves
returns-in_err-patch-clause-leaves g c = λ game made running low.
    handed-on (λ w. g.D.Disk.told w.disk) (λ w. g.D.Disk.size w.disk) g.U.Outlet.took g.A.App.handler c.args.node c.from_residual.result c.in_err-patch.field-0.0 game made c.patch.new.self c.from_residual.ensures.1 (c.in_err-patch.ensures.leaves game made (c.pages.invariant.up game made running low) low)

pub returns-in_err-patch-clause-accounts : goal.returns-in_err-patch-clause-accounts
returns-in_err-patch-clause-accounts g c = λ terms game made running low accounted.
    accounts-handed-on (λ w. g.D.Disk.told w.disk) (λ w. g.D.Disk.faults w.disk) (λ w. g.D.Disk.fate w.disk) g.O.Oracle.telling terms game made c.patch.new.self c.args.node c.from_residual.result c.in_err-patch.field-0.0 c.from_residual.ensures.1 (c.in_err-patch.ensures.accounts terms game made (c.pages.invariant.up game made running low) low (c.pages.invariant.accounts terms game made running low accounted))

pub returns-in_err-patch-clause-less : goal.returns-in_err-patch-clause-less
returns-in_err-patch-clause-less g c = λ was.
    less-then (λ w. g.D.Disk.told w.disk) (λ w. g.D.Disk.size w.disk) g.U.Outlet.took g.A.App.handler (λ game. Written c.args.node) c.args.node c.args.self.now c.pages.self c.patch.new.self c.from_residual.result c.in_err-patch.field-0.0 c.pages.invariant.moved c.requires c.from_residual.ensures.1
    (λ same. c.in_err-patch.ensures.less (cc)) was

pub pages-preserved : goal.pages-preserved
pages-preserved g c = record {
  up = λ game made running low. c.in_ok-patch.ensures.leaves game made (c.pages.invariant.up game made running low) low;
  moved = moves-then (λ w. g.D.Disk.told w.disk) (λ w. g.D.Disk.size w.disk) g.U.Outlet.took g.A.App.handler (λ game. Written c.args.node) (λ game. Written c.args.node) (λ game. Written c.args.node) c.args.node c.args.self.now c.pages.self c.patch.new.self (λ game. written-then c.args.node) c.pages.invariant.moved c.in_ok-patch.ensures.moves;
  accounts = λ terms game made running low accounted. c.in_ok-patch.ensures.accounts terms game made (c.pages.invariant.up game made running low) low (c.pages.invariant.accounts terms game made running low accounted);
  refused = λ terms made low are. c.in_ok-patch.ensures.refused terms made low (c.pages.invariant.refused terms made low are);
  called = went-then (λ w. g.D.Disk.told w.disk) (MaySync (λ w. g.D.Disk.told w.disk)) (MaySync (λ w. g.D.Disk.told w.disk)) (MaySync (λ w. g.D.Disk.told w.disk)) c.args.node c.args.self.now c.pages.self c.patch.new.self (may-sync-then (λ w. g.D.Disk.told w.disk)) c.pages.invariant.called c.in_ok-patch.ensures.called;
}

pub returns-clause-leaves : goal.returns-clause-leaves
returns-clause-leaves g c = λ game made running low. c.in_ok-patch.ensures.leaves game made (c.pages.invariant.up game made running low) low

pub returns-clause-accounts : goal.returns-clause-accounts
returns-clause-accounts g c = λ terms game made running low accounted. c.in_ok-patch.ensures.accounts terms game made (c.pages.invariant.up game made running low) low (c.pages.invariant.accounts terms game made running low accounted)

pub returns-clause-moves : goal.returns-clause-moves
returns-clause-moves g c = moves-then (λ w. g.D.Disk.told w.disk) (λ w. g.D.Disk.size w.disk) g.U.Outlet.took g.A.App.handler (λ game. Written c.args.node) (λ game. Written c.args.node) (λ game. Written c.args.node) c.args.node c.args.self.now c.pages.self c.patch.new.self (λ game. written-then c.args.node) c.pages.invariant.moved c.in_ok-patch.ensures.moves

pub returns-in_err-patch-clause-refused : goal.returns-in_err-patch-clause-refused
returns-in_err-patch-clause-refused g c = λ terms made low are.
    refused-handed-on g.U.Outlet.faults g.U.Outlet.fate terms made c.patch.new.self c.args.node c.from_residual.result c.in_err-patch.field-0.0 c.from_residual.ensures.1 (c.in_err-patch.ensures.refused terms made low (c.pages.invariant.refused terms made low are))

pub returns-clause-refused : goal.returns-clause-refused
returns-clause-refused g c = λ terms made low are. c.in_ok-patch.ensures.refused terms made low (c.pages.invariant.refused terms made low are)

pub returns-clause-called : goal.returns-clause-called
returns-clause-called g c = went-then (λ w. g.D.Disk.told w.disk) (MaySync (λ w. g.D.Disk.told w.disk)) (HasPatched (λ w. g.D.Disk.told w.disk)) (HasPatched (λ w. g.D.Disk.told w.disk)) c.args.node c.args.self.now c.pages.self c.patch.new.self (λ a b d one two. record { syncs = may-sync-then (λ w. g.D.Disk.told w.disk) a b d one two.syncs; patched = two.patched }) c.pages.invariant.called (patched-too (λ w. g.D.Disk.told w.disk) c.args.node c.pages.self c.patch.new.self c.in_ok-patch.ensures.called (c.in_ok-patch.ensures.patched (let is = c.if-branch.false in cc)))

pub returns-in_err-patch-clause-called : goal.returns-in_err-patch-clause-called
returns-in_err-patch-clause-called g c =
    call-broken _ c.from_residual.result (HasPatched (λ w. g.D.Disk.told w.disk)) c.args.node c.args.self.now c.patch.new.self c.from_residual.ensures.1
    (still-then c.args.node c.args.self.now c.pages.self c.patch.new.self (ok-still (MaySync (λ w. g.D.Disk.told w.disk)) c.args.node c.args.self.now c.pages.self c.pages.invariant.called) (err-still c.args.node c.pages.self c.patch.new.self c.in_err-patch.ensures.called))
