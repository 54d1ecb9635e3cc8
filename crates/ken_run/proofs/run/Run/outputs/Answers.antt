-- One call after another, as long as there is one to make.
use Rattle.ken_run.proofs.AccountsRestarts.{accounts-handed-on}
use Rattle.ken_run.proofs.Leaving.{handed-on, still-works, stays-first}
use Rattle.ken_run.proofs.Refusals.{refused-handed-on}
use Rattle.ken_run.proofs.run.Run.outputs.Goals as goal
use Rattle.std.proofs.Common.{inl, inr, refl}
use Rattle.ken_flow.specs.Standstill.{Emits}
use Rattle.ken_run.proofs.Moves.{moves-none, moves-then}
use Rattle.ken_run.specs.Patched.{IsNotRestarted, KeepsImage}
use Rattle.ken_run.proofs.Patched.{call-broken, changes-none, err-still, not-restarted, ok-still, still-then, keeps-image, keeps-image-then, went-then}
use Rattle.ken_run.proofs.Visits.{MayEmit, less-then, may-emit-then}

pub emit-requires : goal.emit-requires
emit-requires g c = still-works (λ w. g.D.Disk.told w.disk) (λ w. g.D.Disk.size w.disk) g.U.Outlet.took g.A.App.handler c.args.node c.args.self.now c.outputs.self c.outputs.invariant.up c.requires

pub outputs-init : goal.outputs-init
outputs-init g c = record {
  up = stays-first (λ w. g.D.Disk.told w.disk) (λ w. g.D.Disk.size w.disk) g.U.Outlet.took g.A.App.handler c.args.node c.args.self.now;
  moved = moves-none (λ w. g.D.Disk.told w.disk) (λ w. g.D.Disk.size w.disk) g.U.Outlet.took g.A.App.handler (λ game. MayEmit c.args.node) c.args.node c.args.self.now (λ game f. inl refl);
  accounts = λ terms game made running low accounted. accounted;
  refused = λ terms made low are. are;
  called = changes-none (λ a b. IsNotRestarted a b × KeepsImage (λ w. g.D.Disk.told w.disk) a b) c.args.node c.args.self.now (λ a. (not-restarted a, keeps-image (λ w. g.D.Disk.told w.disk) a));
}

pub returns-in_err-emit-clause-leaves : goal.returns-in_err-emit-clause-leaves
returns-in_err-emit-clause-leaves g c = λ game made running low.
    handed-on (λ w. g.D.Disk.told w.disk) (λ w. g.D.Disk.size w.disk) g.U.Outlet.took g.A.App.handler c.args.node c.from_residual.result c.in_err-emit.field-0.0 game made c.emit.new.self c.from_residual.ensures.1 (c.in_err-emit.ensures.leaves game made (c.outputs.invariant.up game made running low) low)

pub returns-in_err-emit-clause-accounts : goal.returns-in_err-emit-clause-accounts
returns-in_err-emit-clause-accounts g c = λ terms game made running low accounted.
    accounts-handed-on (λ w. g.D.Disk.told w.disk) (λ w. g.D.Disk.faults w.disk) (λ w. g.D.Disk.fate w.disk) g.O.Oracle.telling terms game made c.emit.new.self c.args.node c.from_residual.result c.in_err-emit.field-0.0 c.from_residual.ensures.1 (c.in_err-emit.ensures.accounts terms game made (c.outputs.invariant.up game made running low) low (c.outputs.invariant.accounts terms game made running low accounted))

pub returns-in_err-emit-clause-less : goal.returns-in_err-emit-clause-less
returns-in_err-emit-clause-less g c = λ was.
    less-then (λ w. g.D.Disk.told w.disk) (λ w. g.D.Disk.size w.disk) g.U.Outlet.took g.A.App.handler (λ game. MayEmit c.args.node) c.args.node c.args.self.now c.outputs.self c.emit.new.self c.from_residual.result c.in_err-emit.field-0.0 c.outputs.invariant.moved c.requires c.from_residual.ensures.1
    (λ same. c.in_err-emit.ensures.less (cc)) was

pub outputs-preserved : goal.outputs-preserved
outputs-preserved g c = record {
  up = λ game made running low. c.in_ok-emit.ensures.leaves game made (c.outputs.invariant.up game made running low) low;
  moved = moves-then (λ w. g.D.Disk.told w.disk) (λ w. g.D.Disk.size w.disk) g.U.Outlet.took g.A.App.handler (λ game. MayEmit c.args.node) (λ game. Emits c.args.node) (λ game. MayEmit c.args.node) c.args.node c.args.self.now c.outputs.self c.emit.new.self (λ game f f2 f3 a b. inr (may-emit-then c.args.node f f2 f3 a b)) c.outputs.invariant.moved c.in_ok-emit.ensures.moves;
  accounts = λ terms game made running low accounted. c.in_ok-emit.ensures.accounts terms game made (c.outputs.invariant.up game made running low) low (c.outputs.invariant.accounts terms game made running low accounted);
  refused = λ terms made low are. c.in_ok-emit.ensures.refused terms made low (c.outputs.invariant.refused terms made low are);
  called = went-then (λ w. g.D.Disk.told w.disk) (KeepsImage (λ w. g.D.Disk.told w.disk)) (KeepsImage (λ w. g.D.Disk.told w.disk)) (KeepsImage (λ w. g.D.Disk.told w.disk)) c.args.node c.args.self.now c.outputs.self c.emit.new.self (keeps-image-then (λ w. g.D.Disk.told w.disk)) c.outputs.invariant.called c.in_ok-emit.ensures.called;
}

pub returns-clause-leaves : goal.returns-clause-leaves
returns-clause-leaves g c = λ game made running low. c.in_ok-emit.ensures.leaves game made (c.outputs.invariant.up game made running low) low

pub returns-clause-accounts : goal.returns-clause-accounts
returns-clause-accounts g c = λ terms game made running low accounted. c.in_ok-emit.ensures.accounts terms game made (c.outputs.invariant.up game made running low) low (c.outputs.invariant.accounts terms game made running low accounted)

pub returns-clause-moves : goal.returns-clause-moves
returns-clause-moves g c = moves-then (λ w. g.D.Disk.told w.disk) (λ w. g.D.Disk.size w.disk) g.U.Outlet.took g.A.App.handler (λ game. MayEmit c.args.node) (λ game. Emits c.args.node) (λ game. Emits c.args.node) c.args.node c.args.self.now c.outputs.self c.emit.new.self (λ game. may-emit-then c.args.node) c.outputs.invariant.moved c.in_ok-emit.ensures.moves

pub returns-in_err-emit-clause-refused : goal.returns-in_err-emit-clause-refused
returns-in_err-emit-clause-refused g c = λ terms made low are.
    refused-handed-on g.U.Outlet.faults g.U.Outlet.fate terms made c.emit.new.self c.args.node c.from_residual.result c.in_err-emit.field-0.0 c.from_residual.ensures.1 (c.in_err-emit.ensures.refused terms made low (c.outputs.invariant.refused terms made low are))

pub returns-clause-refused : goal.returns-clause-refused
returns-clause-refused g c = λ terms made low are. c.in_ok-emit.ensures.refused terms made low (c.outputs.invariant.refused terms made low are)

pub returns-clause-called : goal.returns-clause-called
returns-clause-called g c = went-then (λ w. g.D.Disk.told w.disk) (KeepsImage (λ w. g.D.Disk.told w.disk)) (KeepsImage (λ w. g.D.Disk.told w.disk)) (KeepsImage (λ w. g.D.Disk.told w.disk)) c.args.node c.args.self.now c.outputs.self c.emit.new.self (keeps-image-then (λ w. g.D.Disk.told w.disk)) c.outputs.invariant.called c.in_ok-emit.ensures.called

pub returns-in_err-emit-clause-called : goal.returns-in_err-emit-clause-called
returns-in_err-emit-clause-called g c =
    call-broken _ c.from_residual.result (KeepsImage (λ w. g.D.Disk.told w.disk)) c.args.node c.args.self.now c.emit.new.self c.from_residual.ensures.1
    (still-then c.args.node c.args.self.now c.outputs.self c.emit.new.self (ok-still (KeepsImage (λ w. g.D.Disk.told w.disk)) c.args.node c.args.self.now c.outputs.self c.outputs.invariant.called) (err-still c.args.node c.outputs.self c.emit.new.self c.in_err-emit.ensures.called))
