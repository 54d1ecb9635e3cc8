-- One call after another, as long as there is one to make.
use Rattle.ken_run.proofs.AccountsRestarts.{accounts-handed-on}
use Rattle.ken_run.proofs.Leaving.{handed-on, still-works, stays-first}
use Rattle.ken_run.proofs.Refusals.{refused-handed-on}
use Rattle.ken_run.proofs.run.Run.turns.Goals as goal
use Rattle.std.proofs.Common.{◌≡◌, ⊎_elim, refl}
use Rattle.ken_flow.specs.Standstill.{Rested}
use Rattle.ken_run.proofs.Moves.{moves-none, moves-then}
use Rattle.ken_run.specs.Patched.{IsNotRestarted, MaySync}
use Rattle.ken_run.proofs.Patched.{call-broken, changes-none, err-still, not-restarted, ok-still, still-then, may-sync, may-sync-then, went-then}
use Rattle.ken_run.proofs.Visits.{less-then, moves-worked, rested-then}

pub turn-requires : goal.turn-requires
turn-requires g c = still-works (λ w. g.D.Disk.told w.disk) (λ w. g.D.Disk.size w.disk) g.U.Outlet.took g.A.App.handler c.args.node c.args.self.now c.turns.self c.turns.invariant.up c.requires

pub turns-init : goal.turns-init
turns-init g c = record {
  up = stays-first (λ w. g.D.Disk.told w.disk) (λ w. g.D.Disk.size w.disk) g.U.Outlet.took g.A.App.handler c.args.node c.args.self.now;
  moved = moves-none (λ w. g.D.Disk.told w.disk) (λ w. g.D.Disk.size w.disk) g.U.Outlet.took g.A.App.handler (λ game f f2. f2 ≡ f) c.args.node c.args.self.now (λ game f. refl);
  accounts = λ terms game made running low accounted. accounted;
  refused = λ terms made low are. are;
  called = changes-none (λ a b. IsNotRestarted a b × MaySync (λ w. g.D.Disk.told w.disk) a b) c.args.node c.args.self.now (λ a. (not-restarted a, may-sync (λ w. g.D.Disk.told w.disk) a));
}

pub returns-in_err-turn-clause-leaves : goal.returns-in_err-turn-clause-leaves
returns-in_err-turn-clause-leaves g c = λ game made running low.
    handed-on (λ w. g.D.Disk.told w.disk) (λ w. g.D.Disk.size w.disk) g.U.Outlet.took g.A.App.handler c.args.node c.from_residual.result c.in_err-turn.field-0.0 game made c.turn.new.self c.from_residual.ensures.1 (c.in_err-turn.ensures.leaves game made (c.turns.invariant.up game made running low) low)

pub returns-in_err-turn-clause-accounts : goal.returns-in_err-turn-clause-accounts
returns-in_err-turn-clause-accounts g c = λ terms game made running low accounted.
    accounts-handed-on (λ w. g.D.Disk.told w.disk) (λ w. g.D.Disk.faults w.disk) (λ w. g.D.Disk.fate w.disk) g.O.Oracle.telling terms game made c.turn.new.self c.args.node c.from_residual.result c.in_err-turn.field-0.0 c.from_residual.ensures.1 (c.in_err-turn.ensures.accounts terms game made (c.turns.invariant.up game made running low) low (c.turns.invariant.accounts terms game made running low accounted))

pub returns-in_err-turn-clause-less : goal.returns-in_err-turn-clause-less
returns-in_err-turn-clause-less g c = λ was.
    less-then (λ w. g.D.Disk.told w.disk) (λ w. g.D.Disk.size w.disk) g.U.Outlet.took g.A.App.handler (λ game f f2. f2 ≡ f) c.args.node c.args.self.now c.turns.self c.turn.new.self c.from_residual.result c.in_err-turn.field-0.0 c.turns.invariant.moved c.requires c.from_residual.ensures.1
    (λ same. c.in_err-turn.ensures.less (cc)) was

pub turns-preserved : goal.turns-preserved
turns-preserved g c = record {
  up = λ game made running low. c.in_ok-turn.ensures.leaves game made (c.turns.invariant.up game made running low) low;
  moved = moves-worked (λ w. g.D.Disk.told w.disk) (λ w. g.D.Disk.size w.disk) g.U.Outlet.took g.A.App.handler (λ game f f2. f2 ≡ f) (λ game f f2. f2 ≡ f) c.args.node c.args.self.now c.turns.self c.turn.new.self c.turns.invariant.moved (λ game made running low. c.in_ok-turn.ensures.leaves game made running low) (c.in_ok-turn.ensures.worked (let is = c.in-Turn.is in cc));
  accounts = λ terms game made running low accounted. c.in_ok-turn.ensures.accounts terms game made (c.turns.invariant.up game made running low) low (c.turns.invariant.accounts terms game made running low accounted);
  refused = λ terms made low are. c.in_ok-turn.ensures.refused terms made low (c.turns.invariant.refused terms made low are);
  called = went-then (λ w. g.D.Disk.told w.disk) (MaySync (λ w. g.D.Disk.told w.disk)) (MaySync (λ w. g.D.Disk.told w.disk)) (MaySync (λ w. g.D.Disk.told w.disk)) c.args.node c.args.self.now c.turns.self c.turn.new.self (may-sync-then (λ w. g.D.Disk.told w.disk)) c.turns.invariant.called c.in_ok-turn.ensures.called;
}

pub returns-clause-leaves : goal.returns-clause-leaves
returns-clause-leaves g c = λ game made running low. c.in_ok-turn.ensures.leaves game made (c.turns.invariant.up game made running low) low

pub returns-clause-accounts : goal.returns-clause-accounts
returns-clause-accounts g c = λ terms game made running low accounted. c.in_ok-turn.ensures.accounts terms game made (c.turns.invariant.up game made running low) low (c.turns.invariant.accounts terms game made running low accounted)

pub returns-clause-moves : goal.returns-clause-moves
returns-clause-moves g c = moves-then (λ w. g.D.Disk.told w.disk) (λ w. g.D.Disk.size w.disk) g.U.Outlet.took g.A.App.handler (λ game f f2. f2 ≡ f) (λ game. Rested game c.args.node) (λ game. Rested game c.args.node) c.args.node c.args.self.now c.turns.self c.turn.new.self (λ game f f2 f3 same b. rested-then game c.args.node f f2 f3 same b) c.turns.invariant.moved c.in_ok-turn.ensures.moves

pub returns-in_err-turn-clause-refused : goal.returns-in_err-turn-clause-refused
returns-in_err-turn-clause-refused g c = λ terms made low are.
    refused-handed-on g.U.Outlet.faults g.U.Outlet.fate terms made c.turn.new.self c.args.node c.from_residual.result c.in_err-turn.field-0.0 c.from_residual.ensures.1 (c.in_err-turn.ensures.refused terms made low (c.turns.invariant.refused terms made low are))

pub returns-clause-refused : goal.returns-clause-refused
returns-clause-refused g c = λ terms made low are. c.in_ok-turn.ensures.refused terms made low (c.turns.invariant.refused terms made low are)

pub returns-clause-called : goal.returns-clause-called
returns-clause-called g c = went-then (λ w. g.D.Disk.told w.disk) (MaySync (λ w. g.D.Disk.told w.disk)) (MaySync (λ w. g.D.Disk.told w.disk)) (MaySync (λ w. g.D.Disk.told w.disk)) c.args.node c.args.self.now c.turns.self c.turn.new.self (may-sync-then (λ w. g.D.Disk.told w.disk)) c.turns.invariant.called c.in_ok-turn.ensures.called

pub returns-in_err-turn-clause-called : goal.returns-in_err-turn-clause-called
returns-in_err-turn-clause-called g c =
    call-broken _ c.from_residual.result (MaySync (λ w. g.D.Disk.told w.disk)) c.args.node c.args.self.now c.turn.new.self c.from_residual.ensures.1
    (still-then c.args.node c.args.self.now c.turns.self c.turn.new.self (ok-still (MaySync (λ w. g.D.Disk.told w.disk)) c.args.node c.args.self.now c.turns.self c.turns.invariant.called) (err-still c.args.node c.turns.self c.turn.new.self c.in_err-turn.ensures.called))

pub returns-clause-rests : goal.returns-clause-rests
returns-clause-rests g c = ⊎_elim (λ same. absurd (c.in_default.not-Turn same)) (λ none. none) c.in_ok-turn.ensures.rests
