-- One visit after another.
use Rattle.std.proofs.Common.{◌<◌, subst, arith}
use Rattle.ken_run.proofs.AccountsRestarts.{run-accounts-handed-on}
use Rattle.ken_run.proofs.Leaving.{run-handed-on}
use Rattle.ken_run.proofs.Refusals.{run-refused-handed-on, stops-handed-on}
use Rattle.ken_run.proofs.run.Run.pass.Goals as goal
use Rattle.ken_run.proofs.Patched.{visited-all, visited-more, visited-none}
use Rattle.ken_run.proofs.Visits.{pass-all, pass-more, pass-none}

pub loop-node-init : goal.loop-node-init
loop-node-init g c = record { visited = visited-none (λ w. g.D.Disk.told w.disk) c.args.self.now; refused = λ terms made most are. are; accounts = λ terms game made running accounted. accounted; up = λ game made running. running; moved = pass-none (λ w. g.D.Disk.told w.disk) (λ w. g.D.Disk.size w.disk) g.U.Outlet.took g.A.App.handler c.args.self.now }

pub visit-requires : goal.visit-requires
visit-requires g c = record {
  game = c.requires.game;
  made = c.requires.made;
  running = c.loop-node.invariant.up c.requires.game c.requires.made c.requires.running;
  known = subst (λ n. c.loop-node.node < n) c.requires.running.stands.count c.loop-node-test.true;
}

pub returns-in_err-visit-clause-leaves : goal.returns-in_err-visit-clause-leaves
returns-in_err-visit-clause-leaves g c = λ game made running.
    run-handed-on (λ w. g.D.Disk.told w.disk) (λ w. g.D.Disk.size w.disk) g.U.Outlet.took g.A.App.handler c.from_residual.result c.in_err-visit.field-0.0 game made c.visit.new.self c.from_residual.ensures.1
    (c.in_err-visit.ensures.leaves game made (c.loop-node.invariant.up game made running) (subst (λ n. c.loop-node.node < n) running.stands.count c.loop-node-test.true))

pub returns-in_err-visit-clause-accounts : goal.returns-in_err-visit-clause-accounts
returns-in_err-visit-clause-accounts g c = λ terms game made running accounted.
    run-accounts-handed-on (λ w. g.D.Disk.told w.disk) (λ w. g.D.Disk.faults w.disk) (λ w. g.D.Disk.fate w.disk) g.O.Oracle.telling terms game made c.visit.new.self c.from_residual.result c.in_err-visit.field-0.0 c.from_residual.ensures.1
    (c.in_err-visit.ensures.accounts terms game made (c.loop-node.invariant.up game made running) (subst (λ n. c.loop-node.node < n) running.stands.count c.loop-node-test.true) (c.loop-node.invariant.accounts terms game made running accounted))

pub loop-node-preserved : goal.loop-node-preserved
loop-node-preserved g c = record {
  up = λ game made running. c.in_ok-visit.ensures.leaves game made (c.loop-node.invariant.up game made running) (subst (λ n. c.loop-node.node < n) running.stands.count c.loop-node-test.true);
  moved = pass-more (λ w. g.D.Disk.told w.disk) (λ w. g.D.Disk.size w.disk) g.U.Outlet.took g.A.App.handler c.loop-node.node c.args.self.now c.loop-node.self c.visit.new.self c.loop-node.invariant.moved c.in_ok-visit.ensures.moves
      (λ game made running. subst (λ n. c.loop-node.node < n) running.stands.count c.loop-node-test.true);
  accounts = λ terms game made running accounted. c.in_ok-visit.ensures.accounts terms game made (c.loop-node.invariant.up game made running) (subst (λ n. c.loop-node.node < n) running.stands.count c.loop-node-test.true) (c.loop-node.invariant.accounts terms game made running accounted);
  visited = visited-more (λ w. g.D.Disk.told w.disk) c.loop-node.node c.args.self.now c.loop-node.self c.visit.new.self c.loop-node.invariant.visited c.in_ok-visit.ensures.visited;
  refused = λ terms made most are. c.in_ok-visit.ensures.refused terms made (omega (arith, c.loop-node-test.true, most)) (c.loop-node.invariant.refused terms made most are);
}

pub returns-clause-leaves : goal.returns-clause-leaves
returns-clause-leaves g c = λ game made running. c.loop-node.invariant.up game made running

pub returns-clause-moves : goal.returns-clause-moves
returns-clause-moves g c = pass-all (λ w. g.D.Disk.told w.disk) (λ w. g.D.Disk.size w.disk) g.U.Outlet.took g.A.App.handler c.loop-node.node c.args.self.now c.loop-node.self c.loop-node.invariant.moved (λ game made running. let count = running.stands.count in let past = c.loop-node-test.false in let within = c.loop-node.auto.node-end in omega (arith, count, past, within))

pub returns-in_err-visit-clause-refused : goal.returns-in_err-visit-clause-refused
returns-in_err-visit-clause-refused g c = λ terms made most are.
    run-refused-handed-on g.U.Outlet.faults g.U.Outlet.fate terms made c.visit.new.self c.from_residual.result c.in_err-visit.field-0.0 c.from_residual.ensures.1 (c.in_err-visit.ensures.refused terms made (omega (arith, c.loop-node-test.true, most)) (c.loop-node.invariant.refused terms made most are))

pub returns-in_err-visit-clause-stops : goal.returns-in_err-visit-clause-stops
returns-in_err-visit-clause-stops g c = λ terms game made running accounted are.
    let low = subst (λ n. c.loop-node.node < n) running.stands.count c.loop-node-test.true in
    let count = running.stands.count in
    stops-handed-on (λ w. g.D.Disk.told w.disk) (λ w. g.D.Disk.faults w.disk) (λ w. g.D.Disk.fate w.disk) g.O.Oracle.telling g.U.Outlet.faults g.U.Outlet.fate terms game made c.visit.new.self c.from_residual.result c.in_err-visit.field-0.0 c.from_residual.ensures.1
    (c.in_err-visit.ensures.stops terms game made (c.loop-node.invariant.up game made running) low (c.loop-node.invariant.accounts terms game made running accounted) (c.loop-node.invariant.refused terms made (omega (arith, count)) are))

pub returns-clause-visited : goal.returns-clause-visited
returns-clause-visited g c =
    let count = c.requires.running.stands.count in
    let width = c.requires.running.stands.width in
    let past = c.loop-node-test.false in
    let within = c.loop-node.auto.node-end in
    visited-all (λ w. g.D.Disk.told w.disk) c.loop-node.node c.args.self.now c.loop-node.self c.loop-node.invariant.visited (omega (arith, count, width, past, within))
