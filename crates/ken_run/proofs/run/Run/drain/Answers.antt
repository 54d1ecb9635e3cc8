-- Passes until the run has ended.
use Rattle.ken_run.proofs.Draining.{drain-done, drain-failed, drain-on, may-still, stays-whole}
use Rattle.ken_run.proofs.AccountsRestarts.{run-accounts-handed-on}
use Rattle.ken_run.proofs.Refusals.{run-refused-handed-on, stops-handed-on}
use Rattle.ken_run.specs.Drained.{none}
use Rattle.ken_run.proofs.Drained.{drained-after, going-on}
use Rattle.ken_run.proofs.States.{drained-adds}
use Rattle.ken_run.proofs.run.Run.drain.Goals as goal

pub until_progress-requires : goal.until_progress-requires
until_progress-requires g c = may-still (λ w. g.D.Disk.told w.disk) (λ w. g.D.Disk.size w.disk) g.U.Outlet.took g.A.App.handler c.args.self.now c.passes.self c.passes.invariant.stays c.requires

pub returns-in_err-until_progress-clause-drains : goal.returns-in_err-until_progress-clause-drains
returns-in_err-until_progress-clause-drains g c = λ game made running all.
    drain-failed (λ w. g.D.Disk.told w.disk) (λ w. g.D.Disk.size w.disk) g.U.Outlet.took g.A.App.handler game made c.until_progress.new.self c.from_residual.result c.in_err-until_progress.field-0.0 c.from_residual.ensures.1
    (c.in_err-until_progress.ensures.progresses game made (c.passes.invariant.stays game made running all) all)

pub passes-preserved : goal.passes-preserved
passes-preserved g c = record {
  stays = drain-on (λ w. g.D.Disk.told w.disk) (λ w. g.D.Disk.size w.disk) g.U.Outlet.took g.A.App.handler c.args.self.now c.passes.self c.until_progress.new.self c.in_ok-until_progress.field-0 c.passes.invariant.stays c.in_ok-until_progress.ensures.progresses;
  on = going-on (λ w. g.D.Disk.told w.disk) (λ w. g.D.Disk.size w.disk) g.U.Outlet.took g.A.App.handler c.args.self.now c.passes.self c.until_progress.new.self c.in_ok-until_progress.field-0 c.if-not-branch.true c.passes.invariant.on c.in_ok-until_progress.ensures.passes;
  accounts = λ terms game made running all accounted. c.in_ok-until_progress.ensures.accounts terms game made (c.passes.invariant.stays game made running all) all (c.passes.invariant.accounts terms game made running all accounted);
  refused = λ terms game made running all are. c.in_ok-until_progress.ensures.refused terms game made (c.passes.invariant.stays game made running all) all (c.passes.invariant.refused terms game made running all are);
}

pub returns-clause-drains : goal.returns-clause-drains
returns-clause-drains g c = λ game made running all.
    drain-done (λ w. g.D.Disk.told w.disk) (λ w. g.D.Disk.size w.disk) g.U.Outlet.took g.A.App.handler c.args.self.now c.passes.self c.until_progress.new.self c.in_ok-until_progress.field-0 c.if-not-branch.false c.passes.invariant.stays c.in_ok-until_progress.ensures.progresses game made running all

pub returns-clause-accounts : goal.returns-clause-accounts
returns-clause-accounts g c = λ terms game made running all accounted.
    c.in_ok-until_progress.ensures.accounts terms game made (c.passes.invariant.stays game made running all) all (c.passes.invariant.accounts terms game made running all accounted)

pub returns-clause-refused : goal.returns-clause-refused
returns-clause-refused g c = λ terms game made running all are.
    c.in_ok-until_progress.ensures.refused terms game made (c.passes.invariant.stays game made running all) all (c.passes.invariant.refused terms game made running all are)

pub returns-in_err-until_progress-clause-accounts : goal.returns-in_err-until_progress-clause-accounts
returns-in_err-until_progress-clause-accounts g c = λ terms game made running all accounted.
    run-accounts-handed-on (λ w. g.D.Disk.told w.disk) (λ w. g.D.Disk.faults w.disk) (λ w. g.D.Disk.fate w.disk) g.O.Oracle.telling terms game made c.until_progress.new.self c.from_residual.result c.in_err-until_progress.field-0.0 c.from_residual.ensures.1
    (c.in_err-until_progress.ensures.accounts terms game made (c.passes.invariant.stays game made running all) all (c.passes.invariant.accounts terms game made running all accounted))

pub returns-in_err-until_progress-clause-refused : goal.returns-in_err-until_progress-clause-refused
returns-in_err-until_progress-clause-refused g c = λ terms game made running all are.
    run-refused-handed-on g.U.Outlet.faults g.U.Outlet.fate terms made c.until_progress.new.self c.from_residual.result c.in_err-until_progress.field-0.0 c.from_residual.ensures.1
    (c.in_err-until_progress.ensures.refused terms game made (c.passes.invariant.stays game made running all) all (c.passes.invariant.refused terms game made running all are))

pub returns-in_err-until_progress-clause-stops : goal.returns-in_err-until_progress-clause-stops
returns-in_err-until_progress-clause-stops g c = λ terms game made running all accounted are.
    stops-handed-on (λ w. g.D.Disk.told w.disk) (λ w. g.D.Disk.faults w.disk) (λ w. g.D.Disk.fate w.disk) g.O.Oracle.telling g.U.Outlet.faults g.U.Outlet.fate terms game made c.until_progress.new.self c.from_residual.result c.in_err-until_progress.field-0.0 c.from_residual.ensures.1
    (c.in_err-until_progress.ensures.stops terms game made (c.passes.invariant.stays game made running all) all (c.passes.invariant.accounts terms game made running all accounted) (c.passes.invariant.refused terms game made running all are))

pub returns-clause-passes : goal.returns-clause-passes
returns-clause-passes g c = drained-after (λ w. g.D.Disk.told w.disk) (λ w. g.D.Disk.size w.disk) g.U.Outlet.took g.A.App.handler c.args.self.now c.passes.self c.until_progress.new.self c.in_ok-until_progress.field-0 c.if-not-branch.false c.passes.invariant.on c.in_ok-until_progress.ensures.passes

pub returns-clause-states : goal.returns-clause-states
returns-clause-states g c = drained-adds (λ w. g.D.Disk.told w.disk) (λ w. g.D.Disk.size w.disk) g.U.Outlet.took g.A.App.handler c.args.self.now c.until_progress.new.self (returns-clause-passes g c)

pub passes-init : goal.passes-init
passes-init g c = record { stays = stays-whole (λ w. g.D.Disk.told w.disk) (λ w. g.D.Disk.size w.disk) g.U.Outlet.took g.A.App.handler c.args.self.now; on = none; accounts = λ terms game made running all accounted. accounted; refused = λ terms game made running all are. are }
