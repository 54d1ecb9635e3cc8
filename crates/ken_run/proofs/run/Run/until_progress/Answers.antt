-- Three passes after three others, until one makes progress.
use Rattle.std.proofs.Common.{◌∙◌, refl, sym, arith}
use Rattle.ken_run.specs.declared.drain.PassOutcome.TheVariants.{Ended, Progressed, Idle}
use Rattle.ken_run.specs.Draining.{LessIsOpen}
use Rattle.ken_run.proofs.Draining.{until_progress-failed, outcome-is, few-stations, may-still, stays-then, stays-whole}
use Rattle.ken_run.proofs.AccountsRestarts.{run-accounts-handed-on}
use Rattle.ken_run.proofs.Refusals.{run-refused-handed-on, stops-handed-on}
use Rattle.ken_run.specs.Drained.{none}
use Rattle.ken_run.proofs.Drained.{ended-after, outcome-to, passes-then, progress-broken}
use Rattle.ken_run.proofs.run.Run.until_progress.Goals as goal

pub left-left-requires : goal.left-left-requires
left-left-requires g c = few-stations (λ w. g.D.Disk.told w.disk) (λ w. g.D.Disk.size w.disk) g.U.Outlet.took g.A.App.handler c.args.self.now c.requires

pub passes-init : goal.passes-init
passes-init g c = record { on = none; refused = λ terms game made running all are. are; accounts = λ terms game made running all accounted. accounted; stays = stays-whole (λ w. g.D.Disk.told w.disk) (λ w. g.D.Disk.size w.disk) g.U.Outlet.took g.A.App.handler c.args.self.now; same = refl; left_is = c.left-left.ensures }

pub three_passes-requires-clause-may : goal.three_passes-requires-clause-may
three_passes-requires-clause-may g c = may-still (λ w. g.D.Disk.told w.disk) (λ w. g.D.Disk.size w.disk) g.U.Outlet.took g.A.App.handler c.args.self.now c.passes.self c.passes.invariant.stays c.requires

pub returns-in_err-three_passes-clause-progresses : goal.returns-in_err-three_passes-clause-progresses
returns-in_err-three_passes-clause-progresses g c =
    until_progress-failed (λ w. g.D.Disk.told w.disk) (λ w. g.D.Disk.size w.disk) g.U.Outlet.took g.A.App.handler c.args.self.now c.three_passes.new.self c.from_residual.result c.in_err-three_passes.field-0.0 c.from_residual.ensures.1 (λ game made running all. c.in_err-three_passes.ensures.outcome game made (c.passes.invariant.stays game made running all) all)

pub returns-in-Ended-clause-progresses : goal.returns-in-Ended-clause-progresses
returns-in-Ended-clause-progresses g c = λ game made running all. (outcome-is (λ w. g.D.Disk.told w.disk) (λ w. g.D.Disk.size w.disk) g.U.Outlet.took g.A.App.handler LessIsOpen c.passes.self c.three_passes.new.self c.in_ok-three_passes.field-0 Ended c.in-Ended.is c.in_ok-three_passes.ensures.outcome) game made (c.passes.invariant.stays game made running all) all

pub returns-in-Progressed-clause-progresses : goal.returns-in-Progressed-clause-progresses
returns-in-Progressed-clause-progresses g c =
    let less = (outcome-is (λ w. g.D.Disk.told w.disk) (λ w. g.D.Disk.size w.disk) g.U.Outlet.took g.A.App.handler LessIsOpen c.passes.self c.three_passes.new.self c.in_ok-three_passes.field-0 Progressed c.in-Progressed.is c.in_ok-three_passes.ensures.outcome).1 in
    let same = c.passes.invariant.same in
    (stays-then (λ w. g.D.Disk.told w.disk) (λ w. g.D.Disk.size w.disk) g.U.Outlet.took g.A.App.handler c.args.self.now c.passes.self c.three_passes.new.self c.passes.invariant.stays (outcome-is (λ w. g.D.Disk.told w.disk) (λ w. g.D.Disk.size w.disk) g.U.Outlet.took g.A.App.handler LessIsOpen c.passes.self c.three_passes.new.self c.in_ok-three_passes.field-0 Progressed c.in-Progressed.is c.in_ok-three_passes.ensures.outcome).0, omega (arith, less, same))

pub passes-preserved : goal.passes-preserved
passes-preserved g c = record {
  stays = stays-then (λ w. g.D.Disk.told w.disk) (λ w. g.D.Disk.size w.disk) g.U.Outlet.took g.A.App.handler c.args.self.now c.passes.self c.three_passes.new.self c.passes.invariant.stays (outcome-is (λ w. g.D.Disk.told w.disk) (λ w. g.D.Disk.size w.disk) g.U.Outlet.took g.A.App.handler LessIsOpen c.passes.self c.three_passes.new.self c.in_ok-three_passes.field-0 Idle c.in-Idle.is c.in_ok-three_passes.ensures.outcome).1;
  same = (outcome-is (λ w. g.D.Disk.told w.disk) (λ w. g.D.Disk.size w.disk) g.U.Outlet.took g.A.App.handler LessIsOpen c.passes.self c.three_passes.new.self c.in_ok-three_passes.field-0 Idle c.in-Idle.is c.in_ok-three_passes.ensures.outcome).2 ∙ c.passes.invariant.same;
  on = passes-then (λ w. g.D.Disk.told w.disk) (λ w. g.D.Disk.size w.disk) g.U.Outlet.took g.A.App.handler c.args.self.now c.passes.self c.three_passes.new.self c.passes.invariant.on (outcome-to (λ w. g.D.Disk.told w.disk) (λ w. g.D.Disk.size w.disk) g.U.Outlet.took g.A.App.handler c.passes.self c.three_passes.new.self c.in_ok-three_passes.field-0 Idle c.in-Idle.is c.in_ok-three_passes.ensures.passes);
  left_is = c.passes.invariant.left_is ∙ sym (outcome-is (λ w. g.D.Disk.told w.disk) (λ w. g.D.Disk.size w.disk) g.U.Outlet.took g.A.App.handler LessIsOpen c.passes.self c.three_passes.new.self c.in_ok-three_passes.field-0 Idle c.in-Idle.is c.in_ok-three_passes.ensures.outcome).2;
  accounts = λ terms game made running all accounted. c.in_ok-three_passes.ensures.accounts terms game made (c.passes.invariant.stays game made running all) all (c.passes.invariant.accounts terms game made running all accounted);
  refused = λ terms game made running all are. c.in_ok-three_passes.ensures.refused terms game made (c.passes.invariant.stays game made running all) all (c.passes.invariant.refused terms game made running all are);
}

pub passes-smaller : goal.passes-smaller
passes-smaller g c = (outcome-is (λ w. g.D.Disk.told w.disk) (λ w. g.D.Disk.size w.disk) g.U.Outlet.took g.A.App.handler LessIsOpen c.passes.self c.three_passes.new.self c.in_ok-three_passes.field-0 Idle c.in-Idle.is c.in_ok-three_passes.ensures.outcome).0

pub returns-in_err-three_passes-clause-accounts : goal.returns-in_err-three_passes-clause-accounts
returns-in_err-three_passes-clause-accounts g c = λ terms game made running all accounted.
    run-accounts-handed-on (λ w. g.D.Disk.told w.disk) (λ w. g.D.Disk.faults w.disk) (λ w. g.D.Disk.fate w.disk) g.O.Oracle.telling terms game made c.three_passes.new.self c.from_residual.result c.in_err-three_passes.field-0.0 c.from_residual.ensures.1 (c.in_err-three_passes.ensures.accounts terms game made (c.passes.invariant.stays game made running all) all (c.passes.invariant.accounts terms game made running all accounted))

pub returns-in-Ended-clause-accounts : goal.returns-in-Ended-clause-accounts
returns-in-Ended-clause-accounts g c = λ terms game made running all accounted. c.in_ok-three_passes.ensures.accounts terms game made (c.passes.invariant.stays game made running all) all (c.passes.invariant.accounts terms game made running all accounted)

pub returns-in-Progressed-clause-accounts : goal.returns-in-Progressed-clause-accounts
returns-in-Progressed-clause-accounts g c = λ terms game made running all accounted. c.in_ok-three_passes.ensures.accounts terms game made (c.passes.invariant.stays game made running all) all (c.passes.invariant.accounts terms game made running all accounted)

pub returns-in_err-three_passes-clause-refused : goal.returns-in_err-three_passes-clause-refused
returns-in_err-three_passes-clause-refused g c = λ terms game made running all are.
    run-refused-handed-on g.U.Outlet.faults g.U.Outlet.fate terms made c.three_passes.new.self c.from_residual.result c.in_err-three_passes.field-0.0 c.from_residual.ensures.1 (c.in_err-three_passes.ensures.refused terms game made (c.passes.invariant.stays game made running all) all (c.passes.invariant.refused terms game made running all are))

pub returns-in-Ended-clause-refused : goal.returns-in-Ended-clause-refused
returns-in-Ended-clause-refused g c = λ terms game made running all are. c.in_ok-three_passes.ensures.refused terms game made (c.passes.invariant.stays game made running all) all (c.passes.invariant.refused terms game made running all are)

pub returns-in-Progressed-clause-refused : goal.returns-in-Progressed-clause-refused
returns-in-Progressed-clause-refused g c = λ terms game made running all are. c.in_ok-three_passes.ensures.refused terms game made (c.passes.invariant.stays game made running all) all (c.passes.invariant.refused terms game made running all are)

pub returns-in_err-three_passes-clause-stops : goal.returns-in_err-three_passes-clause-stops
returns-in_err-three_passes-clause-stops g c = λ terms game made running all accounted are.
    stops-handed-on (λ w. g.D.Disk.told w.disk) (λ w. g.D.Disk.faults w.disk) (λ w. g.D.Disk.fate w.disk) g.O.Oracle.telling g.U.Outlet.faults g.U.Outlet.fate terms game made c.three_passes.new.self c.from_residual.result c.in_err-three_passes.field-0.0 c.from_residual.ensures.1
    (c.in_err-three_passes.ensures.stops terms game made (c.passes.invariant.stays game made running all) all (c.passes.invariant.accounts terms game made running all accounted) (c.passes.invariant.refused terms game made running all are))

pub returns-in_err-three_passes-clause-passes : goal.returns-in_err-three_passes-clause-passes
returns-in_err-three_passes-clause-passes g c = progress-broken (λ w. g.D.Disk.told w.disk) (λ w. g.D.Disk.size w.disk) g.U.Outlet.took g.A.App.handler c.args.self.now c.three_passes.new.self c.from_residual.result c.in_err-three_passes.field-0.0 c.from_residual.ensures.1

pub returns-in-Ended-clause-passes : goal.returns-in-Ended-clause-passes
returns-in-Ended-clause-passes g c = ended-after (λ w. g.D.Disk.told w.disk) (λ w. g.D.Disk.size w.disk) g.U.Outlet.took g.A.App.handler c.args.self.now c.passes.self c.three_passes.new.self c.in_ok-three_passes.field-0 c.in-Ended.is c.passes.invariant.on c.in_ok-three_passes.ensures.passes

pub returns-in-Progressed-clause-passes : goal.returns-in-Progressed-clause-passes
returns-in-Progressed-clause-passes g c = passes-then (λ w. g.D.Disk.told w.disk) (λ w. g.D.Disk.size w.disk) g.U.Outlet.took g.A.App.handler c.args.self.now c.passes.self c.three_passes.new.self c.passes.invariant.on (outcome-to (λ w. g.D.Disk.told w.disk) (λ w. g.D.Disk.size w.disk) g.U.Outlet.took g.A.App.handler c.passes.self c.three_passes.new.self c.in_ok-three_passes.field-0 Progressed c.in-Progressed.is c.in_ok-three_passes.ensures.passes)
