-- Three passes, or fewer.
use Rattle.std.proofs.Common.{◌∙◌, Ok}
use Rattle.ken_run.specs.declared.drain.PassOutcome.TheVariants.{Idle}
use Rattle.ken_run.specs.Draining.{LessIsOpen, PassedIdly}
use Rattle.ken_run.proofs.Draining.{outcome-done, outcome-is, outcome-then, may-still, stays-then, three-less}
use Rattle.ken_run.proofs.AccountsRestarts.{run-accounts-handed-on}
use Rattle.ken_run.proofs.Refusals.{run-refused-handed-on, stops-handed-on}
use Rattle.ken_run.proofs.Drained.{outcome-after, outcome-broken, outcome-to, passes-then}
use Rattle.ken_run.proofs.run.Run.three_passes.Goals as goal

pub one_pass-requires-2-clause-may : goal.one_pass-requires-2-clause-may
one_pass-requires-2-clause-may g c = let first = (outcome-is (λ w. g.D.Disk.told w.disk) (λ w. g.D.Disk.size w.disk) g.U.Outlet.took g.A.App.handler (PassedIdly (λ w. g.D.Disk.told w.disk) (λ w. g.D.Disk.size w.disk) g.U.Outlet.took g.A.App.handler) c.args.self.now c.one_pass.new.self c.in_ok-outcome.outcome Idle c.in-Idle.is c.in_ok-outcome.ensures.outcome) in may-still (λ w. g.D.Disk.told w.disk) (λ w. g.D.Disk.size w.disk) g.U.Outlet.took g.A.App.handler c.args.self.now c.one_pass.new.self first.1 c.requires.may

pub returns-in_default-2-clause-outcome : goal.returns-in_default-2-clause-outcome
returns-in_default-2-clause-outcome g c =
    let first = (outcome-is (λ w. g.D.Disk.told w.disk) (λ w. g.D.Disk.size w.disk) g.U.Outlet.took g.A.App.handler (PassedIdly (λ w. g.D.Disk.told w.disk) (λ w. g.D.Disk.size w.disk) g.U.Outlet.took g.A.App.handler) c.args.self.now c.one_pass.new.self c.in_ok-outcome.outcome Idle c.in-Idle.is c.in_ok-outcome.ensures.outcome) in
    outcome-then (λ w. g.D.Disk.told w.disk) (λ w. g.D.Disk.size w.disk) g.U.Outlet.took g.A.App.handler (λ a b. LessIsOpen c.args.self.now b) LessIsOpen c.args.self.now c.one_pass.new.self c.one_pass-2.new.self (Ok c.in_ok-outcome-2.outcome) (λ less. less) first.1 first.2
    (outcome-done (λ w. g.D.Disk.told w.disk) (λ w. g.D.Disk.size w.disk) g.U.Outlet.took g.A.App.handler (PassedIdly (λ w. g.D.Disk.told w.disk) (λ w. g.D.Disk.size w.disk) g.U.Outlet.took g.A.App.handler) (λ a b. LessIsOpen c.args.self.now b) c.one_pass.new.self c.one_pass-2.new.self c.in_ok-outcome-2.outcome c.in_default-2.not-Idle c.in_ok-outcome-2.ensures.outcome)

pub one_pass-requires-3-clause-may : goal.one_pass-requires-3-clause-may
one_pass-requires-3-clause-may g c =
    let first = (outcome-is (λ w. g.D.Disk.told w.disk) (λ w. g.D.Disk.size w.disk) g.U.Outlet.took g.A.App.handler (PassedIdly (λ w. g.D.Disk.told w.disk) (λ w. g.D.Disk.size w.disk) g.U.Outlet.took g.A.App.handler) c.args.self.now c.one_pass.new.self c.in_ok-outcome.outcome Idle c.in-Idle.is c.in_ok-outcome.ensures.outcome) in
    let second = (outcome-is (λ w. g.D.Disk.told w.disk) (λ w. g.D.Disk.size w.disk) g.U.Outlet.took g.A.App.handler (PassedIdly (λ w. g.D.Disk.told w.disk) (λ w. g.D.Disk.size w.disk) g.U.Outlet.took g.A.App.handler) c.one_pass.new.self c.one_pass-2.new.self c.in_ok-outcome-2.outcome Idle c.in-Idle-2.is c.in_ok-outcome-2.ensures.outcome) in
    may-still (λ w. g.D.Disk.told w.disk) (λ w. g.D.Disk.size w.disk) g.U.Outlet.took g.A.App.handler c.one_pass.new.self c.one_pass-2.new.self second.1 (may-still (λ w. g.D.Disk.told w.disk) (λ w. g.D.Disk.size w.disk) g.U.Outlet.took g.A.App.handler c.args.self.now c.one_pass.new.self first.1 c.requires.may)

pub returns-clause-outcome : goal.returns-clause-outcome
returns-clause-outcome g c =
    let first = (outcome-is (λ w. g.D.Disk.told w.disk) (λ w. g.D.Disk.size w.disk) g.U.Outlet.took g.A.App.handler (PassedIdly (λ w. g.D.Disk.told w.disk) (λ w. g.D.Disk.size w.disk) g.U.Outlet.took g.A.App.handler) c.args.self.now c.one_pass.new.self c.in_ok-outcome.outcome Idle c.in-Idle.is c.in_ok-outcome.ensures.outcome) in
    let second = (outcome-is (λ w. g.D.Disk.told w.disk) (λ w. g.D.Disk.size w.disk) g.U.Outlet.took g.A.App.handler (PassedIdly (λ w. g.D.Disk.told w.disk) (λ w. g.D.Disk.size w.disk) g.U.Outlet.took g.A.App.handler) c.one_pass.new.self c.one_pass-2.new.self c.in_ok-outcome-2.outcome Idle c.in-Idle-2.is c.in_ok-outcome-2.ensures.outcome) in
    outcome-then (λ w. g.D.Disk.told w.disk) (λ w. g.D.Disk.size w.disk) g.U.Outlet.took g.A.App.handler (PassedIdly (λ w. g.D.Disk.told w.disk) (λ w. g.D.Disk.size w.disk) g.U.Outlet.took g.A.App.handler) LessIsOpen c.args.self.now c.one_pass-2.new.self c.one_pass-3.new.self c.one_pass-3.result (λ third. three-less (λ w. g.D.Disk.told w.disk) (λ w. g.D.Disk.size w.disk) g.U.Outlet.took g.A.App.handler c.args.self.now c.one_pass.new.self c.one_pass-2.new.self c.one_pass-3.new.self c.requires.may first.0 second.0 third)
    (stays-then (λ w. g.D.Disk.told w.disk) (λ w. g.D.Disk.size w.disk) g.U.Outlet.took g.A.App.handler c.args.self.now c.one_pass.new.self c.one_pass-2.new.self first.1 second.1) (second.2 ∙ first.2) c.one_pass-3.ensures.outcome

pub returns-in_err-outcome-2-clause-accounts : goal.returns-in_err-outcome-2-clause-accounts
returns-in_err-outcome-2-clause-accounts g c = λ terms game made running all accounted.
    let first = (outcome-is (λ w. g.D.Disk.told w.disk) (λ w. g.D.Disk.size w.disk) g.U.Outlet.took g.A.App.handler (PassedIdly (λ w. g.D.Disk.told w.disk) (λ w. g.D.Disk.size w.disk) g.U.Outlet.took g.A.App.handler) c.args.self.now c.one_pass.new.self c.in_ok-outcome.outcome Idle c.in-Idle.is c.in_ok-outcome.ensures.outcome) in
    run-accounts-handed-on (λ w. g.D.Disk.told w.disk) (λ w. g.D.Disk.faults w.disk) (λ w. g.D.Disk.fate w.disk) g.O.Oracle.telling terms game made c.one_pass-2.new.self c.from_residual-in_err-outcome-2.result c.in_err-outcome-2.field-0.0 c.from_residual-in_err-outcome-2.ensures.1
    (c.in_err-outcome-2.ensures.accounts terms game made (first.1 game made running all) all (c.in_ok-outcome.ensures.accounts terms game made running all accounted))

pub returns-in_default-2-clause-accounts : goal.returns-in_default-2-clause-accounts
returns-in_default-2-clause-accounts g c = λ terms game made running all accounted.
    let first = (outcome-is (λ w. g.D.Disk.told w.disk) (λ w. g.D.Disk.size w.disk) g.U.Outlet.took g.A.App.handler (PassedIdly (λ w. g.D.Disk.told w.disk) (λ w. g.D.Disk.size w.disk) g.U.Outlet.took g.A.App.handler) c.args.self.now c.one_pass.new.self c.in_ok-outcome.outcome Idle c.in-Idle.is c.in_ok-outcome.ensures.outcome) in
    c.in_ok-outcome-2.ensures.accounts terms game made (first.1 game made running all) all (c.in_ok-outcome.ensures.accounts terms game made running all accounted)

pub returns-clause-accounts : goal.returns-clause-accounts
returns-clause-accounts g c = λ terms game made running all accounted.
    let first = (outcome-is (λ w. g.D.Disk.told w.disk) (λ w. g.D.Disk.size w.disk) g.U.Outlet.took g.A.App.handler (PassedIdly (λ w. g.D.Disk.told w.disk) (λ w. g.D.Disk.size w.disk) g.U.Outlet.took g.A.App.handler) c.args.self.now c.one_pass.new.self c.in_ok-outcome.outcome Idle c.in-Idle.is c.in_ok-outcome.ensures.outcome) in
    let second = (outcome-is (λ w. g.D.Disk.told w.disk) (λ w. g.D.Disk.size w.disk) g.U.Outlet.took g.A.App.handler (PassedIdly (λ w. g.D.Disk.told w.disk) (λ w. g.D.Disk.size w.disk) g.U.Outlet.took g.A.App.handler) c.one_pass.new.self c.one_pass-2.new.self c.in_ok-outcome-2.outcome Idle c.in-Idle-2.is c.in_ok-outcome-2.ensures.outcome) in
    let up = first.1 game made running all in
    c.one_pass-3.ensures.accounts terms game made (second.1 game made up all) all (c.in_ok-outcome-2.ensures.accounts terms game made up all (c.in_ok-outcome.ensures.accounts terms game made running all accounted))

pub returns-in_err-outcome-2-clause-refused : goal.returns-in_err-outcome-2-clause-refused
returns-in_err-outcome-2-clause-refused g c = λ terms game made running all are.
    let first = (outcome-is (λ w. g.D.Disk.told w.disk) (λ w. g.D.Disk.size w.disk) g.U.Outlet.took g.A.App.handler (PassedIdly (λ w. g.D.Disk.told w.disk) (λ w. g.D.Disk.size w.disk) g.U.Outlet.took g.A.App.handler) c.args.self.now c.one_pass.new.self c.in_ok-outcome.outcome Idle c.in-Idle.is c.in_ok-outcome.ensures.outcome) in
    run-refused-handed-on g.U.Outlet.faults g.U.Outlet.fate terms made c.one_pass-2.new.self c.from_residual-in_err-outcome-2.result c.in_err-outcome-2.field-0.0 c.from_residual-in_err-outcome-2.ensures.1
    (c.in_err-outcome-2.ensures.refused terms game made (first.1 game made running all) all (c.in_ok-outcome.ensures.refused terms game made running all are))

pub returns-in_default-2-clause-refused : goal.returns-in_default-2-clause-refused
returns-in_default-2-clause-refused g c = λ terms game made running all are.
    let first = (outcome-is (λ w. g.D.Disk.told w.disk) (λ w. g.D.Disk.size w.disk) g.U.Outlet.took g.A.App.handler (PassedIdly (λ w. g.D.Disk.told w.disk) (λ w. g.D.Disk.size w.disk) g.U.Outlet.took g.A.App.handler) c.args.self.now c.one_pass.new.self c.in_ok-outcome.outcome Idle c.in-Idle.is c.in_ok-outcome.ensures.outcome) in
    c.in_ok-outcome-2.ensures.refused terms game made (first.1 game made running all) all (c.in_ok-outcome.ensures.refused terms game made running all are)

pub returns-clause-refused : goal.returns-clause-refused
returns-clause-refused g c = λ terms game made running all are.
    let first = (outcome-is (λ w. g.D.Disk.told w.disk) (λ w. g.D.Disk.size w.disk) g.U.Outlet.took g.A.App.handler (PassedIdly (λ w. g.D.Disk.told w.disk) (λ w. g.D.Disk.size w.disk) g.U.Outlet.took g.A.App.handler) c.args.self.now c.one_pass.new.self c.in_ok-outcome.outcome Idle c.in-Idle.is c.in_ok-outcome.ensures.outcome) in
    let second = (outcome-is (λ w. g.D.Disk.told w.disk) (λ w. g.D.Disk.size w.disk) g.U.Outlet.took g.A.App.handler (PassedIdly (λ w. g.D.Disk.told w.disk) (λ w. g.D.Disk.size w.disk) g.U.Outlet.took g.A.App.handler) c.one_pass.new.self c.one_pass-2.new.self c.in_ok-outcome-2.outcome Idle c.in-Idle-2.is c.in_ok-outcome-2.ensures.outcome) in
    let up = first.1 game made running all in
    c.one_pass-3.ensures.refused terms game made (second.1 game made up all) all (c.in_ok-outcome-2.ensures.refused terms game made up all (c.in_ok-outcome.ensures.refused terms game made running all are))

pub returns-in_err-outcome-clause-refused : goal.returns-in_err-outcome-clause-refused
returns-in_err-outcome-clause-refused g c = λ terms game made running all are.
    run-refused-handed-on g.U.Outlet.faults g.U.Outlet.fate terms made c.one_pass.new.self c.from_residual.result c.in_err-outcome.field-0.0 c.from_residual.ensures.1 (c.in_err-outcome.ensures.refused terms game made running all are)

pub returns-in_err-outcome-2-clause-stops : goal.returns-in_err-outcome-2-clause-stops
returns-in_err-outcome-2-clause-stops g c = λ terms game made running all accounted are.
    let first = (outcome-is (λ w. g.D.Disk.told w.disk) (λ w. g.D.Disk.size w.disk) g.U.Outlet.took g.A.App.handler (PassedIdly (λ w. g.D.Disk.told w.disk) (λ w. g.D.Disk.size w.disk) g.U.Outlet.took g.A.App.handler) c.args.self.now c.one_pass.new.self c.in_ok-outcome.outcome Idle c.in-Idle.is c.in_ok-outcome.ensures.outcome) in
    stops-handed-on (λ w. g.D.Disk.told w.disk) (λ w. g.D.Disk.faults w.disk) (λ w. g.D.Disk.fate w.disk) g.O.Oracle.telling g.U.Outlet.faults g.U.Outlet.fate terms game made c.one_pass-2.new.self c.from_residual-in_err-outcome-2.result c.in_err-outcome-2.field-0.0 c.from_residual-in_err-outcome-2.ensures.1
    (c.in_err-outcome-2.ensures.stops terms game made (first.1 game made running all) all (c.in_ok-outcome.ensures.accounts terms game made running all accounted) (c.in_ok-outcome.ensures.refused terms game made running all are))

pub returns-clause-stops : goal.returns-clause-stops
returns-clause-stops g c = λ terms game made running all accounted are.
    let first = (outcome-is (λ w. g.D.Disk.told w.disk) (λ w. g.D.Disk.size w.disk) g.U.Outlet.took g.A.App.handler (PassedIdly (λ w. g.D.Disk.told w.disk) (λ w. g.D.Disk.size w.disk) g.U.Outlet.took g.A.App.handler) c.args.self.now c.one_pass.new.self c.in_ok-outcome.outcome Idle c.in-Idle.is c.in_ok-outcome.ensures.outcome) in
    let second = (outcome-is (λ w. g.D.Disk.told w.disk) (λ w. g.D.Disk.size w.disk) g.U.Outlet.took g.A.App.handler (PassedIdly (λ w. g.D.Disk.told w.disk) (λ w. g.D.Disk.size w.disk) g.U.Outlet.took g.A.App.handler) c.one_pass.new.self c.one_pass-2.new.self c.in_ok-outcome-2.outcome Idle c.in-Idle-2.is c.in_ok-outcome-2.ensures.outcome) in
    let up = first.1 game made running all in
    c.one_pass-3.ensures.stops terms game made (second.1 game made up all) all (c.in_ok-outcome-2.ensures.accounts terms game made up all (c.in_ok-outcome.ensures.accounts terms game made running all accounted)) (c.in_ok-outcome-2.ensures.refused terms game made up all (c.in_ok-outcome.ensures.refused terms game made running all are))

pub returns-in_err-outcome-clause-stops : goal.returns-in_err-outcome-clause-stops
returns-in_err-outcome-clause-stops g c = λ terms game made running all accounted are.
    stops-handed-on (λ w. g.D.Disk.told w.disk) (λ w. g.D.Disk.faults w.disk) (λ w. g.D.Disk.fate w.disk) g.O.Oracle.telling g.U.Outlet.faults g.U.Outlet.fate terms game made c.one_pass.new.self c.from_residual.result c.in_err-outcome.field-0.0 c.from_residual.ensures.1 (c.in_err-outcome.ensures.stops terms game made running all accounted are)

pub returns-in_err-outcome-clause-passes : goal.returns-in_err-outcome-clause-passes
returns-in_err-outcome-clause-passes g c = outcome-broken (λ w. g.D.Disk.told w.disk) (λ w. g.D.Disk.size w.disk) g.U.Outlet.took g.A.App.handler c.args.self.now c.one_pass.new.self c.from_residual.result c.in_err-outcome.field-0.0 c.from_residual.ensures.1

pub returns-in_err-outcome-2-clause-passes : goal.returns-in_err-outcome-2-clause-passes
returns-in_err-outcome-2-clause-passes g c = outcome-broken (λ w. g.D.Disk.told w.disk) (λ w. g.D.Disk.size w.disk) g.U.Outlet.took g.A.App.handler c.args.self.now c.one_pass-2.new.self c.from_residual-in_err-outcome-2.result c.in_err-outcome-2.field-0.0 c.from_residual-in_err-outcome-2.ensures.1

pub returns-in_default-2-clause-passes : goal.returns-in_default-2-clause-passes
returns-in_default-2-clause-passes g c = outcome-after (λ w. g.D.Disk.told w.disk) (λ w. g.D.Disk.size w.disk) g.U.Outlet.took g.A.App.handler c.args.self.now c.one_pass.new.self c.one_pass-2.new.self (Ok c.in_ok-outcome-2.outcome) (outcome-to (λ w. g.D.Disk.told w.disk) (λ w. g.D.Disk.size w.disk) g.U.Outlet.took g.A.App.handler c.args.self.now c.one_pass.new.self c.in_ok-outcome.outcome Idle c.in-Idle.is c.in_ok-outcome.ensures.passes) c.in_ok-outcome-2.ensures.passes

pub returns-clause-passes : goal.returns-clause-passes
returns-clause-passes g c =
    outcome-after (λ w. g.D.Disk.told w.disk) (λ w. g.D.Disk.size w.disk) g.U.Outlet.took g.A.App.handler c.args.self.now c.one_pass-2.new.self c.one_pass-3.new.self c.one_pass-3.result
    (passes-then (λ w. g.D.Disk.told w.disk) (λ w. g.D.Disk.size w.disk) g.U.Outlet.took g.A.App.handler c.args.self.now c.one_pass.new.self c.one_pass-2.new.self (outcome-to (λ w. g.D.Disk.told w.disk) (λ w. g.D.Disk.size w.disk) g.U.Outlet.took g.A.App.handler c.args.self.now c.one_pass.new.self c.in_ok-outcome.outcome Idle c.in-Idle.is c.in_ok-outcome.ensures.passes) (outcome-to (λ w. g.D.Disk.told w.disk) (λ w. g.D.Disk.size w.disk) g.U.Outlet.took g.A.App.handler c.one_pass.new.self c.one_pass-2.new.self c.in_ok-outcome-2.outcome Idle c.in-Idle-2.is c.in_ok-outcome-2.ensures.passes)) c.one_pass-3.ensures.passes
