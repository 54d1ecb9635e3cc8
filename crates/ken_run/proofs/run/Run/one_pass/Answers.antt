-- One pass more.
use Rattle.std.proofs.Common.{arith}
use Rattle.ken_run.specs.Draining.{PassedIdly}
use Rattle.ken_run.proofs.Draining.{outcome-failed, few-stations, may-go-on, may-still, passed-ended, passed-idly, passed-same, passed-whole}
use Rattle.ken_run.proofs.AccountsRestarts.{run-accounts-handed-on}
use Rattle.ken_run.proofs.Refusals.{run-refused-handed-on, stops-handed-on}
use Rattle.ken_run.proofs.Drained.{outcome-broken, pass-first, pass-last}
use Rattle.ken_run.proofs.run.Run.one_pass.Goals as goal

pub pass-requires : goal.pass-requires
pass-requires g c = may-go-on (λ w. g.D.Disk.told w.disk) (λ w. g.D.Disk.size w.disk) g.U.Outlet.took g.A.App.handler c.args.self.now c.requires.may

pub returns-in_err-pass-clause-outcome : goal.returns-in_err-pass-clause-outcome
returns-in_err-pass-clause-outcome g c =
    outcome-failed (λ w. g.D.Disk.told w.disk) (λ w. g.D.Disk.size w.disk) g.U.Outlet.took g.A.App.handler (PassedIdly (λ w. g.D.Disk.told w.disk) (λ w. g.D.Disk.size w.disk) g.U.Outlet.took g.A.App.handler) c.args.self.now c.pass.new.self c.from_residual.result c.in_err-pass.field-0.0 c.from_residual.ensures.1 (λ game made running all. c.in_err-pass.ensures.leaves game made running)

pub has_ended-requires : goal.has_ended-requires
has_ended-requires g c = may-go-on (λ w. g.D.Disk.told w.disk) (λ w. g.D.Disk.size w.disk) g.U.Outlet.took g.A.App.handler c.pass.new.self (may-still (λ w. g.D.Disk.told w.disk) (λ w. g.D.Disk.size w.disk) g.U.Outlet.took g.A.App.handler c.args.self.now c.pass.new.self (passed-whole (λ w. g.D.Disk.told w.disk) (λ w. g.D.Disk.size w.disk) g.U.Outlet.took g.A.App.handler c.args.self.now c.pass.new.self (λ game made running. c.in_ok-pass.ensures.leaves game made running) c.in_ok-pass.ensures.moves) c.requires.may)

pub returns-then-has_ended-clause-outcome : goal.returns-then-has_ended-clause-outcome
returns-then-has_ended-clause-outcome g c = passed-ended (λ w. g.D.Disk.told w.disk) (λ w. g.D.Disk.size w.disk) g.U.Outlet.took g.A.App.handler c.args.self.now c.pass.new.self (λ game made running. c.in_ok-pass.ensures.leaves game made running) c.in_ok-pass.ensures.moves (c.has_ended.ensures.ended c.if-has_ended.true)

pub left-requires : goal.left-requires
left-requires g c = few-stations (λ w. g.D.Disk.told w.disk) (λ w. g.D.Disk.size w.disk) g.U.Outlet.took g.A.App.handler c.pass.new.self (may-still (λ w. g.D.Disk.told w.disk) (λ w. g.D.Disk.size w.disk) g.U.Outlet.took g.A.App.handler c.args.self.now c.pass.new.self (passed-whole (λ w. g.D.Disk.told w.disk) (λ w. g.D.Disk.size w.disk) g.U.Outlet.took g.A.App.handler c.args.self.now c.pass.new.self (λ game made running. c.in_ok-pass.ensures.leaves game made running) c.in_ok-pass.ensures.moves) c.requires.may)

pub returns-then-left-clause-outcome : goal.returns-then-left-clause-outcome
returns-then-left-clause-outcome g c =
    let was = c.requires.left in
    let now = c.left.ensures in
    let less = c.if-left.true in
    ((passed-whole (λ w. g.D.Disk.told w.disk) (λ w. g.D.Disk.size w.disk) g.U.Outlet.took g.A.App.handler c.args.self.now c.pass.new.self (λ game made running. c.in_ok-pass.ensures.leaves game made running) c.in_ok-pass.ensures.moves), omega (arith, was, now, less))

pub returns-clause-outcome : goal.returns-clause-outcome
returns-clause-outcome g c =
    let was = c.requires.left in
    let now = c.left.ensures in
    let more = c.if-left.false in
    (passed-idly (λ w. g.D.Disk.told w.disk) (λ w. g.D.Disk.size w.disk) g.U.Outlet.took g.A.App.handler c.args.self.now c.pass.new.self (λ game made running. c.in_ok-pass.ensures.leaves game made running) c.in_ok-pass.ensures.moves (omega (arith, was, now, more)) (c.has_ended.ensures.goes_on c.if-has_ended.false), (passed-whole (λ w. g.D.Disk.told w.disk) (λ w. g.D.Disk.size w.disk) g.U.Outlet.took g.A.App.handler c.args.self.now c.pass.new.self (λ game made running. c.in_ok-pass.ensures.leaves game made running) c.in_ok-pass.ensures.moves), passed-same (λ w. g.D.Disk.told w.disk) (λ w. g.D.Disk.size w.disk) g.U.Outlet.took g.A.App.handler c.args.self.now c.pass.new.self (λ game made running. c.in_ok-pass.ensures.leaves game made running) c.in_ok-pass.ensures.moves c.requires.may (omega (arith, was, now, more)))

pub returns-in_err-pass-clause-accounts : goal.returns-in_err-pass-clause-accounts
returns-in_err-pass-clause-accounts g c = λ terms game made running all accounted.
    run-accounts-handed-on (λ w. g.D.Disk.told w.disk) (λ w. g.D.Disk.faults w.disk) (λ w. g.D.Disk.fate w.disk) g.O.Oracle.telling terms game made c.pass.new.self c.from_residual.result c.in_err-pass.field-0.0 c.from_residual.ensures.1 (c.in_err-pass.ensures.accounts terms game made running accounted)

pub returns-then-has_ended-clause-accounts : goal.returns-then-has_ended-clause-accounts
returns-then-has_ended-clause-accounts g c = λ terms game made running all accounted. c.in_ok-pass.ensures.accounts terms game made running accounted

pub returns-then-left-clause-accounts : goal.returns-then-left-clause-accounts
returns-then-left-clause-accounts g c = λ terms game made running all accounted. c.in_ok-pass.ensures.accounts terms game made running accounted

pub returns-clause-accounts : goal.returns-clause-accounts
returns-clause-accounts g c = λ terms game made running all accounted. c.in_ok-pass.ensures.accounts terms game made running accounted

pub returns-in_err-pass-clause-refused : goal.returns-in_err-pass-clause-refused
returns-in_err-pass-clause-refused g c = λ terms game made running all are.
    let count = running.stands.count in
    run-refused-handed-on g.U.Outlet.faults g.U.Outlet.fate terms made c.pass.new.self c.from_residual.result c.in_err-pass.field-0.0 c.from_residual.ensures.1 (c.in_err-pass.ensures.refused terms made (omega (arith, count)) are)

pub returns-then-has_ended-clause-refused : goal.returns-then-has_ended-clause-refused
returns-then-has_ended-clause-refused g c = λ terms game made running all are. let count = running.stands.count in c.in_ok-pass.ensures.refused terms made (omega (arith, count)) are

pub returns-then-left-clause-refused : goal.returns-then-left-clause-refused
returns-then-left-clause-refused g c = λ terms game made running all are. let count = running.stands.count in c.in_ok-pass.ensures.refused terms made (omega (arith, count)) are

pub returns-clause-refused : goal.returns-clause-refused
returns-clause-refused g c = λ terms game made running all are. let count = running.stands.count in c.in_ok-pass.ensures.refused terms made (omega (arith, count)) are

pub returns-in_err-pass-clause-stops : goal.returns-in_err-pass-clause-stops
returns-in_err-pass-clause-stops g c = λ terms game made running all accounted are.
    stops-handed-on (λ w. g.D.Disk.told w.disk) (λ w. g.D.Disk.faults w.disk) (λ w. g.D.Disk.fate w.disk) g.O.Oracle.telling g.U.Outlet.faults g.U.Outlet.fate terms game made c.pass.new.self c.from_residual.result c.in_err-pass.field-0.0 c.from_residual.ensures.1 (c.in_err-pass.ensures.stops terms game made running accounted are)

pub returns-in_err-pass-clause-passes : goal.returns-in_err-pass-clause-passes
returns-in_err-pass-clause-passes g c = outcome-broken (λ w. g.D.Disk.told w.disk) (λ w. g.D.Disk.size w.disk) g.U.Outlet.took g.A.App.handler c.args.self.now c.pass.new.self c.from_residual.result c.in_err-pass.field-0.0 c.from_residual.ensures.1

pub returns-then-has_ended-clause-passes : goal.returns-then-has_ended-clause-passes
returns-then-has_ended-clause-passes g c = pass-last (λ w. g.D.Disk.told w.disk) (λ w. g.D.Disk.size w.disk) g.U.Outlet.took g.A.App.handler c.args.self.now c.pass.new.self c.in_ok-pass.ensures.visited

pub returns-then-left-clause-passes : goal.returns-then-left-clause-passes
returns-then-left-clause-passes g c = pass-first (λ w. g.D.Disk.told w.disk) (λ w. g.D.Disk.size w.disk) g.U.Outlet.took g.A.App.handler c.args.self.now c.pass.new.self c.in_ok-pass.ensures.visited (c.has_ended.ensures.goes_on c.if-has_ended.false)

pub returns-clause-passes : goal.returns-clause-passes
returns-clause-passes g c = pass-first (λ w. g.D.Disk.told w.disk) (λ w. g.D.Disk.size w.disk) g.U.Outlet.took g.A.App.handler c.args.self.now c.pass.new.self c.in_ok-pass.ensures.visited (c.has_ended.ensures.goes_on c.if-has_ended.false)
