-- A visit of one node.
use Rattle.std.proofs.Common.{inr, subst, inl}
use Rattle.ken_run.specs.Accounts.{AccountsFault}
use Rattle.ken_run.specs.Refusals.{RefusedFault}
use Rattle.ken_run.specs.Running.{LeavesFault}
use Rattle.ken_run.proofs.run.Run.visit.Goals as goal
use Rattle.ken_flow.specs.Standstill.{Visited}
use Rattle.ken_run.specs.Patched.{IsNotRestarted, IsSettledSince, WasVisited}
use Rattle.ken_run.proofs.Patched.{changes-as, err-still, restart-visited}
use Rattle.ken_run.proofs.Visits.{restarted-moves}

pub restart-requires : goal.restart-requires
restart-requires g c = record {
  game = c.requires.game;
  made = c.requires.made;
  stopped = subst (λ x. LeavesFault (λ w. g.D.Disk.told w.disk) (λ w. g.D.Disk.size w.disk) g.U.Outlet.took g.A.App.handler x c.requires.game c.requires.made c.args.node c.work.new.self) c.in-Err-Disk.field-0-is (c.in-Err-Disk.ensures.leaves c.requires.game c.requires.made c.requires.running c.requires.known);
}

pub returns-in-Ok-clause-leaves : goal.returns-in-Ok-clause-leaves
returns-in-Ok-clause-leaves g c = λ game made running low. c.in-Ok.ensures.leaves game made running low

pub returns-in-Ok-clause-accounts : goal.returns-in-Ok-clause-accounts
returns-in-Ok-clause-accounts g c = λ terms game made running low accounted. c.in-Ok.ensures.accounts terms game made running low accounted

pub returns-in-Ok-clause-moves : goal.returns-in-Ok-clause-moves
returns-in-Ok-clause-moves g c = c.in-Ok.ensures.moves

pub returns-in-Err-Disk-clause-leaves : goal.returns-in-Err-Disk-clause-leaves
returns-in-Err-Disk-clause-leaves g c = λ game made running low.
    c.restart.ensures.leaves game made (subst (λ x. LeavesFault (λ w. g.D.Disk.told w.disk) (λ w. g.D.Disk.size w.disk) g.U.Outlet.took g.A.App.handler x game made c.args.node c.work.new.self) c.in-Err-Disk.field-0-is (c.in-Err-Disk.ensures.leaves game made running low))

pub returns-in-Err-Disk-clause-accounts : goal.returns-in-Err-Disk-clause-accounts
returns-in-Err-Disk-clause-accounts g c = λ terms game made running low accounted.
    c.restart.ensures.accounts terms game made (subst (λ x. LeavesFault (λ w. g.D.Disk.told w.disk) (λ w. g.D.Disk.size w.disk) g.U.Outlet.took g.A.App.handler x game made c.args.node c.work.new.self) c.in-Err-Disk.field-0-is (c.in-Err-Disk.ensures.leaves game made running low))
    (subst (λ x. AccountsFault (λ w. g.D.Disk.told w.disk) (λ w. g.D.Disk.faults w.disk) (λ w. g.D.Disk.fate w.disk) g.O.Oracle.telling terms game x made c.args.node c.work.new.self) c.in-Err-Disk.field-0-is (c.in-Err-Disk.ensures.accounts terms game made running low accounted))

pub returns-in-Err-Disk-clause-moves : goal.returns-in-Err-Disk-clause-moves
returns-in-Err-Disk-clause-moves g c =
    restarted-moves (λ w. g.D.Disk.told w.disk) (λ w. g.D.Disk.size w.disk) g.U.Outlet.took g.A.App.handler (λ game. Visited game c.args.node) c.args.node c.args.self.now c.work.new.self c.restart.new.self c.restart.result
    (λ game made running low. c.restart.ensures.leaves game made (subst (λ x. LeavesFault (λ w. g.D.Disk.told w.disk) (λ w. g.D.Disk.size w.disk) g.U.Outlet.took g.A.App.handler x game made c.args.node c.work.new.self) c.in-Err-Disk.field-0-is (c.in-Err-Disk.ensures.leaves game made running low)))
    c.restart.ensures.worked (c.in-Err-Disk.ensures.less (let is = c.in-Err-Disk.field-0-is in cc))

pub returns-in-Err-Outlet-clause-leaves : goal.returns-in-Err-Outlet-clause-leaves
returns-in-Err-Outlet-clause-leaves g c = λ game made running low.
    inr (low, subst (λ x. LeavesFault (λ w. g.D.Disk.told w.disk) (λ w. g.D.Disk.size w.disk) g.U.Outlet.took g.A.App.handler x game made c.args.node c.work.new.self) c.in-Err-Outlet.field-0-is (c.in-Err-Outlet.ensures.leaves game made running low))

pub returns-in-Err-Outlet-clause-accounts : goal.returns-in-Err-Outlet-clause-accounts
returns-in-Err-Outlet-clause-accounts g c = λ terms game made running low accounted.
    inr (subst (λ x. AccountsFault (λ w. g.D.Disk.told w.disk) (λ w. g.D.Disk.faults w.disk) (λ w. g.D.Disk.fate w.disk) g.O.Oracle.telling terms game x made c.args.node c.work.new.self) c.in-Err-Outlet.field-0-is (c.in-Err-Outlet.ensures.accounts terms game made running low accounted))

pub returns-in-Ok-clause-refused : goal.returns-in-Ok-clause-refused
returns-in-Ok-clause-refused g c = λ terms made low are. c.in-Ok.ensures.refused terms made low are

pub returns-in-Err-Disk-clause-refused : goal.returns-in-Err-Disk-clause-refused
returns-in-Err-Disk-clause-refused g c = λ terms made low are.
    c.restart.ensures.refused terms made low (subst (λ x. RefusedFault g.U.Outlet.faults g.U.Outlet.fate terms x made c.args.node c.work.new.self) c.in-Err-Disk.field-0-is (c.in-Err-Disk.ensures.refused terms made low are))

pub returns-in-Err-Outlet-clause-refused : goal.returns-in-Err-Outlet-clause-refused
returns-in-Err-Outlet-clause-refused g c = λ terms made low are.
    let both = subst (λ x. RefusedFault g.U.Outlet.faults g.U.Outlet.fate terms x made c.args.node c.work.new.self) c.in-Err-Outlet.field-0-is (c.in-Err-Outlet.ensures.refused terms made low are) in
    (both.0, inl both.1)

pub returns-in-Err-Disk-clause-stops : goal.returns-in-Err-Disk-clause-stops
returns-in-Err-Disk-clause-stops g c = λ terms game made running low accounted are.
    c.restart.ensures.stops terms game made (subst (λ x. LeavesFault (λ w. g.D.Disk.told w.disk) (λ w. g.D.Disk.size w.disk) g.U.Outlet.took g.A.App.handler x game made c.args.node c.work.new.self) c.in-Err-Disk.field-0-is (c.in-Err-Disk.ensures.leaves game made running low))
    (subst (λ x. AccountsFault (λ w. g.D.Disk.told w.disk) (λ w. g.D.Disk.faults w.disk) (λ w. g.D.Disk.fate w.disk) g.O.Oracle.telling terms game x made c.args.node c.work.new.self) c.in-Err-Disk.field-0-is (c.in-Err-Disk.ensures.accounts terms game made running low accounted))

pub returns-in-Err-Outlet-clause-stops : goal.returns-in-Err-Outlet-clause-stops
returns-in-Err-Outlet-clause-stops g c = λ terms game made running low accounted are.
    inr (subst (λ x. RefusedFault g.U.Outlet.faults g.U.Outlet.fate terms x made c.args.node c.work.new.self) c.in-Err-Outlet.field-0-is (c.in-Err-Outlet.ensures.refused terms made low are)).1

pub returns-in-Err-Damaged-clause-leaves : goal.returns-in-Err-Damaged-clause-leaves
returns-in-Err-Damaged-clause-leaves g c = λ game made running low.
    subst (λ x. LeavesFault (λ w. g.D.Disk.told w.disk) (λ w. g.D.Disk.size w.disk) g.U.Outlet.took g.A.App.handler x game made c.args.node c.work.new.self) c.in-Err-Damaged.field-0-is (c.in-Err-Damaged.ensures.leaves game made running low)

pub returns-in-Ok-clause-visited : goal.returns-in-Ok-clause-visited
returns-in-Ok-clause-visited g c = changes-as (λ a b. IsNotRestarted a b × IsSettledSince (λ w. g.D.Disk.told w.disk) a b) (WasVisited (λ w. g.D.Disk.told w.disk)) c.args.node c.args.self.now c.work.new.self (λ a b x. inr x) c.in-Ok.ensures.called

pub returns-in-Err-Disk-clause-visited : goal.returns-in-Err-Disk-clause-visited
returns-in-Err-Disk-clause-visited g c = restart-visited (λ w. g.D.Disk.told w.disk) c.args.node c.args.self.now c.work.new.self c.restart.new.self c.restart.result (err-still c.args.node c.args.self.now c.work.new.self c.in-Err-Disk.ensures.called) c.restart.ensures.restarted
