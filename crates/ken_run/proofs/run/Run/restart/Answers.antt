-- One restart after another, until one answers.
use Rattle.std.proofs.Common.{◌<◌, inl, sym, subst, arith, inr, ◌∙◌, Err, refl}
use Rattle.ken_run.specs.Accounts.{AccountsFault}
use Rattle.ken_run.specs.Refusals.{RefusedFault}
use Rattle.ken_run.specs.Running.{LeavesFault}
use Rattle.ken_run.proofs.AccountsRestarts.{used-up}
use Rattle.ken_run.proofs.Refusals.{used-up-of}
use Rattle.ken_run.proofs.run.Run.restart.Goals as goal
use Rattle.ken_ship.specs.declared.faults.NodeFault.{NodeFault}
use Rattle.ken_node.specs.NodeCalls.{UnlessMemory}
use Rattle.ken_ship.specs.declared.faults.NodeFault.TheVariants.{Disk}
use Rattle.ken_run.specs.Patched.{Changes, TriesBy, WasRestarted}
use Rattle.ken_run.proofs.Patched.{MayHaveTried, changes-none, changes-then, none-tried, tried-last, tried-more}
use Rattle.ken_run.specs.Flowing.{work_left}

pub tries-init : goal.tries-init
tries-init g c = record { tried = changes-none MayHaveTried c.args.node c.args.self.now none-tried; refused = λ terms made low are. are; most_was = refl; accounts = λ terms game made stopped held. held; down = λ game made stopped. stopped; less = omega arith; most_is = refl }

pub tries-requires : goal.tries-requires
tries-requires g c = let stopped = c.tries.invariant.down c.requires.game c.requires.made c.requires.stopped in subst (λ n. c.args.node < n) (sym stopped.stands.width) stopped.known

pub restart_once-requires-clause-may : goal.restart_once-requires-clause-may
restart_once-requires-clause-may g c = record { game = c.requires.game; made = c.requires.made; stopped = c.tries.invariant.down c.requires.game c.requires.made c.requires.stopped }

pub returns-in-Ok-clause-leaves : goal.returns-in-Ok-clause-leaves
returns-in-Ok-clause-leaves g c = λ game made stopped. c.in-Ok.ensures.leaves game made (c.tries.invariant.down game made stopped)

pub returns-in-Ok-clause-accounts : goal.returns-in-Ok-clause-accounts
returns-in-Ok-clause-accounts g c = λ terms game made stopped held. c.in-Ok.ensures.accounts terms game made (c.tries.invariant.down game made stopped) held.most (c.tries.invariant.accounts terms game made stopped held)

pub returns-in-Ok-clause-worked : goal.returns-in-Ok-clause-worked
returns-in-Ok-clause-worked g c =
    let most = c.tries.invariant.most_is in
    let less = c.tries.invariant.less in
    let worked = c.in-Ok.ensures.worked (omega (arith, most)) in
    omega (arith, less, worked)

pub tries-preserved : goal.tries-preserved
tries-preserved g c = record {
  down = λ game made stopped.
      subst (λ x. LeavesFault (λ w. g.D.Disk.told w.disk) (λ w. g.D.Disk.size w.disk) g.U.Outlet.took g.A.App.handler x game made c.args.node c.restart_once.new.self) c.in-Err-Disk.field-0-is (c.in-Err-Disk.ensures.leaves game made (c.tries.invariant.down game made stopped));
  less =
      let most = c.tries.invariant.most_is in
      let less = c.tries.invariant.less in
      let worked : work_left c.restart_once.new.self < work_left c.tries.self =
      subst (λ (x : NodeFault). UnlessMemory {T = Unit {0}} (Err x) (work_left c.restart_once.new.self < work_left c.tries.self)) c.in-Err-Disk.field-0-is (c.in-Err-Disk.ensures.worked (omega (arith, most))) in
      omega (arith, less, worked);
  most_is = c.tries.invariant.most_is ∙ sym c.restart_once.ensures.same;
  accounts = λ terms game made stopped held.
      subst (λ x. AccountsFault (λ w. g.D.Disk.told w.disk) (λ w. g.D.Disk.faults w.disk) (λ w. g.D.Disk.fate w.disk) g.O.Oracle.telling terms game x made c.args.node c.restart_once.new.self) c.in-Err-Disk.field-0-is (c.in-Err-Disk.ensures.accounts terms game made (c.tries.invariant.down game made stopped) held.most (c.tries.invariant.accounts terms game made stopped held));
  refused = λ terms made low are.
      subst (λ x. RefusedFault g.U.Outlet.faults g.U.Outlet.fate terms x made c.args.node c.restart_once.new.self) c.in-Err-Disk.field-0-is (c.in-Err-Disk.ensures.refused terms made low (c.tries.invariant.refused terms made low are));
  tried = changes-then MayHaveTried (TriesBy (Err Disk)) MayHaveTried c.args.node c.args.self.now c.tries.self c.restart_once.new.self tried-more c.tries.invariant.tried
      (subst (λ (x : NodeFault). Changes (TriesBy (Err x)) c.args.node c.tries.self c.restart_once.new.self) c.in-Err-Disk.field-0-is c.in-Err-Disk.ensures.restarted);
  most_was = c.in-Err-Disk.ensures.same ∙ c.tries.invariant.most_was;
}

pub returns-clause-leaves : goal.returns-clause-leaves
returns-clause-leaves g c = λ game made stopped. inl (c.tries.invariant.down game made stopped)

pub returns-clause-accounts : goal.returns-clause-accounts
returns-clause-accounts g c = λ terms game made stopped held.
    let now = c.tries.invariant.down game made stopped in
    inl (used-up (λ w. g.D.Disk.told w.disk) (λ w. g.D.Disk.faults w.disk) (λ w. g.D.Disk.fate w.disk) g.O.Oracle.telling terms game made c.args.node c.tries.self (subst (λ n. c.args.node < n) (sym now.stands.width) now.known) (omega (arith, c.tries-test.false, held.most)) (c.tries.invariant.accounts terms game made stopped held))

pub returns-in-Ok-clause-refused : goal.returns-in-Ok-clause-refused
returns-in-Ok-clause-refused g c = λ terms made low are. c.in-Ok.ensures.refused terms made low (c.tries.invariant.refused terms made low are)

pub returns-clause-refused : goal.returns-clause-refused
returns-clause-refused g c = λ terms made low are.
    let now = c.tries.invariant.down c.requires.game c.requires.made c.requires.stopped in
    let most = c.tries.invariant.most_was in
    (c.tries.invariant.refused terms made low are, inr (used-up-of c.args.node c.tries.self (subst (λ n. c.args.node < n) (sym now.stands.width) now.known) (omega (arith, c.tries-test.false, most))))

pub returns-clause-stops : goal.returns-clause-stops
returns-clause-stops g c = λ terms game made stopped held.
    let now = c.tries.invariant.down game made stopped in
    inl (used-up (λ w. g.D.Disk.told w.disk) (λ w. g.D.Disk.faults w.disk) (λ w. g.D.Disk.fate w.disk) g.O.Oracle.telling terms game made c.args.node c.tries.self (subst (λ n. c.args.node < n) (sym now.stands.width) now.known) (omega (arith, c.tries-test.false, held.most)) (c.tries.invariant.accounts terms game made stopped held))

pub returns-in-Err-Damaged-clause-leaves : goal.returns-in-Err-Damaged-clause-leaves
returns-in-Err-Damaged-clause-leaves g c = λ game made stopped.
    subst (λ x. LeavesFault (λ w. g.D.Disk.told w.disk) (λ w. g.D.Disk.size w.disk) g.U.Outlet.took g.A.App.handler x game made c.args.node c.restart_once.new.self) c.in-Err-Damaged.field-0-is (c.in-Err-Damaged.ensures.leaves game made (c.tries.invariant.down game made stopped))

pub returns-in-Ok-clause-restarted : goal.returns-in-Ok-clause-restarted
returns-in-Ok-clause-restarted g c = changes-then MayHaveTried WasRestarted WasRestarted c.args.node c.args.self.now c.tries.self c.restart_once.new.self tried-last c.tries.invariant.tried c.in-Ok.ensures.restarted
