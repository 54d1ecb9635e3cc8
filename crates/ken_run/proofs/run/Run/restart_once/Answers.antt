-- One restart of one node.
use Rattle.std.proofs.Common.{◌≡◌, ◌∙◌, ◌<◌, slice_index_or, slice_set, refl, sym, ap, subst, arith}
use Rattle.std.specs.Vec.{with_item}
use Rattle.ken_node.specs.Down.{IsDown}
use Rattle.ken_node.specs.Stages.{refusals_in}
use Rattle.ken_run.proofs.AccountsRestarts.{held-before, restart-accounts}
use Rattle.ken_run.proofs.CountsAnew.{counts-less}
use Rattle.ken_run.proofs.Leaving.{restart-leaves, restart-tried, tries-after, tries-is}
use Rattle.ken_run.proofs.Refusals.{call-refused, restart-tells-none}
use Rattle.ken_run.proofs.run.Run.restart_once.Goals as goal
use Rattle.ken_run.specs.Patched.{TriesBy}
use Rattle.ken_run.proofs.Patched.{changes-at, tries-by}
use Rattle.ken_run.proofs.Restarting.{restart-worked}

pub restart-requires-clause-may : goal.restart-requires-clause-may
restart-requires-clause-may g c =
    let stopped = c.requires.may.stopped in
    let is : slice_index_or c.args.self.now.stations.items c.args.node c.index_mut.result.now ≡ c.index_mut.result.now = sym (c.index_mut.ensures.value ∙ ap (λ k. slice_index_or c.args.self.now.stations.items k c.index_mut.result.now) c.from.ensures) in
    record {
      game = c.requires.may.game;
      node = c.args.node;
      given = stopped.given;
      stood_for = stopped.nodes c.args.node;
      doubt = stopped.doubt;
      down = subst (λ x. IsDown (λ w. g.D.Disk.told w.disk) c.requires.may.game c.args.node stopped.given (stopped.nodes c.args.node) stopped.doubt x.node.stage) is (stopped.down c.index_mut.result.now);
    }

pub restart-requires-clause-tries : goal.restart-requires-clause-tries
restart-requires-clause-tries g c =
    let stopped = c.requires.may.stopped in
    let is : slice_index_or c.args.self.now.stations.items c.args.node c.index_mut.result.now ≡ c.index_mut.result.now = sym (c.index_mut.ensures.value ∙ ap (λ k. slice_index_or c.args.self.now.stations.items k c.index_mut.result.now) c.from.ensures) in
    let tries = tries-is c.args.self.now.stations.items c.args.node c.index_mut.result.now (subst (λ n. c.args.node < n) (sym stopped.stands.width) stopped.known) ∙ ap (λ x. x.restarts) is in
    let left = c.requires.left in
    omega (arith, tries, left, c.ranges.most.fits)

pub returns-clause-leaves : goal.returns-clause-leaves
returns-clause-leaves g c = λ game made stopped.
    let is : slice_index_or c.args.self.now.stations.items c.args.node c.index_mut.result.now ≡ c.index_mut.result.now = sym (c.index_mut.ensures.value ∙ ap (λ k. slice_index_or c.args.self.now.stations.items k c.index_mut.result.now) c.from.ensures) in
    restart-leaves (λ w. g.D.Disk.told w.disk) (λ w. g.D.Disk.size w.disk) g.U.Outlet.took g.A.App.handler game made c.args.self.now (record c.args.self.now { stations = with_item c.args.self.now.stations c.from.result c.restart.new.self }) c.args.node c.index_mut.result.now c.restart.new.self stopped is (refl, refl) (ap (λ k. slice_set c.args.self.now.stations.items k c.restart.new.self) c.from.ensures)
    refl c.restart.ensures.emissions c.restart.ensures.rest c.restart.result
    (c.restart.ensures.back game c.args.node stopped.given (stopped.nodes c.args.node) stopped.doubt (subst (λ x. IsDown (λ w. g.D.Disk.told w.disk) game c.args.node stopped.given (stopped.nodes c.args.node) stopped.doubt x.node.stage) is (stopped.down c.index_mut.result.now)))

pub returns-clause-tried : goal.returns-clause-tried
returns-clause-tried g c = λ failed.
    let stopped = c.requires.may.stopped in
    let is : slice_index_or c.args.self.now.stations.items c.args.node c.index_mut.result.now ≡ c.index_mut.result.now = sym (c.index_mut.ensures.value ∙ ap (λ k. slice_index_or c.args.self.now.stations.items k c.index_mut.result.now) c.from.ensures) in
    tries-after c.args.self.now.stations.items c.from.result c.args.node c.index_mut.result.now c.restart.new.self c.from.ensures (subst (λ n. c.args.node < n) (sym stopped.stands.width) stopped.known) is
    (restart-tried (λ w. g.D.Disk.told w.disk) (λ w. g.D.Disk.size w.disk) c.requires.may.game c.args.node stopped.given (stopped.nodes c.args.node) stopped.doubt c.index_mut.result.now c.restart.new.self c.restart.result failed
    (c.restart.ensures.back c.requires.may.game c.args.node stopped.given (stopped.nodes c.args.node) stopped.doubt (subst (λ x. IsDown (λ w. g.D.Disk.told w.disk) c.requires.may.game c.args.node stopped.given (stopped.nodes c.args.node) stopped.doubt x.node.stage) is (stopped.down c.index_mut.result.now))))

pub returns-clause-accounts : goal.returns-clause-accounts
returns-clause-accounts g c = λ terms game made stopped most held.
    let is : slice_index_or c.args.self.now.stations.items c.args.node c.index_mut.result.now ≡ c.index_mut.result.now = sym (c.index_mut.ensures.value ∙ ap (λ k. slice_index_or c.args.self.now.stations.items k c.index_mut.result.now) c.from.ensures) in
    let tries = tries-is c.args.self.now.stations.items c.args.node c.index_mut.result.now (subst (λ n. c.args.node < n) (sym stopped.stands.width) stopped.known) ∙ ap (λ x. x.restarts) is in
    let left = c.requires.left in
    let h = held-before (λ w. g.D.Disk.told w.disk) (λ w. g.D.Disk.size w.disk) (λ w. g.D.Disk.faults w.disk) (λ w. g.D.Disk.fate w.disk) g.O.Oracle.telling terms game made c.args.self.now (record c.args.self.now { stations = with_item c.args.self.now.stations c.from.result c.restart.new.self }) c.args.node c.index_mut.result.now c.restart.new.self is held in
    restart-accounts (λ w. g.D.Disk.told w.disk) (λ w. g.D.Disk.size w.disk) (λ w. g.D.Disk.faults w.disk) (λ w. g.D.Disk.fate w.disk) g.O.Oracle.telling terms game made c.args.self.now (record c.args.self.now { stations = with_item c.args.self.now.stations c.from.result c.restart.new.self }) c.args.node c.index_mut.result.now c.restart.new.self is held stopped.stands.width stopped.known (ap (λ k. slice_set c.args.self.now.stations.items k c.restart.new.self) c.from.ensures) refl c.restart.result (c.restart.ensures.accounts terms game c.args.node h (omega (arith, tries, left, most)))

pub returns-clause-worked : goal.returns-clause-worked
returns-clause-worked g c = λ within.
    let stopped = c.requires.may.stopped in
    let is : slice_index_or c.args.self.now.stations.items c.args.node c.index_mut.result.now ≡ c.index_mut.result.now = sym (c.index_mut.ensures.value ∙ ap (λ k. slice_index_or c.args.self.now.stations.items k c.index_mut.result.now) c.from.ensures) in
    let tries = tries-is c.args.self.now.stations.items c.args.node c.index_mut.result.now (subst (λ n. c.args.node < n) (sym stopped.stands.width) stopped.known) ∙ ap (λ x. x.restarts) is in
    let left = c.requires.left in
    restart-worked (λ w. g.D.Disk.told w.disk) (λ w. g.D.Disk.size w.disk) g.U.Outlet.took g.A.App.handler c.requires.may.game c.requires.may.made c.args.self.now (record c.args.self.now { stations = with_item c.args.self.now.stations c.from.result c.restart.new.self }) c.args.node c.index_mut.result.now c.restart.new.self stopped is (refl, refl) (ap (λ k. slice_set c.args.self.now.stations.items k c.restart.new.self) c.from.ensures)
    refl (omega (arith, tries, left, within)) c.restart.result
    (c.restart.ensures.back c.requires.may.game c.args.node stopped.given (stopped.nodes c.args.node) stopped.doubt (subst (λ x. IsDown (λ w. g.D.Disk.told w.disk) c.requires.may.game c.args.node stopped.given (stopped.nodes c.args.node) stopped.doubt x.node.stage) is (stopped.down c.index_mut.result.now)))

pub returns-clause-refused : goal.returns-clause-refused
returns-clause-refused g c = λ terms made low are.
    let is : slice_index_or c.args.self.now.stations.items c.args.node c.index_mut.result.now ≡ c.index_mut.result.now = sym (c.index_mut.ensures.value ∙ ap (λ k. slice_index_or c.args.self.now.stations.items k c.index_mut.result.now) c.from.ensures) in
    let stopped = c.requires.may.stopped in
    call-refused g.U.Outlet.faults g.U.Outlet.fate terms made c.args.self.now (record c.args.self.now { stations = with_item c.args.self.now.stations c.from.result c.restart.new.self }) c.args.node c.index_mut.result.now c.restart.new.self low (subst (λ n. c.args.node < n) (sym stopped.stands.width) stopped.known) is (ap (λ k. slice_set c.args.self.now.stations.items k c.restart.new.self) c.from.ensures) are c.restart.result
    (restart-tells-none (λ w. g.D.Disk.told w.disk) (λ w. g.D.Disk.size w.disk) c.requires.may.game c.args.node stopped.given (stopped.nodes c.args.node) stopped.doubt c.index_mut.result.now c.restart.new.self c.restart.result
    (c.restart.ensures.back c.requires.may.game c.args.node stopped.given (stopped.nodes c.args.node) stopped.doubt (subst (λ x. IsDown (λ w. g.D.Disk.told w.disk) c.requires.may.game c.args.node stopped.given (stopped.nodes c.args.node) stopped.doubt x.node.stage) is (stopped.down c.index_mut.result.now))))
    (counts-less c.restart.result (refusals_in c.index_mut.result.now.node.stage) (refusals_in c.restart.new.self.node.stage) c.restart.ensures.refusals) (ap (λ x. x.out) c.restart.ensures.rest)

pub returns-clause-restarted : goal.returns-clause-restarted
returns-clause-restarted g c =
    let stopped = c.requires.may.stopped in
    let is : slice_index_or c.args.self.now.stations.items c.args.node c.index_mut.result.now ≡ c.index_mut.result.now = sym (c.index_mut.ensures.value ∙ ap (λ k. slice_index_or c.args.self.now.stations.items k c.index_mut.result.now) c.from.ensures) in
    changes-at c.args.node c.from.result c.args.self.now (record c.args.self.now { stations = with_item c.args.self.now.stations c.from.result c.restart.new.self }) c.index_mut.result.now c.restart.new.self c.from.ensures (subst (λ n. c.args.node < n) (sym stopped.stands.width) stopped.known) is refl (TriesBy c.restart.result)
    (tries-by (λ w. g.D.Disk.told w.disk) (λ w. g.D.Disk.size w.disk) c.requires.may.game c.args.node stopped.given (stopped.nodes c.args.node) stopped.doubt c.index_mut.result.now c.restart.new.self c.restart.result
    (c.restart.ensures.back c.requires.may.game c.args.node stopped.given (stopped.nodes c.args.node) stopped.doubt (subst (λ x. IsDown (λ w. g.D.Disk.told w.disk) c.requires.may.game c.args.node stopped.given (stopped.nodes c.args.node) stopped.doubt x.node.stage) is (stopped.down c.index_mut.result.now))))
