-- An output of one node is emitted.
use Rattle.std.proofs.Common.{◌≡◌, ◌∙◌, ◌<◌, slice_index_or, slice_set, refl, sym, ap, subst}
use Rattle.std.specs.Vec.{with_item}
use Rattle.ken_run.specs.Left.{outputs_left}
use Rattle.ken_run.proofs.Leaving.{emit-fewer, emit-leaves, fewer-at, may-call, up-before}
use Rattle.ken_run.proofs.AccountsCalls.{emit-accounts, own-accounts}
use Rattle.ken_run.proofs.Refusals.{emit-refused}
use Rattle.ken_run.proofs.run.Run.emit.Goals as goal
use Rattle.ken_flow.specs.Standstill.{Emits}
use Rattle.ken_run.proofs.Moves.{moves-from}
use Rattle.std.specs.Prelude.{OnOk}
use Rattle.ken_run.specs.Patched.{IsNotRestarted, KeepsImage}
use Rattle.ken_run.proofs.Patched.{changes-at, emit-keeps}
use Rattle.ken_run.proofs.Moving.{emit-less, emit-moves}

pub emit-requires : goal.emit-requires
emit-requires g c =
    let is : slice_index_or c.args.self.now.stations.items c.args.node c.index_mut.result.now ≡ c.index_mut.result.now = sym (c.index_mut.ensures.value ∙ ap (λ k. slice_index_or c.args.self.now.stations.items k c.index_mut.result.now) c.from.ensures) in
    may-call (λ w. g.D.Disk.told w.disk) (λ w. g.D.Disk.size w.disk) g.U.Outlet.took g.A.App.handler c.requires.game c.requires.made c.args.self.now c.args.node c.index_mut.result.now c.requires.running c.requires.known is

pub returns-clause-leaves : goal.returns-clause-leaves
returns-clause-leaves g c = λ game made running low.
    let is : slice_index_or c.args.self.now.stations.items c.args.node c.index_mut.result.now ≡ c.index_mut.result.now = sym (c.index_mut.ensures.value ∙ ap (λ k. slice_index_or c.args.self.now.stations.items k c.index_mut.result.now) c.from.ensures) in
    let up = up-before (λ w. g.D.Disk.told w.disk) (λ w. g.D.Disk.size w.disk) g.U.Outlet.took g.A.App.handler game made c.args.self.now c.args.node c.index_mut.result.now running low is in
    emit-leaves (λ w. g.D.Disk.told w.disk) (λ w. g.D.Disk.size w.disk) g.U.Outlet.took g.A.App.handler game made c.args.self.now (record c.args.self.now { stations = with_item c.args.self.now.stations c.from.result c.emit.new.self }) c.args.node c.index_mut.result.now c.emit.new.self running low is (refl, refl) (ap (λ k. slice_set c.args.self.now.stations.items k c.emit.new.self) c.from.ensures)
    c.emit.ensures.rest refl c.emit.result (c.emit.ensures.steps game c.args.node (running.nodes c.args.node) up)

pub returns-clause-fewer : goal.returns-clause-fewer
returns-clause-fewer g c = λ number was.
    let game = c.requires.game in
    let running = c.requires.running in
    let is : slice_index_or c.args.self.now.stations.items c.args.node c.index_mut.result.now ≡ c.index_mut.result.now = sym (c.index_mut.ensures.value ∙ ap (λ k. slice_index_or c.args.self.now.stations.items k c.index_mut.result.now) c.from.ensures) in
    let up = up-before (λ w. g.D.Disk.told w.disk) (λ w. g.D.Disk.size w.disk) g.U.Outlet.took g.A.App.handler game c.requires.made c.args.self.now c.args.node c.index_mut.result.now running c.requires.known is in
    fewer-at outputs_left c.args.self.now.stations.items c.from.result c.args.node c.index_mut.result.now c.emit.new.self c.from.ensures (subst (λ n. c.args.node < n) (sym running.stands.width) c.requires.known) is
    (emit-fewer (λ w. g.D.Disk.told w.disk) (λ w. g.D.Disk.size w.disk) g.U.Outlet.took g.A.App.handler game c.requires.made c.args.self.now (record c.args.self.now { stations = with_item c.args.self.now.stations c.from.result c.emit.new.self }) c.args.node c.index_mut.result.now c.emit.new.self running c.requires.known is (refl, refl) (ap (λ k. slice_set c.args.self.now.stations.items k c.emit.new.self) c.from.ensures)
    c.emit.ensures.rest refl c.emit.result number was (c.emit.ensures.steps game c.args.node (running.nodes c.args.node) up))

pub returns-clause-accounts : goal.returns-clause-accounts
returns-clause-accounts g c = λ terms game made running low accounted.
    let is : slice_index_or c.args.self.now.stations.items c.args.node c.index_mut.result.now ≡ c.index_mut.result.now = sym (c.index_mut.ensures.value ∙ ap (λ k. slice_index_or c.args.self.now.stations.items k c.index_mut.result.now) c.from.ensures) in
    let up = up-before (λ w. g.D.Disk.told w.disk) (λ w. g.D.Disk.size w.disk) g.U.Outlet.took g.A.App.handler game made c.args.self.now c.args.node c.index_mut.result.now running low is in
    let was = own-accounts (λ w. g.D.Disk.told w.disk) (λ w. g.D.Disk.faults w.disk) (λ w. g.D.Disk.fate w.disk) g.O.Oracle.telling terms game made c.args.self.now c.args.node c.index_mut.result.now low is accounted in
    emit-accounts (λ w. g.D.Disk.told w.disk) (λ w. g.D.Disk.size w.disk) (λ w. g.D.Disk.faults w.disk) (λ w. g.D.Disk.fate w.disk) g.O.Oracle.telling terms game made c.args.self.now (record c.args.self.now { stations = with_item c.args.self.now.stations c.from.result c.emit.new.self }) c.args.node c.index_mut.result.now c.emit.new.self
    (running.nodes c.args.node) up running.stands.width low is (ap (λ k. slice_set c.args.self.now.stations.items k c.emit.new.self) c.from.ensures) refl accounted
    (ap (λ x. x.luck) c.emit.ensures.rest) (ap (λ x. x.lines.items) c.emit.ensures.rest) (ap (λ x. x.restarts) c.emit.ensures.rest) (c.emit.ensures.synced game c.args.node was.books.synced) c.emit.ensures.disks _ c.emit.result (c.emit.ensures.steps game c.args.node (running.nodes c.args.node) up)

pub returns-clause-moves : goal.returns-clause-moves
returns-clause-moves g c =
    moves-from (λ w. g.D.Disk.told w.disk) (λ w. g.D.Disk.size w.disk) g.U.Outlet.took g.A.App.handler (λ game. Emits c.args.node) c.args.node c.args.self.now (record c.args.self.now { stations = with_item c.args.self.now.stations c.from.result c.emit.new.self }) c.emit.result
    (λ game made running low.
    let is : slice_index_or c.args.self.now.stations.items c.args.node c.index_mut.result.now ≡ c.index_mut.result.now = sym (c.index_mut.ensures.value ∙ ap (λ k. slice_index_or c.args.self.now.stations.items k c.index_mut.result.now) c.from.ensures) in
    let up = up-before (λ w. g.D.Disk.told w.disk) (λ w. g.D.Disk.size w.disk) g.U.Outlet.took g.A.App.handler game made c.args.self.now c.args.node c.index_mut.result.now running low is in
    emit-moves (λ w. g.D.Disk.told w.disk) (λ w. g.D.Disk.size w.disk) g.U.Outlet.took g.A.App.handler game made c.args.self.now (record c.args.self.now { stations = with_item c.args.self.now.stations c.from.result c.emit.new.self }) c.args.node c.index_mut.result.now c.emit.new.self running low is (refl, refl) (ap (λ k. slice_set c.args.self.now.stations.items k c.emit.new.self) c.from.ensures) refl
    c.emit.ensures.rest refl c.emit.result (c.emit.ensures.steps game c.args.node (running.nodes c.args.node) up))

pub returns-clause-less : goal.returns-clause-less
returns-clause-less g c = λ was.
    let game = c.requires.game in
    let made = c.requires.made in
    let running = c.requires.running in
    let low = c.requires.known in
    let is : slice_index_or c.args.self.now.stations.items c.args.node c.index_mut.result.now ≡ c.index_mut.result.now = sym (c.index_mut.ensures.value ∙ ap (λ k. slice_index_or c.args.self.now.stations.items k c.index_mut.result.now) c.from.ensures) in
    let up = up-before (λ w. g.D.Disk.told w.disk) (λ w. g.D.Disk.size w.disk) g.U.Outlet.took g.A.App.handler game made c.args.self.now c.args.node c.index_mut.result.now running low is in
    emit-less (λ w. g.D.Disk.told w.disk) (λ w. g.D.Disk.size w.disk) g.U.Outlet.took g.A.App.handler game made c.args.self.now (record c.args.self.now { stations = with_item c.args.self.now.stations c.from.result c.emit.new.self }) c.args.node c.index_mut.result.now c.emit.new.self running low is (refl, refl) (ap (λ k. slice_set c.args.self.now.stations.items k c.emit.new.self) c.from.ensures) refl
    c.emit.ensures.rest refl c.emit.result was (c.emit.ensures.steps game c.args.node (running.nodes c.args.node) up)

pub returns-clause-refused : goal.returns-clause-refused
returns-clause-refused g c = λ terms made low are.
    let is : slice_index_or c.args.self.now.stations.items c.args.node c.index_mut.result.now ≡ c.index_mut.result.now = sym (c.index_mut.ensures.value ∙ ap (λ k. slice_index_or c.args.self.now.stations.items k c.index_mut.result.now) c.from.ensures) in
    let up = up-before (λ w. g.D.Disk.told w.disk) (λ w. g.D.Disk.size w.disk) g.U.Outlet.took g.A.App.handler c.requires.game c.requires.made c.args.self.now c.args.node c.index_mut.result.now c.requires.running c.requires.known is in
    emit-refused g.U.Outlet.faults g.U.Outlet.fate terms made c.args.self.now (record c.args.self.now { stations = with_item c.args.self.now.stations c.from.result c.emit.new.self }) c.args.node c.index_mut.result.now c.emit.new.self low (subst (λ n. c.args.node < n) (sym c.requires.running.stands.width) c.requires.known) is (ap (λ k. slice_set c.args.self.now.stations.items k c.emit.new.self) c.from.ensures) are (λ w. g.D.Disk.told w.disk) (λ w. g.D.Disk.size w.disk) c.requires.game (c.requires.running.nodes c.args.node) _ c.emit.result (c.emit.ensures.steps c.requires.game c.args.node (c.requires.running.nodes c.args.node) up) c.emit.ensures.cause c.emit.ensures.fate

pub returns-clause-called : goal.returns-clause-called
returns-clause-called g c =
    let is : slice_index_or c.args.self.now.stations.items c.args.node c.index_mut.result.now ≡ c.index_mut.result.now = sym (c.index_mut.ensures.value ∙ ap (λ k. slice_index_or c.args.self.now.stations.items k c.index_mut.result.now) c.from.ensures) in
    let up = up-before (λ w. g.D.Disk.told w.disk) (λ w. g.D.Disk.size w.disk) g.U.Outlet.took g.A.App.handler c.requires.game c.requires.made c.args.self.now c.args.node c.index_mut.result.now c.requires.running c.requires.known is in
    changes-at c.args.node c.from.result c.args.self.now (record c.args.self.now { stations = with_item c.args.self.now.stations c.from.result c.emit.new.self }) c.index_mut.result.now c.emit.new.self c.from.ensures (subst (λ n. c.args.node < n) (sym c.requires.running.stands.width) c.requires.known) is refl (λ a b. IsNotRestarted a b × OnOk c.emit.result (KeepsImage (λ w. g.D.Disk.told w.disk) a b))
    (record { tries = ap (λ x. x.restarts) c.emit.ensures.rest; lines = ap (λ x. x.lines.items) c.emit.ensures.rest }, emit-keeps (λ w. g.D.Disk.told w.disk) (λ w. g.D.Disk.size w.disk) c.requires.game c.args.node (c.requires.running.nodes c.args.node) c.index_mut.result.now c.emit.new.self up _ c.emit.result c.emit.ensures.disks (c.emit.ensures.steps c.requires.game c.args.node (c.requires.running.nodes c.args.node) up))
