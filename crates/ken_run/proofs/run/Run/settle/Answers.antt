-- The image of one node is synced.
use Rattle.std.proofs.Common.{◌≡◌, ◌∙◌, slice_index_or, slice_set, refl, sym, ap, arith, subst, ◌<◌}
use Rattle.std.specs.Vec.{with_item}
use Rattle.ken_run.proofs.Leaving.{may-call, settle-leaves, up-before}
use Rattle.ken_run.proofs.AccountsCalls.{own-accounts, settle-accounts}
use Rattle.ken_run.proofs.Refusals.{call-refused, settle-tells-none}
use Rattle.ken_run.proofs.run.Run.settle.Goals as goal
use Rattle.ken_flow.specs.Standstill.{Written}
use Rattle.ken_run.proofs.Moves.{moves-from}
use Rattle.std.specs.Prelude.{OnOk}
use Rattle.ken_run.specs.Patched.{IsNotRestarted, HasSettled}
use Rattle.ken_run.proofs.Patched.{changes-at, settle-settled}
use Rattle.ken_run.proofs.Moving.{settle-less, settle-moves}

pub settle-requires : goal.settle-requires
settle-requires g c =
    let is : slice_index_or c.args.self.now.stations.items c.args.node c.index_mut.result.now ≡ c.index_mut.result.now = sym (c.index_mut.ensures.value ∙ ap (λ k. slice_index_or c.args.self.now.stations.items k c.index_mut.result.now) c.from.ensures) in
    may-call (λ w. g.D.Disk.told w.disk) (λ w. g.D.Disk.size w.disk) g.U.Outlet.took g.A.App.handler c.requires.game c.requires.made c.args.self.now c.args.node c.index_mut.result.now c.requires.running c.requires.known is

pub returns-clause-leaves : goal.returns-clause-leaves
returns-clause-leaves g c = λ game made running low.
    let is : slice_index_or c.args.self.now.stations.items c.args.node c.index_mut.result.now ≡ c.index_mut.result.now = sym (c.index_mut.ensures.value ∙ ap (λ k. slice_index_or c.args.self.now.stations.items k c.index_mut.result.now) c.from.ensures) in
    let up = up-before (λ w. g.D.Disk.told w.disk) (λ w. g.D.Disk.size w.disk) g.U.Outlet.took g.A.App.handler game made c.args.self.now c.args.node c.index_mut.result.now running low is in
    settle-leaves (λ w. g.D.Disk.told w.disk) (λ w. g.D.Disk.size w.disk) g.U.Outlet.took g.A.App.handler game made c.args.self.now (record c.args.self.now { stations = with_item c.args.self.now.stations c.from.result (record c.index_mut.result.now { node = c.settle.new.self }) }) c.args.node c.index_mut.result.now (record c.index_mut.result.now { node = c.settle.new.self }) running low is (refl, refl) (ap (λ k. slice_set c.args.self.now.stations.items k (record c.index_mut.result.now { node = c.settle.new.self })) c.from.ensures)
    refl c.settle.ensures.emissions refl c.settle.result (c.settle.ensures.steps game c.args.node (running.nodes c.args.node) up)

pub returns-clause-accounts : goal.returns-clause-accounts
returns-clause-accounts g c = λ terms game made running low accounted.
    let is : slice_index_or c.args.self.now.stations.items c.args.node c.index_mut.result.now ≡ c.index_mut.result.now = sym (c.index_mut.ensures.value ∙ ap (λ k. slice_index_or c.args.self.now.stations.items k c.index_mut.result.now) c.from.ensures) in
    let up = up-before (λ w. g.D.Disk.told w.disk) (λ w. g.D.Disk.size w.disk) g.U.Outlet.took g.A.App.handler game made c.args.self.now c.args.node c.index_mut.result.now running low is in
    let was = own-accounts (λ w. g.D.Disk.told w.disk) (λ w. g.D.Disk.faults w.disk) (λ w. g.D.Disk.fate w.disk) g.O.Oracle.telling terms game made c.args.self.now c.args.node c.index_mut.result.now low is accounted in
    settle-accounts (λ w. g.D.Disk.told w.disk) (λ w. g.D.Disk.size w.disk) (λ w. g.D.Disk.faults w.disk) (λ w. g.D.Disk.fate w.disk) g.O.Oracle.telling terms game made c.args.self.now (record c.args.self.now { stations = with_item c.args.self.now.stations c.from.result (record c.index_mut.result.now { node = c.settle.new.self }) }) c.args.node c.index_mut.result.now (record c.index_mut.result.now { node = c.settle.new.self })
    (running.nodes c.args.node) up running.stands.width low is (ap (λ k. slice_set c.args.self.now.stations.items k (record c.index_mut.result.now { node = c.settle.new.self })) c.from.ensures) refl accounted
    refl refl refl (c.settle.ensures.synced game c.args.node was.books.synced) c.settle.ensures.emissions c.settle.result (c.settle.ensures.steps game c.args.node (running.nodes c.args.node) up) c.settle.ensures.disks

pub returns-clause-moves : goal.returns-clause-moves
returns-clause-moves g c =
    moves-from (λ w. g.D.Disk.told w.disk) (λ w. g.D.Disk.size w.disk) g.U.Outlet.took g.A.App.handler (λ game. Written c.args.node) c.args.node c.args.self.now (record c.args.self.now { stations = with_item c.args.self.now.stations c.from.result (record c.index_mut.result.now { node = c.settle.new.self }) }) c.settle.result
    (λ game made running low.
    let is : slice_index_or c.args.self.now.stations.items c.args.node c.index_mut.result.now ≡ c.index_mut.result.now = sym (c.index_mut.ensures.value ∙ ap (λ k. slice_index_or c.args.self.now.stations.items k c.index_mut.result.now) c.from.ensures) in
    let up = up-before (λ w. g.D.Disk.told w.disk) (λ w. g.D.Disk.size w.disk) g.U.Outlet.took g.A.App.handler game made c.args.self.now c.args.node c.index_mut.result.now running low is in
    settle-moves (λ w. g.D.Disk.told w.disk) (λ w. g.D.Disk.size w.disk) g.U.Outlet.took g.A.App.handler game made c.args.self.now (record c.args.self.now { stations = with_item c.args.self.now.stations c.from.result (record c.index_mut.result.now { node = c.settle.new.self }) }) c.args.node c.index_mut.result.now (record c.index_mut.result.now { node = c.settle.new.self }) running low is (refl, refl) (ap (λ k. slice_set c.args.self.now.stations.items k (record c.index_mut.result.now { node = c.settle.new.self })) c.from.ensures) refl
    refl c.settle.ensures.emissions c.settle.ensures.refusals refl c.settle.result (c.settle.ensures.steps game c.args.node (running.nodes c.args.node) up))

pub returns-clause-less : goal.returns-clause-less
returns-clause-less g c = λ was.
    let game = c.requires.game in
    let made = c.requires.made in
    let running = c.requires.running in
    let low = c.requires.known in
    let is : slice_index_or c.args.self.now.stations.items c.args.node c.index_mut.result.now ≡ c.index_mut.result.now = sym (c.index_mut.ensures.value ∙ ap (λ k. slice_index_or c.args.self.now.stations.items k c.index_mut.result.now) c.from.ensures) in
    let up = up-before (λ w. g.D.Disk.told w.disk) (λ w. g.D.Disk.size w.disk) g.U.Outlet.took g.A.App.handler game made c.args.self.now c.args.node c.index_mut.result.now running low is in
    settle-less (λ w. g.D.Disk.told w.disk) (λ w. g.D.Disk.size w.disk) g.U.Outlet.took g.A.App.handler game made c.args.self.now (record c.args.self.now { stations = with_item c.args.self.now.stations c.from.result (record c.index_mut.result.now { node = c.settle.new.self }) }) c.args.node c.index_mut.result.now (record c.index_mut.result.now { node = c.settle.new.self }) running low is (refl, refl) (ap (λ k. slice_set c.args.self.now.stations.items k (record c.index_mut.result.now { node = c.settle.new.self })) c.from.ensures) refl
    refl c.settle.ensures.emissions c.settle.ensures.refusals refl c.settle.result was (c.settle.ensures.steps game c.args.node (running.nodes c.args.node) up)

pub returns-clause-refused : goal.returns-clause-refused
returns-clause-refused g c = λ terms made low are.
    let is : slice_index_or c.args.self.now.stations.items c.args.node c.index_mut.result.now ≡ c.index_mut.result.now = sym (c.index_mut.ensures.value ∙ ap (λ k. slice_index_or c.args.self.now.stations.items k c.index_mut.result.now) c.from.ensures) in
    let up = up-before (λ w. g.D.Disk.told w.disk) (λ w. g.D.Disk.size w.disk) g.U.Outlet.took g.A.App.handler c.requires.game c.requires.made c.args.self.now c.args.node c.index_mut.result.now c.requires.running c.requires.known is in
    let same = c.settle.ensures.refusals in
    call-refused g.U.Outlet.faults g.U.Outlet.fate terms made c.args.self.now (record c.args.self.now { stations = with_item c.args.self.now.stations c.from.result (record c.index_mut.result.now { node = c.settle.new.self }) }) c.args.node c.index_mut.result.now (record c.index_mut.result.now { node = c.settle.new.self }) low (subst (λ n. c.args.node < n) (sym c.requires.running.stands.width) c.requires.known) is (ap (λ k. slice_set c.args.self.now.stations.items k (record c.index_mut.result.now { node = c.settle.new.self })) c.from.ensures) are c.settle.result
    (settle-tells-none (λ w. g.D.Disk.told w.disk) (λ w. g.D.Disk.size w.disk) c.requires.game c.args.node (c.requires.running.nodes c.args.node) c.settle.new.self.stage c.settle.result (c.settle.ensures.steps c.requires.game c.args.node (c.requires.running.nodes c.args.node) up)) (omega (arith, same)) refl

pub returns-clause-called : goal.returns-clause-called
returns-clause-called g c =
    let is : slice_index_or c.args.self.now.stations.items c.args.node c.index_mut.result.now ≡ c.index_mut.result.now = sym (c.index_mut.ensures.value ∙ ap (λ k. slice_index_or c.args.self.now.stations.items k c.index_mut.result.now) c.from.ensures) in
    let up = up-before (λ w. g.D.Disk.told w.disk) (λ w. g.D.Disk.size w.disk) g.U.Outlet.took g.A.App.handler c.requires.game c.requires.made c.args.self.now c.args.node c.index_mut.result.now c.requires.running c.requires.known is in
    changes-at c.args.node c.from.result c.args.self.now (record c.args.self.now { stations = with_item c.args.self.now.stations c.from.result (record c.index_mut.result.now { node = c.settle.new.self }) }) c.index_mut.result.now (record c.index_mut.result.now { node = c.settle.new.self }) c.from.ensures (subst (λ n. c.args.node < n) (sym c.requires.running.stands.width) c.requires.known) is refl (λ a b. IsNotRestarted a b × OnOk c.settle.result (HasSettled (λ w. g.D.Disk.told w.disk) a b))
    (record { tries = refl; lines = refl }, settle-settled (λ w. g.D.Disk.told w.disk) (λ w. g.D.Disk.size w.disk) c.requires.game c.args.node (c.requires.running.nodes c.args.node) c.index_mut.result.now (record c.index_mut.result.now { node = c.settle.new.self }) up c.settle.result (c.settle.ensures.steps c.requires.game c.args.node (c.requires.running.nodes c.args.node) up) c.settle.ensures.image)
