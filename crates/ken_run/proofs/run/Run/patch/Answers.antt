-- A page of one node is written.
use Rattle.std.proofs.Common.{◌≡◌, ◌∙◌, ◌<◌, slice_index_or, slice_set, refl, sym, ap, subst, arith}
use Rattle.std.specs.Vec.{with_item}
use Rattle.ken_run.specs.Left.{pages_left}
use Rattle.ken_run.proofs.Leaving.{fewer-at, may-call, patch-fewer, patch-leaves, up-before}
use Rattle.ken_run.proofs.AccountsCalls.{own-accounts, patch-accounts}
use Rattle.ken_run.proofs.Refusals.{call-refused, patch-tells-none}
use Rattle.ken_run.proofs.run.Run.patch.Goals as goal
use Rattle.ken_flow.specs.Standstill.{Written}
use Rattle.ken_run.proofs.Moves.{moves-from}
use Rattle.std.specs.Prelude.{OnOk}
use Rattle.ken_run.specs.Patched.{IsNotRestarted, MaySync, IsPatched}
use Rattle.ken_run.proofs.Patched.{changes-at, on-ok-all, patch-patched, station-now}
use Rattle.ken_run.proofs.Moving.{patch-less, patch-moves}

pub patch-requires : goal.patch-requires
patch-requires g c =
    let is : slice_index_or c.args.self.now.stations.items c.args.node c.index_mut.result.now ≡ c.index_mut.result.now = sym (c.index_mut.ensures.value ∙ ap (λ k. slice_index_or c.args.self.now.stations.items k c.index_mut.result.now) c.from.ensures) in
    may-call (λ w. g.D.Disk.told w.disk) (λ w. g.D.Disk.size w.disk) g.U.Outlet.took g.A.App.handler c.requires.game c.requires.made c.args.self.now c.args.node c.index_mut.result.now c.requires.running c.requires.known is

pub returns-clause-leaves : goal.returns-clause-leaves
returns-clause-leaves g c = λ game made running low.
    let is : slice_index_or c.args.self.now.stations.items c.args.node c.index_mut.result.now ≡ c.index_mut.result.now = sym (c.index_mut.ensures.value ∙ ap (λ k. slice_index_or c.args.self.now.stations.items k c.index_mut.result.now) c.from.ensures) in
    let up = up-before (λ w. g.D.Disk.told w.disk) (λ w. g.D.Disk.size w.disk) g.U.Outlet.took g.A.App.handler game made c.args.self.now c.args.node c.index_mut.result.now running low is in
    patch-leaves (λ w. g.D.Disk.told w.disk) (λ w. g.D.Disk.size w.disk) g.U.Outlet.took g.A.App.handler game made c.args.self.now (record c.args.self.now { stations = with_item c.args.self.now.stations c.from.result (record c.index_mut.result.now { node = c.patch.new.self }) }) c.args.node c.index_mut.result.now (record c.index_mut.result.now { node = c.patch.new.self }) running low is (refl, refl) (ap (λ k. slice_set c.args.self.now.stations.items k (record c.index_mut.result.now { node = c.patch.new.self })) c.from.ensures)
    refl c.patch.ensures.emissions refl c.patch.result (c.patch.ensures.steps game c.args.node (running.nodes c.args.node) up)

pub returns-clause-fewer : goal.returns-clause-fewer
returns-clause-fewer g c = λ was.
    let game = c.requires.game in
    let running = c.requires.running in
    let is : slice_index_or c.args.self.now.stations.items c.args.node c.index_mut.result.now ≡ c.index_mut.result.now = sym (c.index_mut.ensures.value ∙ ap (λ k. slice_index_or c.args.self.now.stations.items k c.index_mut.result.now) c.from.ensures) in
    let up = up-before (λ w. g.D.Disk.told w.disk) (λ w. g.D.Disk.size w.disk) g.U.Outlet.took g.A.App.handler game c.requires.made c.args.self.now c.args.node c.index_mut.result.now running c.requires.known is in
    let new = record c.index_mut.result.now { node = c.patch.new.self } in
    fewer-at pages_left c.args.self.now.stations.items c.from.result c.args.node c.index_mut.result.now new c.from.ensures (subst (λ n. c.args.node < n) (sym running.stands.width) c.requires.known) is
    (patch-fewer (λ w. g.D.Disk.told w.disk) (λ w. g.D.Disk.size w.disk) g.U.Outlet.took g.A.App.handler game c.requires.made c.args.self.now (record c.args.self.now { stations = with_item c.args.self.now.stations c.from.result new }) c.args.node c.index_mut.result.now new running c.requires.known is (refl, refl) (ap (λ k. slice_set c.args.self.now.stations.items k (record c.index_mut.result.now { node = c.patch.new.self })) c.from.ensures)
    refl c.patch.ensures.emissions refl c.patch.result was (c.patch.ensures.steps game c.args.node (running.nodes c.args.node) up))

pub returns-clause-accounts : goal.returns-clause-accounts
returns-clause-accounts g c = λ terms game made running low accounted.
    let is : slice_index_or c.args.self.now.stations.items c.args.node c.index_mut.result.now ≡ c.index_mut.result.now = sym (c.index_mut.ensures.value ∙ ap (λ k. slice_index_or c.args.self.now.stations.items k c.index_mut.result.now) c.from.ensures) in
    let up = up-before (λ w. g.D.Disk.told w.disk) (λ w. g.D.Disk.size w.disk) g.U.Outlet.took g.A.App.handler game made c.args.self.now c.args.node c.index_mut.result.now running low is in
    let was = own-accounts (λ w. g.D.Disk.told w.disk) (λ w. g.D.Disk.faults w.disk) (λ w. g.D.Disk.fate w.disk) g.O.Oracle.telling terms game made c.args.self.now c.args.node c.index_mut.result.now low is accounted in
    patch-accounts (λ w. g.D.Disk.told w.disk) (λ w. g.D.Disk.size w.disk) (λ w. g.D.Disk.faults w.disk) (λ w. g.D.Disk.fate w.disk) g.O.Oracle.telling terms game made c.args.self.now (record c.args.self.now { stations = with_item c.args.self.now.stations c.from.result (record c.index_mut.result.now { node = c.patch.new.self }) }) c.args.node c.index_mut.result.now (record c.index_mut.result.now { node = c.patch.new.self })
    (running.nodes c.args.node) up running.stands.width low is (ap (λ k. slice_set c.args.self.now.stations.items k (record c.index_mut.result.now { node = c.patch.new.self })) c.from.ensures) refl accounted
    refl refl refl (c.patch.ensures.synced game c.args.node was.books.synced) c.patch.ensures.emissions c.patch.result (c.patch.ensures.steps game c.args.node (running.nodes c.args.node) up) c.patch.ensures.disks

pub returns-clause-moves : goal.returns-clause-moves
returns-clause-moves g c =
    moves-from (λ w. g.D.Disk.told w.disk) (λ w. g.D.Disk.size w.disk) g.U.Outlet.took g.A.App.handler (λ game. Written c.args.node) c.args.node c.args.self.now (record c.args.self.now { stations = with_item c.args.self.now.stations c.from.result (record c.index_mut.result.now { node = c.patch.new.self }) }) c.patch.result
    (λ game made running low.
    let is : slice_index_or c.args.self.now.stations.items c.args.node c.index_mut.result.now ≡ c.index_mut.result.now = sym (c.index_mut.ensures.value ∙ ap (λ k. slice_index_or c.args.self.now.stations.items k c.index_mut.result.now) c.from.ensures) in
    let up = up-before (λ w. g.D.Disk.told w.disk) (λ w. g.D.Disk.size w.disk) g.U.Outlet.took g.A.App.handler game made c.args.self.now c.args.node c.index_mut.result.now running low is in
    patch-moves (λ w. g.D.Disk.told w.disk) (λ w. g.D.Disk.size w.disk) g.U.Outlet.took g.A.App.handler game made c.args.self.now (record c.args.self.now { stations = with_item c.args.self.now.stations c.from.result (record c.index_mut.result.now { node = c.patch.new.self }) }) c.args.node c.index_mut.result.now (record c.index_mut.result.now { node = c.patch.new.self }) running low is (refl, refl) (ap (λ k. slice_set c.args.self.now.stations.items k (record c.index_mut.result.now { node = c.patch.new.self })) c.from.ensures) refl
    refl c.patch.ensures.emissions c.patch.ensures.refusals refl c.patch.result (c.patch.ensures.steps game c.args.node (running.nodes c.args.node) up))

pub returns-clause-less : goal.returns-clause-less
returns-clause-less g c = λ was.
    let game = c.requires.game in
    let made = c.requires.made in
    let running = c.requires.running in
    let low = c.requires.known in
    let is : slice_index_or c.args.self.now.stations.items c.args.node c.index_mut.result.now ≡ c.index_mut.result.now = sym (c.index_mut.ensures.value ∙ ap (λ k. slice_index_or c.args.self.now.stations.items k c.index_mut.result.now) c.from.ensures) in
    let up = up-before (λ w. g.D.Disk.told w.disk) (λ w. g.D.Disk.size w.disk) g.U.Outlet.took g.A.App.handler game made c.args.self.now c.args.node c.index_mut.result.now running low is in
    patch-less (λ w. g.D.Disk.told w.disk) (λ w. g.D.Disk.size w.disk) g.U.Outlet.took g.A.App.handler game made c.args.self.now (record c.args.self.now { stations = with_item c.args.self.now.stations c.from.result (record c.index_mut.result.now { node = c.patch.new.self }) }) c.args.node c.index_mut.result.now (record c.index_mut.result.now { node = c.patch.new.self }) running low is (refl, refl) (ap (λ k. slice_set c.args.self.now.stations.items k (record c.index_mut.result.now { node = c.patch.new.self })) c.from.ensures) refl
    refl c.patch.ensures.emissions c.patch.ensures.refusals refl c.patch.result was (c.patch.ensures.steps game c.args.node (running.nodes c.args.node) up)

pub returns-clause-refused : goal.returns-clause-refused
returns-clause-refused g c = λ terms made low are.
    let is : slice_index_or c.args.self.now.stations.items c.args.node c.index_mut.result.now ≡ c.index_mut.result.now = sym (c.index_mut.ensures.value ∙ ap (λ k. slice_index_or c.args.self.now.stations.items k c.index_mut.result.now) c.from.ensures) in
    let up = up-before (λ w. g.D.Disk.told w.disk) (λ w. g.D.Disk.size w.disk) g.U.Outlet.took g.A.App.handler c.requires.game c.requires.made c.args.self.now c.args.node c.index_mut.result.now c.requires.running c.requires.known is in
    let same = c.patch.ensures.refusals in
    call-refused g.U.Outlet.faults g.U.Outlet.fate terms made c.args.self.now (record c.args.self.now { stations = with_item c.args.self.now.stations c.from.result (record c.index_mut.result.now { node = c.patch.new.self }) }) c.args.node c.index_mut.result.now (record c.index_mut.result.now { node = c.patch.new.self }) low (subst (λ n. c.args.node < n) (sym c.requires.running.stands.width) c.requires.known) is (ap (λ k. slice_set c.args.self.now.stations.items k (record c.index_mut.result.now { node = c.patch.new.self })) c.from.ensures) are c.patch.result
    (patch-tells-none (λ w. g.D.Disk.told w.disk) (λ w. g.D.Disk.size w.disk) c.requires.game c.args.node (c.requires.running.nodes c.args.node) c.patch.new.self.stage c.patch.result (c.patch.ensures.steps c.requires.game c.args.node (c.requires.running.nodes c.args.node) up)) (omega (arith, same)) refl

pub returns-clause-called : goal.returns-clause-called
returns-clause-called g c =
    let is : slice_index_or c.args.self.now.stations.items c.args.node c.index_mut.result.now ≡ c.index_mut.result.now = sym (c.index_mut.ensures.value ∙ ap (λ k. slice_index_or c.args.self.now.stations.items k c.index_mut.result.now) c.from.ensures) in
    changes-at c.args.node c.from.result c.args.self.now (record c.args.self.now { stations = with_item c.args.self.now.stations c.from.result (record c.index_mut.result.now { node = c.patch.new.self }) }) c.index_mut.result.now (record c.index_mut.result.now { node = c.patch.new.self }) c.from.ensures (subst (λ n. c.args.node < n) (sym c.requires.running.stands.width) c.requires.known) is refl (λ a b. IsNotRestarted a b × OnOk c.patch.result (MaySync (λ w. g.D.Disk.told w.disk) a b))
    (record { tries = refl; lines = refl }, on-ok-all c.patch.result c.patch.ensures.image)

pub returns-clause-patched : goal.returns-clause-patched
returns-clause-patched g c = λ was d.
    let is : slice_index_or c.args.self.now.stations.items c.args.node c.index_mut.result.now ≡ c.index_mut.result.now = sym (c.index_mut.ensures.value ∙ ap (λ k. slice_index_or c.args.self.now.stations.items k c.index_mut.result.now) c.from.ensures) in
    let up = up-before (λ w. g.D.Disk.told w.disk) (λ w. g.D.Disk.size w.disk) g.U.Outlet.took g.A.App.handler c.requires.game c.requires.made c.args.self.now c.args.node c.index_mut.result.now c.requires.running c.requires.known is in
    subst (λ x. IsPatched x.node.stage) (sym (station-now c.args.node c.from.result c.args.self.now (record c.args.self.now { stations = with_item c.args.self.now.stations c.from.result (record c.index_mut.result.now { node = c.patch.new.self }) }) c.index_mut.result.now (record c.index_mut.result.now { node = c.patch.new.self }) c.from.ensures (subst (λ n. c.args.node < n) (sym c.requires.running.stands.width) c.requires.known) is refl d))
    (patch-patched (λ w. g.D.Disk.told w.disk) (λ w. g.D.Disk.size w.disk) c.requires.game c.args.node (c.requires.running.nodes c.args.node) c.index_mut.result.now (record c.index_mut.result.now { node = c.patch.new.self }) up c.patch.result was (c.patch.ensures.steps c.requires.game c.args.node (c.requires.running.nodes c.args.node) up))
