-- A turn of one node.
use Rattle.std.proofs.Common.{◌≡◌, ◌∙◌, ◌<◌, slice_index_or, slice_set, refl, sym, ap, subst, arith}
use Rattle.std.specs.Vec.{with_item}
use Rattle.ken_run.specs.Left.{turns_left}
use Rattle.ken_run.proofs.Leaving.{fewer-at, may-turn, own-station, turn-fewer, turn-leaves, up-before}
use Rattle.ken_run.proofs.AccountsCalls.{own-accounts, turn-accounts}
use Rattle.ken_run.proofs.Refusals.{call-refused, turn-tells-none}
use Rattle.ken_run.proofs.run.Run.turn.Goals as goal
use Rattle.ken_flow.specs.Standstill.{Rested}
use Rattle.ken_run.proofs.Moves.{moves-from}
use Rattle.std.specs.Prelude.{OnOk}
use Rattle.ken_run.specs.Patched.{IsNotRestarted, MaySync}
use Rattle.ken_run.proofs.Patched.{changes-at, on-ok-all, same-may-sync}
use Rattle.ken_run.proofs.Turning.{turn-less, turn-moves, turn-worked, turn-rests}

pub turn-requires-clause-may : goal.turn-requires-clause-may
turn-requires-clause-may g c =
    let is : slice_index_or c.args.self.now.stations.items c.args.node c.index_mut.result.now ≡ c.index_mut.result.now = sym (c.index_mut.ensures.value ∙ ap (λ k. slice_index_or c.args.self.now.stations.items k c.index_mut.result.now) c.from.ensures) in
    may-turn (λ w. g.D.Disk.told w.disk) (λ w. g.D.Disk.size w.disk) g.U.Outlet.took g.A.App.handler c.requires.game c.requires.made c.args.self.now c.args.node c.index_mut.result.now c.requires.running c.requires.known is

pub returns-clause-leaves : goal.returns-clause-leaves
returns-clause-leaves g c = λ game made running low.
    let is : slice_index_or c.args.self.now.stations.items c.args.node c.index_mut.result.now ≡ c.index_mut.result.now = sym (c.index_mut.ensures.value ∙ ap (λ k. slice_index_or c.args.self.now.stations.items k c.index_mut.result.now) c.from.ensures) in
    let own = own-station (λ w. g.D.Disk.told w.disk) (λ w. g.D.Disk.size w.disk) g.U.Outlet.took g.A.App.handler game made c.args.self.now c.args.node c.index_mut.result.now running low is in
    let up = up-before (λ w. g.D.Disk.told w.disk) (λ w. g.D.Disk.size w.disk) g.U.Outlet.took g.A.App.handler game made c.args.self.now c.args.node c.index_mut.result.now running low is in
    let steps = c.turn.ensures.steps game c.args.node (running.nodes c.args.node) up (sym own.acks.from) running.stands.handler in
    turn-leaves (λ w. g.D.Disk.told w.disk) (λ w. g.D.Disk.size w.disk) g.U.Outlet.took g.A.App.handler game made c.args.self.now _ c.args.node c.index_mut.result.now c.turn.new.self running low is (refl, refl) (ap (λ k. slice_set c.args.self.now.stations.items k c.turn.new.self) c.from.ensures)
    steps.0 _ up.handler c.turn.ensures.emissions c.turn.ensures.rest c.turn.result steps.1

pub returns-clause-fewer : goal.returns-clause-fewer
returns-clause-fewer g c = λ was.
    let game = c.requires.game in
    let running = c.requires.running in
    let is : slice_index_or c.args.self.now.stations.items c.args.node c.index_mut.result.now ≡ c.index_mut.result.now = sym (c.index_mut.ensures.value ∙ ap (λ k. slice_index_or c.args.self.now.stations.items k c.index_mut.result.now) c.from.ensures) in
    let own = own-station (λ w. g.D.Disk.told w.disk) (λ w. g.D.Disk.size w.disk) g.U.Outlet.took g.A.App.handler game c.requires.made c.args.self.now c.args.node c.index_mut.result.now running c.requires.known is in
    let up = up-before (λ w. g.D.Disk.told w.disk) (λ w. g.D.Disk.size w.disk) g.U.Outlet.took g.A.App.handler game c.requires.made c.args.self.now c.args.node c.index_mut.result.now running c.requires.known is in
    let steps = c.turn.ensures.steps game c.args.node (running.nodes c.args.node) up (sym own.acks.from) running.stands.handler in
    fewer-at turns_left c.args.self.now.stations.items c.from.result c.args.node c.index_mut.result.now c.turn.new.self c.from.ensures (subst (λ n. c.args.node < n) (sym running.stands.width) c.requires.known) is
    (turn-fewer (λ w. g.D.Disk.told w.disk) (λ w. g.D.Disk.size w.disk) g.U.Outlet.took g.A.App.handler game c.requires.made c.args.self.now (record c.args.self.now { stations = with_item c.args.self.now.stations c.from.result c.turn.new.self; waiting = c.turn.new.waiting }) c.args.node c.index_mut.result.now c.turn.new.self running c.requires.known is (refl, refl) (ap (λ k. slice_set c.args.self.now.stations.items k c.turn.new.self) c.from.ensures)
    steps.0 _ up.handler c.turn.ensures.emissions c.turn.ensures.rest c.turn.result was steps.1)

pub returns-clause-accounts : goal.returns-clause-accounts
returns-clause-accounts g c = λ terms game made running low accounted.
    let is : slice_index_or c.args.self.now.stations.items c.args.node c.index_mut.result.now ≡ c.index_mut.result.now = sym (c.index_mut.ensures.value ∙ ap (λ k. slice_index_or c.args.self.now.stations.items k c.index_mut.result.now) c.from.ensures) in
    let own = own-station (λ w. g.D.Disk.told w.disk) (λ w. g.D.Disk.size w.disk) g.U.Outlet.took g.A.App.handler game made c.args.self.now c.args.node c.index_mut.result.now running low is in
    let up = up-before (λ w. g.D.Disk.told w.disk) (λ w. g.D.Disk.size w.disk) g.U.Outlet.took g.A.App.handler game made c.args.self.now c.args.node c.index_mut.result.now running low is in
    let was = own-accounts (λ w. g.D.Disk.told w.disk) (λ w. g.D.Disk.faults w.disk) (λ w. g.D.Disk.fate w.disk) g.O.Oracle.telling terms game made c.args.self.now c.args.node c.index_mut.result.now low is accounted in
    let steps = c.turn.ensures.steps game c.args.node (running.nodes c.args.node) up (sym own.acks.from) running.stands.handler in
    turn-accounts (λ w. g.D.Disk.told w.disk) (λ w. g.D.Disk.size w.disk) (λ w. g.D.Disk.faults w.disk) (λ w. g.D.Disk.fate w.disk) g.O.Oracle.telling terms game made c.args.self.now (record c.args.self.now { stations = with_item c.args.self.now.stations c.from.result c.turn.new.self; waiting = c.turn.new.waiting }) c.args.node c.index_mut.result.now c.turn.new.self
    (running.nodes c.args.node) up running.stands.width low is (ap (λ k. slice_set c.args.self.now.stations.items k c.turn.new.self) c.from.ensures) refl accounted
    (ap (λ x. x.lines.items) c.turn.ensures.rest) (ap (λ x. x.restarts) c.turn.ensures.rest) c.turn.ensures.origin c.turn.ensures.clocks_go_on c.turn.ensures.words_go_on c.turn.ensures.emissions _ running.stands.handler _ _ 0 steps.0 up.handler c.turn.result steps.1
    c.turn.ensures.disks (c.turn.ensures.synced game c.args.node (running.nodes c.args.node) up running.stands.handler was.books.synced) c.turn.ensures.undrawn

pub returns-clause-moves : goal.returns-clause-moves
returns-clause-moves g c =
    moves-from (λ w. g.D.Disk.told w.disk) (λ w. g.D.Disk.size w.disk) g.U.Outlet.took g.A.App.handler (λ game. Rested game c.args.node) c.args.node c.args.self.now (record c.args.self.now { stations = with_item c.args.self.now.stations c.from.result c.turn.new.self; waiting = c.turn.new.waiting }) c.turn.result
    (λ game made running low.
    let is : slice_index_or c.args.self.now.stations.items c.args.node c.index_mut.result.now ≡ c.index_mut.result.now = sym (c.index_mut.ensures.value ∙ ap (λ k. slice_index_or c.args.self.now.stations.items k c.index_mut.result.now) c.from.ensures) in
    let own = own-station (λ w. g.D.Disk.told w.disk) (λ w. g.D.Disk.size w.disk) g.U.Outlet.took g.A.App.handler game made c.args.self.now c.args.node c.index_mut.result.now running low is in
    let up = up-before (λ w. g.D.Disk.told w.disk) (λ w. g.D.Disk.size w.disk) g.U.Outlet.took g.A.App.handler game made c.args.self.now c.args.node c.index_mut.result.now running low is in
    let steps = c.turn.ensures.steps game c.args.node (running.nodes c.args.node) up (sym own.acks.from) running.stands.handler in
    turn-moves (λ w. g.D.Disk.told w.disk) (λ w. g.D.Disk.size w.disk) g.U.Outlet.took g.A.App.handler game made c.args.self.now (record c.args.self.now { stations = with_item c.args.self.now.stations c.from.result c.turn.new.self; waiting = c.turn.new.waiting }) c.args.node c.index_mut.result.now c.turn.new.self running low is (refl, refl) (ap (λ k. slice_set c.args.self.now.stations.items k c.turn.new.self) c.from.ensures) refl
    steps.0 _ up.handler c.turn.ensures.emissions c.turn.ensures.refusals c.turn.ensures.rest c.turn.result steps.1)

pub returns-clause-worked : goal.returns-clause-worked
returns-clause-worked g c = λ was.
    let game = c.requires.game in
    let made = c.requires.made in
    let running = c.requires.running in
    let low = c.requires.known in
    let is : slice_index_or c.args.self.now.stations.items c.args.node c.index_mut.result.now ≡ c.index_mut.result.now = sym (c.index_mut.ensures.value ∙ ap (λ k. slice_index_or c.args.self.now.stations.items k c.index_mut.result.now) c.from.ensures) in
    let own = own-station (λ w. g.D.Disk.told w.disk) (λ w. g.D.Disk.size w.disk) g.U.Outlet.took g.A.App.handler game made c.args.self.now c.args.node c.index_mut.result.now running low is in
    let up = up-before (λ w. g.D.Disk.told w.disk) (λ w. g.D.Disk.size w.disk) g.U.Outlet.took g.A.App.handler game made c.args.self.now c.args.node c.index_mut.result.now running low is in
    let steps = c.turn.ensures.steps game c.args.node (running.nodes c.args.node) up (sym own.acks.from) running.stands.handler in
    turn-worked (λ w. g.D.Disk.told w.disk) (λ w. g.D.Disk.size w.disk) g.U.Outlet.took g.A.App.handler game made c.args.self.now (record c.args.self.now { stations = with_item c.args.self.now.stations c.from.result c.turn.new.self; waiting = c.turn.new.waiting }) c.args.node c.index_mut.result.now c.turn.new.self running low is (refl, refl) (ap (λ k. slice_set c.args.self.now.stations.items k c.turn.new.self) c.from.ensures) refl
    steps.0 _ up.handler c.turn.ensures.emissions c.turn.ensures.refusals c.turn.ensures.rest c.turn.result was steps.1

pub returns-clause-less : goal.returns-clause-less
returns-clause-less g c = λ was.
    let game = c.requires.game in
    let made = c.requires.made in
    let running = c.requires.running in
    let low = c.requires.known in
    let is : slice_index_or c.args.self.now.stations.items c.args.node c.index_mut.result.now ≡ c.index_mut.result.now = sym (c.index_mut.ensures.value ∙ ap (λ k. slice_index_or c.args.self.now.stations.items k c.index_mut.result.now) c.from.ensures) in
    let own = own-station (λ w. g.D.Disk.told w.disk) (λ w. g.D.Disk.size w.disk) g.U.Outlet.took g.A.App.handler game made c.args.self.now c.args.node c.index_mut.result.now running low is in
    let up = up-before (λ w. g.D.Disk.told w.disk) (λ w. g.D.Disk.size w.disk) g.U.Outlet.took g.A.App.handler game made c.args.self.now c.args.node c.index_mut.result.now running low is in
    let steps = c.turn.ensures.steps game c.args.node (running.nodes c.args.node) up (sym own.acks.from) running.stands.handler in
    turn-less (λ w. g.D.Disk.told w.disk) (λ w. g.D.Disk.size w.disk) g.U.Outlet.took g.A.App.handler game made c.args.self.now (record c.args.self.now { stations = with_item c.args.self.now.stations c.from.result c.turn.new.self; waiting = c.turn.new.waiting }) c.args.node c.index_mut.result.now c.turn.new.self running low is (refl, refl) (ap (λ k. slice_set c.args.self.now.stations.items k c.turn.new.self) c.from.ensures) refl
    steps.0 _ up.handler c.turn.ensures.emissions c.turn.ensures.refusals c.turn.ensures.rest c.turn.result was steps.1

pub returns-clause-refused : goal.returns-clause-refused
returns-clause-refused g c = λ terms made low are.
    let is : slice_index_or c.args.self.now.stations.items c.args.node c.index_mut.result.now ≡ c.index_mut.result.now = sym (c.index_mut.ensures.value ∙ ap (λ k. slice_index_or c.args.self.now.stations.items k c.index_mut.result.now) c.from.ensures) in
    let up = up-before (λ w. g.D.Disk.told w.disk) (λ w. g.D.Disk.size w.disk) g.U.Outlet.took g.A.App.handler c.requires.game c.requires.made c.args.self.now c.args.node c.index_mut.result.now c.requires.running c.requires.known is in
    let own = own-station (λ w. g.D.Disk.told w.disk) (λ w. g.D.Disk.size w.disk) g.U.Outlet.took g.A.App.handler c.requires.game c.requires.made c.args.self.now c.args.node c.index_mut.result.now c.requires.running c.requires.known is in
    let steps = c.turn.ensures.steps c.requires.game c.args.node (c.requires.running.nodes c.args.node) up (sym own.acks.from) c.requires.running.stands.handler in
    let same = c.turn.ensures.refusals in
    call-refused g.U.Outlet.faults g.U.Outlet.fate terms made c.args.self.now (record c.args.self.now { stations = with_item c.args.self.now.stations c.from.result c.turn.new.self; waiting = c.turn.new.waiting }) c.args.node c.index_mut.result.now c.turn.new.self low (subst (λ n. c.args.node < n) (sym c.requires.running.stands.width) c.requires.known) is (ap (λ k. slice_set c.args.self.now.stations.items k c.turn.new.self) c.from.ensures) are c.turn.result
    (turn-tells-none (λ w. g.D.Disk.told w.disk) (λ w. g.D.Disk.size w.disk) c.requires.game c.args.node (c.requires.running.nodes c.args.node) _ _ _ 0 steps.0 up.handler c.turn.new.self.node.stage c.turn.result steps.1) (omega (arith, same)) (ap (λ x. x.out) c.turn.ensures.rest)

pub returns-clause-called : goal.returns-clause-called
returns-clause-called g c =
    let is : slice_index_or c.args.self.now.stations.items c.args.node c.index_mut.result.now ≡ c.index_mut.result.now = sym (c.index_mut.ensures.value ∙ ap (λ k. slice_index_or c.args.self.now.stations.items k c.index_mut.result.now) c.from.ensures) in
    changes-at c.args.node c.from.result c.args.self.now (record c.args.self.now { stations = with_item c.args.self.now.stations c.from.result c.turn.new.self; waiting = c.turn.new.waiting }) c.index_mut.result.now c.turn.new.self c.from.ensures (subst (λ n. c.args.node < n) (sym c.requires.running.stands.width) c.requires.known) is refl (λ a b. IsNotRestarted a b × OnOk c.turn.result (MaySync (λ w. g.D.Disk.told w.disk) a b))
    (record { tries = ap (λ x. x.restarts) c.turn.ensures.rest; lines = ap (λ x. x.lines.items) c.turn.ensures.rest }, on-ok-all c.turn.result (same-may-sync (λ w. g.D.Disk.told w.disk) c.index_mut.result.now c.turn.new.self c.turn.ensures.image))

pub returns-clause-rests : goal.returns-clause-rests
returns-clause-rests g c =
    let is : slice_index_or c.args.self.now.stations.items c.args.node c.index_mut.result.now ≡ c.index_mut.result.now = sym (c.index_mut.ensures.value ∙ ap (λ k. slice_index_or c.args.self.now.stations.items k c.index_mut.result.now) c.from.ensures) in
    let own = own-station (λ w. g.D.Disk.told w.disk) (λ w. g.D.Disk.size w.disk) g.U.Outlet.took g.A.App.handler c.requires.game c.requires.made c.args.self.now c.args.node c.index_mut.result.now c.requires.running c.requires.known is in
    let up = up-before (λ w. g.D.Disk.told w.disk) (λ w. g.D.Disk.size w.disk) g.U.Outlet.took g.A.App.handler c.requires.game c.requires.made c.args.self.now c.args.node c.index_mut.result.now c.requires.running c.requires.known is in
    let steps = c.turn.ensures.steps c.requires.game c.args.node (c.requires.running.nodes c.args.node) up (sym own.acks.from) c.requires.running.stands.handler in
    turn-rests (λ w. g.D.Disk.told w.disk) (λ w. g.D.Disk.size w.disk) g.U.Outlet.took g.A.App.handler c.requires.game c.requires.made c.args.self.now (record c.args.self.now { stations = with_item c.args.self.now.stations c.from.result c.turn.new.self; waiting = c.turn.new.waiting }) c.args.node c.index_mut.result.now c.turn.new.self c.requires.running c.requires.known is (refl, refl) (ap (λ k. slice_set c.args.self.now.stations.items k c.turn.new.self) c.from.ensures) refl
    steps.0 _ up.handler c.turn.ensures.emissions c.turn.ensures.refusals c.turn.ensures.rest c.turn.result steps.1
