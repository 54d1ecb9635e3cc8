-- One node takes acknowledgements.
use Rattle.std.proofs.Common.{◌≡◌, ◌∙◌, slice_index_or, slice_set, refl, sym, ap, arith, subst, ◌<◌}
use Rattle.std.specs.Vec.{with_item}
use Rattle.ken_run.proofs.Leaving.{may-call-on, hear-leaves, own-station, up-before}
use Rattle.ken_run.proofs.AccountsCalls.{heard-no-further, hear-accounts, own-accounts}
use Rattle.ken_run.proofs.Refusals.{still-refused}
use Rattle.ken_run.proofs.run.Run.hear.Goals as goal
use Rattle.ken_run.specs.Patched.{IsNotRestarted, KeepsImage}
use Rattle.ken_run.proofs.Patched.{changes-at, hear-keeps, call-broken}
use Rattle.ken_ship.specs.Laws.{packets_from}
use Rattle.ken_run.proofs.Moving.{hear-moves}

pub hear-requires-clause-may : goal.hear-requires-clause-may
hear-requires-clause-may g c =
    let is : slice_index_or c.args.self.now.stations.items c.args.node c.index_mut.result.now ≡ c.index_mut.result.now = sym (c.index_mut.ensures.value ∙ ap (λ k. slice_index_or c.args.self.now.stations.items k c.index_mut.result.now) c.from.ensures) in
    may-call-on (λ w. g.D.Disk.told w.disk) (λ w. g.D.Disk.size w.disk) g.U.Outlet.took g.A.App.handler c.requires.game c.requires.made c.args.self.now c.args.node c.index_mut.result.now c.requires.running c.requires.known is

pub returns-clause-leaves : goal.returns-clause-leaves
returns-clause-leaves g c = λ game made running low.
    let is : slice_index_or c.args.self.now.stations.items c.args.node c.index_mut.result.now ≡ c.index_mut.result.now = sym (c.index_mut.ensures.value ∙ ap (λ k. slice_index_or c.args.self.now.stations.items k c.index_mut.result.now) c.from.ensures) in
    let own = own-station (λ w. g.D.Disk.told w.disk) (λ w. g.D.Disk.size w.disk) g.U.Outlet.took g.A.App.handler game made c.args.self.now c.args.node c.index_mut.result.now running low is in
    let up = up-before (λ w. g.D.Disk.told w.disk) (λ w. g.D.Disk.size w.disk) g.U.Outlet.took g.A.App.handler game made c.args.self.now c.args.node c.index_mut.result.now running low is in
    let steps = c.in_ok-hear.ensures.steps game c.args.node (running.nodes c.args.node) up (sym own.mail.from) in
    hear-leaves (λ w. g.D.Disk.told w.disk) (λ w. g.D.Disk.size w.disk) g.U.Outlet.took g.A.App.handler game made c.args.self.now (record c.args.self.now { stations = with_item c.args.self.now.stations c.from.result c.hear.new.self; waiting = c.hear.new.waiting }) c.args.node c.index_mut.result.now c.hear.new.self running low is (refl, refl) (ap (λ k. slice_set c.args.self.now.stations.items k c.hear.new.self) c.from.ensures)
    c.in_ok-hear.ensures.emissions steps.0 c.in_ok-hear.ensures.put c.in_ok-hear.ensures.rest steps.1

pub returns-clause-accounts : goal.returns-clause-accounts
returns-clause-accounts g c = λ terms game made running low accounted.
    let is : slice_index_or c.args.self.now.stations.items c.args.node c.index_mut.result.now ≡ c.index_mut.result.now = sym (c.index_mut.ensures.value ∙ ap (λ k. slice_index_or c.args.self.now.stations.items k c.index_mut.result.now) c.from.ensures) in
    let own = own-station (λ w. g.D.Disk.told w.disk) (λ w. g.D.Disk.size w.disk) g.U.Outlet.took g.A.App.handler game made c.args.self.now c.args.node c.index_mut.result.now running low is in
    let up = up-before (λ w. g.D.Disk.told w.disk) (λ w. g.D.Disk.size w.disk) g.U.Outlet.took g.A.App.handler game made c.args.self.now c.args.node c.index_mut.result.now running low is in
    let was = own-accounts (λ w. g.D.Disk.told w.disk) (λ w. g.D.Disk.faults w.disk) (λ w. g.D.Disk.fate w.disk) g.O.Oracle.telling terms game made c.args.self.now c.args.node c.index_mut.result.now low is accounted in
    let steps = c.in_ok-hear.ensures.steps game c.args.node (running.nodes c.args.node) up (sym own.mail.from) in
    hear-accounts (λ w. g.D.Disk.told w.disk) (λ w. g.D.Disk.size w.disk) (λ w. g.D.Disk.faults w.disk) (λ w. g.D.Disk.fate w.disk) g.O.Oracle.telling terms game made c.args.self.now (record c.args.self.now { stations = with_item c.args.self.now.stations c.from.result c.hear.new.self; waiting = c.hear.new.waiting }) c.args.node c.index_mut.result.now c.hear.new.self
    (running.nodes c.args.node) up running.stands.width low is (ap (λ k. slice_set c.args.self.now.stations.items k c.hear.new.self) c.from.ensures) refl accounted
    (ap (λ x. x.luck) c.in_ok-hear.ensures.rest) (ap (λ x. x.lines.items) c.in_ok-hear.ensures.rest) (ap (λ x. x.restarts) c.in_ok-hear.ensures.rest) (c.in_ok-hear.ensures.synced game c.args.node was.books.synced) c.in_ok-hear.ensures.disks _ 0 steps.0 steps.1
    (heard-no-further (λ w. g.D.Disk.told w.disk) (λ w. g.D.Disk.size w.disk) g.U.Outlet.took g.A.App.handler game made c.args.self.now c.args.node running low c.hear.new.waiting.acks steps.0 0 c.hear.new.self.node.stage steps.1) c.in_ok-hear.ensures.emissions

pub returns-clause-moves : goal.returns-clause-moves
returns-clause-moves g c = λ game made running low.
    let is : slice_index_or c.args.self.now.stations.items c.args.node c.index_mut.result.now ≡ c.index_mut.result.now = sym (c.index_mut.ensures.value ∙ ap (λ k. slice_index_or c.args.self.now.stations.items k c.index_mut.result.now) c.from.ensures) in
    let own = own-station (λ w. g.D.Disk.told w.disk) (λ w. g.D.Disk.size w.disk) g.U.Outlet.took g.A.App.handler game made c.args.self.now c.args.node c.index_mut.result.now running low is in
    let up = up-before (λ w. g.D.Disk.told w.disk) (λ w. g.D.Disk.size w.disk) g.U.Outlet.took g.A.App.handler game made c.args.self.now c.args.node c.index_mut.result.now running low is in
    let steps = c.in_ok-hear.ensures.steps game c.args.node (running.nodes c.args.node) up (sym own.mail.from) in
    hear-moves (λ w. g.D.Disk.told w.disk) (λ w. g.D.Disk.size w.disk) g.U.Outlet.took g.A.App.handler game made c.args.self.now (record c.args.self.now { stations = with_item c.args.self.now.stations c.from.result c.hear.new.self; waiting = c.hear.new.waiting }) c.args.node c.index_mut.result.now c.hear.new.self running low is (refl, refl) (ap (λ k. slice_set c.args.self.now.stations.items k c.hear.new.self) c.from.ensures) refl
    c.in_ok-hear.ensures.emissions c.in_ok-hear.ensures.refusals steps.0 c.in_ok-hear.ensures.put c.in_ok-hear.ensures.rest steps.1

pub returns-clause-refused : goal.returns-clause-refused
returns-clause-refused g c = λ terms made low are.
    let is : slice_index_or c.args.self.now.stations.items c.args.node c.index_mut.result.now ≡ c.index_mut.result.now = sym (c.index_mut.ensures.value ∙ ap (λ k. slice_index_or c.args.self.now.stations.items k c.index_mut.result.now) c.from.ensures) in
    let same = c.in_ok-hear.ensures.refusals in
    still-refused g.U.Outlet.faults g.U.Outlet.fate terms made c.args.self.now (record c.args.self.now { stations = with_item c.args.self.now.stations c.from.result c.hear.new.self; waiting = c.hear.new.waiting }) c.args.node c.index_mut.result.now c.hear.new.self low (subst (λ n. c.args.node < n) (sym c.requires.running.stands.width) c.requires.known) is (ap (λ k. slice_set c.args.self.now.stations.items k c.hear.new.self) c.from.ensures) are (omega (arith, same)) (ap (λ x. x.out) c.in_ok-hear.ensures.rest)

pub returns-clause-called : goal.returns-clause-called
returns-clause-called g c =
    let is : slice_index_or c.args.self.now.stations.items c.args.node c.index_mut.result.now ≡ c.index_mut.result.now = sym (c.index_mut.ensures.value ∙ ap (λ k. slice_index_or c.args.self.now.stations.items k c.index_mut.result.now) c.from.ensures) in
    let own = own-station (λ w. g.D.Disk.told w.disk) (λ w. g.D.Disk.size w.disk) g.U.Outlet.took g.A.App.handler c.requires.game c.requires.made c.args.self.now c.args.node c.index_mut.result.now c.requires.running c.requires.known is in
    let up = up-before (λ w. g.D.Disk.told w.disk) (λ w. g.D.Disk.size w.disk) g.U.Outlet.took g.A.App.handler c.requires.game c.requires.made c.args.self.now c.args.node c.index_mut.result.now c.requires.running c.requires.known is in
    let steps = c.in_ok-hear.ensures.steps c.requires.game c.args.node (c.requires.running.nodes c.args.node) up (sym own.mail.from) in
    changes-at c.args.node c.from.result c.args.self.now (record c.args.self.now { stations = with_item c.args.self.now.stations c.from.result c.hear.new.self; waiting = c.hear.new.waiting }) c.index_mut.result.now c.hear.new.self c.from.ensures (subst (λ n. c.args.node < n) (sym c.requires.running.stands.width) c.requires.known) is refl (λ a b. IsNotRestarted a b × KeepsImage (λ w. g.D.Disk.told w.disk) a b)
    (record { tries = ap (λ x. x.restarts) c.in_ok-hear.ensures.rest; lines = ap (λ x. x.lines.items) c.in_ok-hear.ensures.rest }, hear-keeps (λ w. g.D.Disk.told w.disk) (λ w. g.D.Disk.size w.disk) c.requires.game c.args.node (c.requires.running.nodes c.args.node) c.index_mut.result.now c.hear.new.self up steps.1.given (packets_from c.requires.game.nodes steps.1.given) c.in_ok-hear.ensures.disks (steps.1.steps (heard-no-further (λ w. g.D.Disk.told w.disk) (λ w. g.D.Disk.size w.disk) g.U.Outlet.took g.A.App.handler c.requires.game c.requires.made c.args.self.now c.args.node c.requires.running c.requires.known c.hear.new.waiting.acks steps.0 0 c.hear.new.self.node.stage steps.1)))

pub returns-in_err-hear-clause-called : goal.returns-in_err-hear-clause-called
returns-in_err-hear-clause-called g c =
    let is : slice_index_or c.args.self.now.stations.items c.args.node c.index_mut.result.now ≡ c.index_mut.result.now = sym (c.index_mut.ensures.value ∙ ap (λ k. slice_index_or c.args.self.now.stations.items k c.index_mut.result.now) c.from.ensures) in
    call-broken _ c.from_residual.result (KeepsImage (λ w. g.D.Disk.told w.disk)) c.args.node c.args.self.now (record c.args.self.now { stations = with_item c.args.self.now.stations c.from.result c.hear.new.self; waiting = c.hear.new.waiting }) c.from_residual.ensures.1
    (changes-at c.args.node c.from.result c.args.self.now (record c.args.self.now { stations = with_item c.args.self.now.stations c.from.result c.hear.new.self; waiting = c.hear.new.waiting }) c.index_mut.result.now c.hear.new.self c.from.ensures (subst (λ n. c.args.node < n) (sym c.requires.running.stands.width) c.requires.known) is refl IsNotRestarted (record { tries = ap (λ x. x.restarts) c.in_err-hear.ensures.rest; lines = ap (λ x. x.lines.items) c.in_err-hear.ensures.rest }))
