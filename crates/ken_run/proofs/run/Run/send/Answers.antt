-- What is due at one node is sent.
use Rattle.std.proofs.Common.{◌≡◌, ◌∙◌, ℕ, [], slice_index_or, slice_set, refl, sym, ap, subst, arith, ◌<◌, Ok}
use Rattle.std.specs.Vec.{with_item}
use Rattle.ken_run.specs.Ends.{WereGiven}
use Rattle.ken_run.proofs.Leaving.{may-call-on, send-leaves, own-station, up-before}
use Rattle.ken_run.proofs.AccountsCalls.{own-accounts, send-accounts}
use Rattle.ken_run.proofs.Refusals.{still-refused}
use Rattle.ken_run.proofs.run.Run.send.Goals as goal
use Rattle.ken_run.specs.Patched.{IsNotRestarted, KeepsImage}
use Rattle.ken_run.proofs.Patched.{changes-at, send-keeps, call-broken}
use Rattle.ken_run.proofs.Moving.{send-moves}

pub send-requires-clause-may : goal.send-requires-clause-may
send-requires-clause-may g c =
    let is : slice_index_or c.args.self.now.stations.items c.args.node c.index_mut.result.now ≡ c.index_mut.result.now = sym (c.index_mut.ensures.value ∙ ap (λ k. slice_index_or c.args.self.now.stations.items k c.index_mut.result.now) c.from.ensures) in
    may-call-on (λ w. g.D.Disk.told w.disk) (λ w. g.D.Disk.size w.disk) g.U.Outlet.took g.A.App.handler c.requires.game c.requires.made c.args.self.now c.args.node c.index_mut.result.now c.requires.running c.requires.known is

pub returns-clause-leaves : goal.returns-clause-leaves
returns-clause-leaves g c = λ game made running low.
    let is : slice_index_or c.args.self.now.stations.items c.args.node c.index_mut.result.now ≡ c.index_mut.result.now = sym (c.index_mut.ensures.value ∙ ap (λ k. slice_index_or c.args.self.now.stations.items k c.index_mut.result.now) c.from.ensures) in
    let own = own-station (λ w. g.D.Disk.told w.disk) (λ w. g.D.Disk.size w.disk) g.U.Outlet.took g.A.App.handler game made c.args.self.now c.args.node c.index_mut.result.now running low is in
    let up = up-before (λ w. g.D.Disk.told w.disk) (λ w. g.D.Disk.size w.disk) g.U.Outlet.took g.A.App.handler game made c.args.self.now c.args.node c.index_mut.result.now running low is in
    let steps = c.in_ok-send.ensures.steps game c.args.node (running.nodes c.args.node) up (sym own.mail.from) in
    send-leaves (λ w. g.D.Disk.told w.disk) (λ w. g.D.Disk.size w.disk) g.U.Outlet.took g.A.App.handler game made c.args.self.now (record c.args.self.now { stations = with_item c.args.self.now.stations c.from.result c.send.new.self; waiting = c.send.new.waiting }) c.args.node c.index_mut.result.now c.send.new.self running low is (refl, refl) (ap (λ k. slice_set c.args.self.now.stations.items k c.send.new.self) c.from.ensures)
    c.in_ok-send.ensures.emissions (subst (λ (u : ℕ). WereGiven u 0 c.args.self.now.waiting.acks c.send.new.waiting.acks []) own.mail.from c.in_ok-send.ensures.given) c.in_ok-send.ensures.rest steps

pub returns-clause-accounts : goal.returns-clause-accounts
returns-clause-accounts g c = λ terms game made running low accounted.
    let is : slice_index_or c.args.self.now.stations.items c.args.node c.index_mut.result.now ≡ c.index_mut.result.now = sym (c.index_mut.ensures.value ∙ ap (λ k. slice_index_or c.args.self.now.stations.items k c.index_mut.result.now) c.from.ensures) in
    let own = own-station (λ w. g.D.Disk.told w.disk) (λ w. g.D.Disk.size w.disk) g.U.Outlet.took g.A.App.handler game made c.args.self.now c.args.node c.index_mut.result.now running low is in
    let up = up-before (λ w. g.D.Disk.told w.disk) (λ w. g.D.Disk.size w.disk) g.U.Outlet.took g.A.App.handler game made c.args.self.now c.args.node c.index_mut.result.now running low is in
    let was = own-accounts (λ w. g.D.Disk.told w.disk) (λ w. g.D.Disk.faults w.disk) (λ w. g.D.Disk.fate w.disk) g.O.Oracle.telling terms game made c.args.self.now c.args.node c.index_mut.result.now low is accounted in
    send-accounts (λ w. g.D.Disk.told w.disk) (λ w. g.D.Disk.size w.disk) (λ w. g.D.Disk.faults w.disk) (λ w. g.D.Disk.fate w.disk) g.O.Oracle.telling terms game made c.args.self.now (record c.args.self.now { stations = with_item c.args.self.now.stations c.from.result c.send.new.self; waiting = c.send.new.waiting }) c.args.node c.index_mut.result.now c.send.new.self
    (running.nodes c.args.node) up running.stands.width low is (ap (λ k. slice_set c.args.self.now.stations.items k c.send.new.self) c.from.ensures) refl accounted
    (ap (λ x. x.luck) c.in_ok-send.ensures.rest) (ap (λ x. x.lines.items) c.in_ok-send.ensures.rest) (ap (λ x. x.restarts) c.in_ok-send.ensures.rest) (c.in_ok-send.ensures.synced game c.args.node was.books.synced) c.in_ok-send.ensures.disks _ (c.in_ok-send.ensures.steps game c.args.node (running.nodes c.args.node) up (sym own.mail.from)) c.in_ok-send.ensures.emissions

pub returns-clause-moves : goal.returns-clause-moves
returns-clause-moves g c = λ game made running low.
    let is : slice_index_or c.args.self.now.stations.items c.args.node c.index_mut.result.now ≡ c.index_mut.result.now = sym (c.index_mut.ensures.value ∙ ap (λ k. slice_index_or c.args.self.now.stations.items k c.index_mut.result.now) c.from.ensures) in
    let own = own-station (λ w. g.D.Disk.told w.disk) (λ w. g.D.Disk.size w.disk) g.U.Outlet.took g.A.App.handler game made c.args.self.now c.args.node c.index_mut.result.now running low is in
    let up = up-before (λ w. g.D.Disk.told w.disk) (λ w. g.D.Disk.size w.disk) g.U.Outlet.took g.A.App.handler game made c.args.self.now c.args.node c.index_mut.result.now running low is in
    let steps = c.in_ok-send.ensures.steps game c.args.node (running.nodes c.args.node) up (sym own.mail.from) in
    send-moves (λ w. g.D.Disk.told w.disk) (λ w. g.D.Disk.size w.disk) g.U.Outlet.took g.A.App.handler game made c.args.self.now (record c.args.self.now { stations = with_item c.args.self.now.stations c.from.result c.send.new.self; waiting = c.send.new.waiting }) c.args.node c.index_mut.result.now c.send.new.self running low is (refl, refl) (ap (λ k. slice_set c.args.self.now.stations.items k c.send.new.self) c.from.ensures) refl
    c.in_ok-send.ensures.emissions c.in_ok-send.ensures.refusals (subst (λ (u : ℕ). WereGiven u 0 c.args.self.now.waiting.acks c.send.new.waiting.acks []) own.mail.from c.in_ok-send.ensures.given) c.in_ok-send.ensures.rest steps

pub returns-clause-refused : goal.returns-clause-refused
returns-clause-refused g c = λ terms made low are.
    let is : slice_index_or c.args.self.now.stations.items c.args.node c.index_mut.result.now ≡ c.index_mut.result.now = sym (c.index_mut.ensures.value ∙ ap (λ k. slice_index_or c.args.self.now.stations.items k c.index_mut.result.now) c.from.ensures) in
    let same = c.in_ok-send.ensures.refusals in
    still-refused g.U.Outlet.faults g.U.Outlet.fate terms made c.args.self.now (record c.args.self.now { stations = with_item c.args.self.now.stations c.from.result c.send.new.self; waiting = c.send.new.waiting }) c.args.node c.index_mut.result.now c.send.new.self low (subst (λ n. c.args.node < n) (sym c.requires.running.stands.width) c.requires.known) is (ap (λ k. slice_set c.args.self.now.stations.items k c.send.new.self) c.from.ensures) are (omega (arith, same)) (ap (λ x. x.out) c.in_ok-send.ensures.rest)

pub returns-clause-called : goal.returns-clause-called
returns-clause-called g c =
    let is : slice_index_or c.args.self.now.stations.items c.args.node c.index_mut.result.now ≡ c.index_mut.result.now = sym (c.index_mut.ensures.value ∙ ap (λ k. slice_index_or c.args.self.now.stations.items k c.index_mut.result.now) c.from.ensures) in
    let own = own-station (λ w. g.D.Disk.told w.disk) (λ w. g.D.Disk.size w.disk) g.U.Outlet.took g.A.App.handler c.requires.game c.requires.made c.args.self.now c.args.node c.index_mut.result.now c.requires.running c.requires.known is in
    let up = up-before (λ w. g.D.Disk.told w.disk) (λ w. g.D.Disk.size w.disk) g.U.Outlet.took g.A.App.handler c.requires.game c.requires.made c.args.self.now c.args.node c.index_mut.result.now c.requires.running c.requires.known is in
    changes-at c.args.node c.from.result c.args.self.now (record c.args.self.now { stations = with_item c.args.self.now.stations c.from.result c.send.new.self; waiting = c.send.new.waiting }) c.index_mut.result.now c.send.new.self c.from.ensures (subst (λ n. c.args.node < n) (sym c.requires.running.stands.width) c.requires.known) is refl (λ a b. IsNotRestarted a b × KeepsImage (λ w. g.D.Disk.told w.disk) a b)
    (record { tries = ap (λ x. x.restarts) c.in_ok-send.ensures.rest; lines = ap (λ x. x.lines.items) c.in_ok-send.ensures.rest }, send-keeps (λ w. g.D.Disk.told w.disk) (λ w. g.D.Disk.size w.disk) c.requires.game c.args.node (c.requires.running.nodes c.args.node) c.index_mut.result.now c.send.new.self up {T = Unit {0}} {E = Unit {0}} (Ok tt) _ c.in_ok-send.ensures.disks (c.in_ok-send.ensures.steps c.requires.game c.args.node (c.requires.running.nodes c.args.node) up (sym own.mail.from)))

pub returns-in_err-send-clause-called : goal.returns-in_err-send-clause-called
returns-in_err-send-clause-called g c =
    let is : slice_index_or c.args.self.now.stations.items c.args.node c.index_mut.result.now ≡ c.index_mut.result.now = sym (c.index_mut.ensures.value ∙ ap (λ k. slice_index_or c.args.self.now.stations.items k c.index_mut.result.now) c.from.ensures) in
    call-broken _ c.from_residual.result (KeepsImage (λ w. g.D.Disk.told w.disk)) c.args.node c.args.self.now (record c.args.self.now { stations = with_item c.args.self.now.stations c.from.result c.send.new.self; waiting = c.send.new.waiting }) c.from_residual.ensures.1
    (changes-at c.args.node c.from.result c.args.self.now (record c.args.self.now { stations = with_item c.args.self.now.stations c.from.result c.send.new.self; waiting = c.send.new.waiting }) c.index_mut.result.now c.send.new.self c.from.ensures (subst (λ n. c.args.node < n) (sym c.requires.running.stands.width) c.requires.known) is refl IsNotRestarted (record { tries = ap (λ x. x.restarts) c.in_err-send.ensures.rest; lines = ap (λ x. x.lines.items) c.in_err-send.ensures.rest }))
