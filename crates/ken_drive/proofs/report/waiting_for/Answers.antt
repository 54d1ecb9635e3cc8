-- What waits for a node, of one sender after the other.
use Rattle.std.proofs.Common.{◌≡◌, ◌<◌, ◌-◌, inl, inr, slice_index_or, refl, arith}
use Rattle.ken_drive.proofs.EndingRun.{created_there, ended_count, ended_width, up_there, waiting_for_more, waiting_none, waits_of_inputs, waits_of_node, waits_whole}
use Rattle.ken_drive.proofs.report.waiting_for.Goals as goal

pub station-requires : goal.station-requires
station-requires g c = omega (arith, ended_count (λ w. g.D.Disk.told w.disk) (λ w. g.D.Disk.size w.disk) g.U.Outlet.took g.A.App.handler c.requires.ended.game c.args.run.now c.requires.ended.ended, ended_width (λ w. g.D.Disk.told w.disk) (λ w. g.D.Disk.size w.disk) g.U.Outlet.took g.A.App.handler c.requires.ended.game c.args.run.now c.requires.ended.ended, c.requires.known)

pub inputs-requires : goal.inputs-requires
inputs-requires g c =
    let count = ended_count (λ w. g.D.Disk.told w.disk) (λ w. g.D.Disk.size w.disk) g.U.Outlet.took g.A.App.handler c.requires.ended.game c.args.run.now c.requires.ended.ended in
    let is : slice_index_or c.args.run.now.stations.items c.args.node c.station.result.now ≡ c.station.result.now = c.station.ensures c.station.result.now in
    created_there (λ w. g.D.Disk.told w.disk) (λ w. g.D.Disk.size w.disk) g.U.Outlet.took g.A.App.handler c.requires.ended.game c.args.run.now c.requires.ended.ended c.args.node c.station.result.now (omega (arith, count, c.requires.known)) is

pub consumed-requires : goal.consumed-requires
consumed-requires g c =
    let count = ended_count (λ w. g.D.Disk.told w.disk) (λ w. g.D.Disk.size w.disk) g.U.Outlet.took g.A.App.handler c.requires.ended.game c.args.run.now c.requires.ended.ended in
    let is : slice_index_or c.args.run.now.stations.items c.args.node c.station.result.now ≡ c.station.result.now = c.station.ensures c.station.result.now in
    created_there (λ w. g.D.Disk.told w.disk) (λ w. g.D.Disk.size w.disk) g.U.Outlet.took g.A.App.handler c.requires.ended.game c.args.run.now c.requires.ended.ended c.args.node c.station.result.now (omega (arith, count, c.requires.known)) is

pub consumed-requires-in-loop-sender : goal.consumed-requires-in-loop-sender
consumed-requires-in-loop-sender g c =
    let count = ended_count (λ w. g.D.Disk.told w.disk) (λ w. g.D.Disk.size w.disk) g.U.Outlet.took g.A.App.handler c.requires.ended.game c.args.run.now c.requires.ended.ended in
    let is : slice_index_or c.args.run.now.stations.items c.args.node c.station.result.now ≡ c.station.result.now = c.station.ensures c.station.result.now in
    created_there (λ w. g.D.Disk.told w.disk) (λ w. g.D.Disk.size w.disk) g.U.Outlet.took g.A.App.handler c.requires.ended.game c.args.run.now c.requires.ended.ended c.args.node c.station.result.now (omega (arith, count, c.requires.known)) is

pub overflow_sub-waiting : goal.overflow_sub-waiting
overflow_sub-waiting g c =
    let at = c.requires.ended.ended.running.nodes in
    let count = ended_count (λ w. g.D.Disk.told w.disk) (λ w. g.D.Disk.size w.disk) g.U.Outlet.took g.A.App.handler c.requires.ended.game c.args.run.now c.requires.ended.ended in
    let is : slice_index_or c.args.run.now.stations.items c.args.node c.station.result.now ≡ c.station.result.now = c.station.ensures c.station.result.now in
    let low : c.args.node < c.requires.ended.game.nodes = omega (arith, count, c.requires.known) in
    let up = up_there (λ w. g.D.Disk.told w.disk) (λ w. g.D.Disk.size w.disk) g.U.Outlet.took g.A.App.handler c.requires.ended.game c.args.run.now c.requires.ended.ended c.args.node c.station.result.now low is in
    (waits_of_inputs (λ w. g.D.Disk.told w.disk) (λ w. g.D.Disk.size w.disk) g.U.Outlet.took g.A.App.handler c.requires.ended.game c.args.run.now c.requires.ended.ended c.args.node c.inputs.result c.consumed.result (c.inputs.ensures c.requires.ended.game c.args.node (at c.args.node) up) (c.consumed.ensures c.requires.ended.game c.args.node (at c.args.node) up (inr refl))).0

pub loop-sender-init : goal.loop-sender-init
loop-sender-init g c = λ game e.
    let at = e.running.nodes in
    let count = ended_count (λ w. g.D.Disk.told w.disk) (λ w. g.D.Disk.size w.disk) g.U.Outlet.took g.A.App.handler game c.args.run.now e in
    let is : slice_index_or c.args.run.now.stations.items c.args.node c.station.result.now ≡ c.station.result.now = c.station.ensures c.station.result.now in
    let low : c.args.node < game.nodes = omega (arith, count, c.requires.known) in
    let up = up_there (λ w. g.D.Disk.told w.disk) (λ w. g.D.Disk.size w.disk) g.U.Outlet.took g.A.App.handler game c.args.run.now e c.args.node c.station.result.now low is in
    waiting_none (λ w. g.D.Disk.told w.disk) (λ w. g.D.Disk.size w.disk) g.U.Outlet.took g.A.App.handler game c.args.run.now e c.args.node (c.inputs.result - c.consumed.result) (waits_of_inputs (λ w. g.D.Disk.told w.disk) (λ w. g.D.Disk.size w.disk) g.U.Outlet.took g.A.App.handler game c.args.run.now e c.args.node c.inputs.result c.consumed.result (c.inputs.ensures game c.args.node (at c.args.node) up) (c.consumed.ensures game c.args.node (at c.args.node) up (inr refl))).1

pub station-requires-in-loop-sender : goal.station-requires-in-loop-sender
station-requires-in-loop-sender g c = omega (arith, ended_count (λ w. g.D.Disk.told w.disk) (λ w. g.D.Disk.size w.disk) g.U.Outlet.took g.A.App.handler c.requires.ended.game c.args.run.now c.requires.ended.ended, ended_width (λ w. g.D.Disk.told w.disk) (λ w. g.D.Disk.size w.disk) g.U.Outlet.took g.A.App.handler c.requires.ended.game c.args.run.now c.requires.ended.ended, c.nodes-sender-end.ensures, c.loop-sender-test.true)

pub sent-sent-requires-clause-created : goal.sent-sent-requires-clause-created
sent-sent-requires-clause-created g c =
    let count = ended_count (λ w. g.D.Disk.told w.disk) (λ w. g.D.Disk.size w.disk) g.U.Outlet.took g.A.App.handler c.requires.ended.game c.args.run.now c.requires.ended.ended in
    let there : slice_index_or c.args.run.now.stations.items c.loop-sender.sender c.station-in-loop-sender.result.now ≡ c.station-in-loop-sender.result.now = c.station-in-loop-sender.ensures c.station-in-loop-sender.result.now in
    created_there (λ w. g.D.Disk.told w.disk) (λ w. g.D.Disk.size w.disk) g.U.Outlet.took g.A.App.handler c.requires.ended.game c.args.run.now c.requires.ended.ended c.loop-sender.sender c.station-in-loop-sender.result.now (omega (arith, count, c.nodes-sender-end.ensures, c.loop-sender-test.true)) there

pub overflow_sub-waiting-in-loop-sender : goal.overflow_sub-waiting-in-loop-sender
overflow_sub-waiting-in-loop-sender g c =
    let at = c.requires.ended.ended.running.nodes in
    let count = ended_count (λ w. g.D.Disk.told w.disk) (λ w. g.D.Disk.size w.disk) g.U.Outlet.took g.A.App.handler c.requires.ended.game c.args.run.now c.requires.ended.ended in
    let is : slice_index_or c.args.run.now.stations.items c.args.node c.station.result.now ≡ c.station.result.now = c.station.ensures c.station.result.now in
    let low : c.args.node < c.requires.ended.game.nodes = omega (arith, count, c.requires.known) in
    let up = up_there (λ w. g.D.Disk.told w.disk) (λ w. g.D.Disk.size w.disk) g.U.Outlet.took g.A.App.handler c.requires.ended.game c.args.run.now c.requires.ended.ended c.args.node c.station.result.now low is in
    let there : slice_index_or c.args.run.now.stations.items c.loop-sender.sender c.station-in-loop-sender.result.now ≡ c.station-in-loop-sender.result.now = c.station-in-loop-sender.ensures c.station-in-loop-sender.result.now in
    let next : c.loop-sender.sender < c.requires.ended.game.nodes = omega (arith, count, c.nodes-sender-end.ensures, c.loop-sender-test.true) in
    let up2 = up_there (λ w. g.D.Disk.told w.disk) (λ w. g.D.Disk.size w.disk) g.U.Outlet.took g.A.App.handler c.requires.ended.game c.args.run.now c.requires.ended.ended c.loop-sender.sender c.station-in-loop-sender.result.now next there in
    (waits_of_node (λ w. g.D.Disk.told w.disk) (λ w. g.D.Disk.size w.disk) g.U.Outlet.took g.A.App.handler c.requires.ended.game c.args.run.now c.requires.ended.ended c.loop-sender.sender c.args.node c.sent-sent.result c.consumed-in-loop-sender.result (omega (arith, c.nodes-sender-end.ensures, c.loop-sender-test.true)) (c.sent-sent.ensures c.requires.ended.game c.loop-sender.sender (at c.loop-sender.sender) up2) (c.consumed-in-loop-sender.ensures c.requires.ended.game c.args.node (at c.args.node) up (inl (omega (arith, next, c.requires.ended.ended.running.stands.limits.few_nodes))))).0

pub overflow_add-waiting : goal.overflow_add-waiting
overflow_add-waiting g c =
    let at = c.requires.ended.ended.running.nodes in
    let count = ended_count (λ w. g.D.Disk.told w.disk) (λ w. g.D.Disk.size w.disk) g.U.Outlet.took g.A.App.handler c.requires.ended.game c.args.run.now c.requires.ended.ended in
    let is : slice_index_or c.args.run.now.stations.items c.args.node c.station.result.now ≡ c.station.result.now = c.station.ensures c.station.result.now in
    let low : c.args.node < c.requires.ended.game.nodes = omega (arith, count, c.requires.known) in
    let up = up_there (λ w. g.D.Disk.told w.disk) (λ w. g.D.Disk.size w.disk) g.U.Outlet.took g.A.App.handler c.requires.ended.game c.args.run.now c.requires.ended.ended c.args.node c.station.result.now low is in
    let there : slice_index_or c.args.run.now.stations.items c.loop-sender.sender c.station-in-loop-sender.result.now ≡ c.station-in-loop-sender.result.now = c.station-in-loop-sender.ensures c.station-in-loop-sender.result.now in
    let next : c.loop-sender.sender < c.requires.ended.game.nodes = omega (arith, count, c.nodes-sender-end.ensures, c.loop-sender-test.true) in
    let up2 = up_there (λ w. g.D.Disk.told w.disk) (λ w. g.D.Disk.size w.disk) g.U.Outlet.took g.A.App.handler c.requires.ended.game c.args.run.now c.requires.ended.ended c.loop-sender.sender c.station-in-loop-sender.result.now next there in
    let waits = waits_of_node (λ w. g.D.Disk.told w.disk) (λ w. g.D.Disk.size w.disk) g.U.Outlet.took g.A.App.handler c.requires.ended.game c.args.run.now c.requires.ended.ended c.loop-sender.sender c.args.node c.sent-sent.result c.consumed-in-loop-sender.result (omega (arith, c.nodes-sender-end.ensures, c.loop-sender-test.true)) (c.sent-sent.ensures c.requires.ended.game c.loop-sender.sender (at c.loop-sender.sender) up2) (c.consumed-in-loop-sender.ensures c.requires.ended.game c.args.node (at c.args.node) up (inl (omega (arith, next, c.requires.ended.ended.running.stands.limits.few_nodes)))) in
    let more = waiting_for_more (λ w. g.D.Disk.told w.disk) (λ w. g.D.Disk.size w.disk) g.U.Outlet.took g.A.App.handler c.requires.ended.game c.args.run.now c.requires.ended.ended c.args.node c.loop-sender.sender c.loop-sender.waiting (c.sent-sent.result - c.consumed-in-loop-sender.result) c.requires.known (omega (arith, c.nodes-sender-end.ensures, c.loop-sender-test.true)) (c.loop-sender.invariant c.requires.ended.game c.requires.ended.ended) waits.1 in
    omega (arith, more.1)

pub loop-sender-preserved : goal.loop-sender-preserved
loop-sender-preserved g c = λ game e.
    let at = e.running.nodes in
    let count = ended_count (λ w. g.D.Disk.told w.disk) (λ w. g.D.Disk.size w.disk) g.U.Outlet.took g.A.App.handler game c.args.run.now e in
    let is : slice_index_or c.args.run.now.stations.items c.args.node c.station.result.now ≡ c.station.result.now = c.station.ensures c.station.result.now in
    let low : c.args.node < game.nodes = omega (arith, count, c.requires.known) in
    let up = up_there (λ w. g.D.Disk.told w.disk) (λ w. g.D.Disk.size w.disk) g.U.Outlet.took g.A.App.handler game c.args.run.now e c.args.node c.station.result.now low is in
    let there : slice_index_or c.args.run.now.stations.items c.loop-sender.sender c.station-in-loop-sender.result.now ≡ c.station-in-loop-sender.result.now = c.station-in-loop-sender.ensures c.station-in-loop-sender.result.now in
    let next : c.loop-sender.sender < game.nodes = omega (arith, count, c.nodes-sender-end.ensures, c.loop-sender-test.true) in
    let up2 = up_there (λ w. g.D.Disk.told w.disk) (λ w. g.D.Disk.size w.disk) g.U.Outlet.took g.A.App.handler game c.args.run.now e c.loop-sender.sender c.station-in-loop-sender.result.now next there in
    let waits = waits_of_node (λ w. g.D.Disk.told w.disk) (λ w. g.D.Disk.size w.disk) g.U.Outlet.took g.A.App.handler game c.args.run.now e c.loop-sender.sender c.args.node c.sent-sent.result c.consumed-in-loop-sender.result (omega (arith, c.nodes-sender-end.ensures, c.loop-sender-test.true)) (c.sent-sent.ensures game c.loop-sender.sender (at c.loop-sender.sender) up2) (c.consumed-in-loop-sender.ensures game c.args.node (at c.args.node) up (inl (omega (arith, next, e.running.stands.limits.few_nodes)))) in
    let more = waiting_for_more (λ w. g.D.Disk.told w.disk) (λ w. g.D.Disk.size w.disk) g.U.Outlet.took g.A.App.handler game c.args.run.now e c.args.node c.loop-sender.sender c.loop-sender.waiting (c.sent-sent.result - c.consumed-in-loop-sender.result) c.requires.known (omega (arith, c.nodes-sender-end.ensures, c.loop-sender-test.true)) (c.loop-sender.invariant game e) waits.1 in
    more.0

pub returns : goal.returns
returns g c = λ game e.
    waits_whole (λ w. g.D.Disk.told w.disk) (λ w. g.D.Disk.size w.disk) g.U.Outlet.took g.A.App.handler game c.args.run.now e c.args.node c.loop-sender.sender c.loop-sender.waiting (omega (arith, c.loop-sender-test.false, c.loop-sender.auto.sender-end, c.nodes-sender-end.ensures)) (c.loop-sender.invariant game e)
