-- One node after the other says what it says.
use Rattle.std.proofs.Common.{◌≡◌, ◌<◌, slice_index_or, length, sym, subst, arith}
use Rattle.ken_drive.specs.Ended.{HaveSaid}
use Rattle.ken_drive.proofs.EndingRun.{created_there, ended_count, ended_width, none_said, one_said, rise_there}
use Rattle.ken_drive.proofs.report.gather.Goals as goal

pub loop-node-init : goal.loop-node-init
loop-node-init g c = none_said c.args.run.now.stations.items c.new-summary.result c.new-summary.ensures.timeline c.new-summary.ensures.emissions c.new-summary.ensures.restarts c.new-summary.ensures.heaps

pub station-requires : goal.station-requires
station-requires g c =
    let count = ended_count (λ w. g.D.Disk.told w.disk) (λ w. g.D.Disk.size w.disk) g.U.Outlet.took g.A.App.handler c.requires.game c.args.run.now c.requires.ended in
    let width = ended_width (λ w. g.D.Disk.told w.disk) (λ w. g.D.Disk.size w.disk) g.U.Outlet.took g.A.App.handler c.requires.game c.args.run.now c.requires.ended in
    omega (arith, count, width, c.nodes-node-end.ensures, c.loop-node-test.true)

pub add-requires-clause-created : goal.add-requires-clause-created
add-requires-clause-created g c =
    let is : slice_index_or c.args.run.now.stations.items c.loop-node.node c.station.result.now ≡ c.station.result.now = c.station.ensures c.station.result.now in
    created_there (λ w. g.D.Disk.told w.disk) (λ w. g.D.Disk.size w.disk) g.U.Outlet.took g.A.App.handler c.requires.game c.args.run.now c.requires.ended c.loop-node.node c.station.result.now
    (omega (arith, ended_count (λ w. g.D.Disk.told w.disk) (λ w. g.D.Disk.size w.disk) g.U.Outlet.took g.A.App.handler c.requires.game c.args.run.now c.requires.ended, c.nodes-node-end.ensures, c.loop-node-test.true)) is

pub add-requires-clause-rise : goal.add-requires-clause-rise
add-requires-clause-rise g c =
    let is : slice_index_or c.args.run.now.stations.items c.loop-node.node c.station.result.now ≡ c.station.result.now = c.station.ensures c.station.result.now in
    rise_there (λ w. g.D.Disk.told w.disk) (λ w. g.D.Disk.size w.disk) g.U.Outlet.took g.A.App.handler c.requires.game c.args.run.now c.requires.ended c.loop-node.node c.station.result.now
    (omega (arith, ended_count (λ w. g.D.Disk.told w.disk) (λ w. g.D.Disk.size w.disk) g.U.Outlet.took g.A.App.handler c.requires.game c.args.run.now c.requires.ended, c.nodes-node-end.ensures, c.loop-node-test.true)) is

pub add-requires-clause-fresh : goal.add-requires-clause-fresh
add-requires-clause-fresh g c = c.loop-node.invariant.others c.loop-node.node (omega arith)

pub loop-node-preserved : goal.loop-node-preserved
loop-node-preserved g c =
    let is : c.station.result.now ≡ slice_index_or c.args.run.now.stations.items c.loop-node.node c.station.result.now = sym (c.station.ensures c.station.result.now) in
    let count = ended_count (λ w. g.D.Disk.told w.disk) (λ w. g.D.Disk.size w.disk) g.U.Outlet.took g.A.App.handler c.requires.game c.args.run.now c.requires.ended in
    let width = ended_width (λ w. g.D.Disk.told w.disk) (λ w. g.D.Disk.size w.disk) g.U.Outlet.took g.A.App.handler c.requires.game c.args.run.now c.requires.ended in
    let within : c.loop-node.node < length c.args.run.now.stations.items = omega (arith, count, width, c.nodes-node-end.ensures, c.loop-node-test.true) in
    let added = c.in_ok-add.ensures in
    one_said c.loop-node.node c.args.run.now.stations.items c.station.result.now c.loop-node.summary c.add.new.self within is added.its_turns added.others added.emissions added.restarts added.words added.heap c.loop-node.invariant

pub returns : goal.returns
returns g c =
    let count = ended_count (λ w. g.D.Disk.told w.disk) (λ w. g.D.Disk.size w.disk) g.U.Outlet.took g.A.App.handler c.requires.game c.args.run.now c.requires.ended in
    let width = ended_width (λ w. g.D.Disk.told w.disk) (λ w. g.D.Disk.size w.disk) g.U.Outlet.took g.A.App.handler c.requires.game c.args.run.now c.requires.ended in
    let all : c.loop-node.node ≡ length c.args.run.now.stations.items = omega (arith, c.loop-node-test.false, c.loop-node.auto.node-end, c.nodes-node-end.ensures, count, width) in
    subst (λ n. HaveSaid n c.args.run.now.stations.items c.loop-node.summary) all c.loop-node.invariant
