-- One node after the other.
use Rattle.std.proofs.Common.{arith}
use Rattle.ken_drive.proofs.EndingRun.{waiting_more, waiting_whole}
use Rattle.ken_drive.proofs.report.waiting.Goals as goal

pub overflow_add-waiting : goal.overflow_add-waiting
overflow_add-waiting g c =
    let more = waiting_more (λ w. g.D.Disk.told w.disk) (λ w. g.D.Disk.size w.disk) g.U.Outlet.took g.A.App.handler c.requires.game c.args.run.now c.requires.ended c.loop-node.waiting c.loop-node.node c.waiting_for-waiting.result (omega (arith, c.nodes-node-end.ensures, c.loop-node-test.true))
    (c.loop-node.invariant c.requires.game c.requires.ended) (c.waiting_for-waiting.ensures c.requires.game c.requires.ended) in
    omega (arith, more.1)

pub loop-node-preserved : goal.loop-node-preserved
loop-node-preserved g c = λ game e.
    (waiting_more (λ w. g.D.Disk.told w.disk) (λ w. g.D.Disk.size w.disk) g.U.Outlet.took g.A.App.handler game c.args.run.now e c.loop-node.waiting c.loop-node.node c.waiting_for-waiting.result (omega (arith, c.nodes-node-end.ensures, c.loop-node-test.true))
    (c.loop-node.invariant game e) (c.waiting_for-waiting.ensures game e)).0

pub returns : goal.returns
returns g c = λ game e.
    waiting_whole (λ w. g.D.Disk.told w.disk) (λ w. g.D.Disk.size w.disk) g.U.Outlet.took g.A.App.handler game c.args.run.now e c.loop-node.node c.loop-node.waiting (omega (arith, c.loop-node-test.false, c.loop-node.auto.node-end, c.nodes-node-end.ensures)) (c.loop-node.invariant game e)
