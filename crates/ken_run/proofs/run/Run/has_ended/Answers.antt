-- Whether a run has ended.
use Rattle.std.proofs.Common.{arith}
use Rattle.ken_run.specs.Endings.{IsDone}
use Rattle.ken_run.proofs.AtEnd.{all-done, below-made, ended-done, may-work, one-more}
use Rattle.ken_run.proofs.run.Run.has_ended.Goals as goal

pub is_busy-requires : goal.is_busy-requires
is_busy-requires g c = may-work (λ w. g.D.Disk.told w.disk) (λ w. g.D.Disk.size w.disk) g.U.Outlet.took g.A.App.handler c.args.self.now c.loop-node.node c.loop-node-test.true c.requires

pub returns-then-is_busy-clause-goes_on : goal.returns-then-is_busy-clause-goes_on
returns-then-is_busy-clause-goes_on g c = λ no game made is all ended.
    let below = below-made (λ w. g.D.Disk.told w.disk) (λ w. g.D.Disk.size w.disk) g.U.Outlet.took g.A.App.handler c.args.self.now game made c.loop-node.node is c.loop-node-test.true in
    c.is_busy.ensures.busy c.if-is_busy.true game made is below all (ended-done game is.emissions is.nodes c.loop-node.node (omega (arith, below, all)) ended)

pub loop-node-preserved : goal.loop-node-preserved
loop-node-preserved g c = λ game made is all.
    let below = below-made (λ w. g.D.Disk.told w.disk) (λ w. g.D.Disk.size w.disk) g.U.Outlet.took g.A.App.handler c.args.self.now game made c.loop-node.node is c.loop-node-test.true in
    one-more (IsDone game is.emissions is.nodes) c.loop-node.node (c.loop-node.invariant game made is all) (c.is_busy.ensures.done c.if-is_busy.false game made is below all)

pub returns-clause-ended : goal.returns-clause-ended
returns-clause-ended g c = λ yes game made is all.
    let count = is.stands.count in
    let past = c.loop-node-test.false in
    all-done game is.emissions is.nodes c.loop-node.node (omega (arith, count, past, all)) (λ v below known. c.loop-node.invariant game made is all v below)
