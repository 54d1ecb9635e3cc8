use Rattle.std.proofs.Common.{refl, arith}
use Rattle.ken_lanes.proofs.Blocks.{agree_more}
use Rattle.ken_lanes.proofs.compare.same_blocks.Goals as goal

pub loop-at-init : goal.loop-at-init
loop-at-init c = record { first = omega arith; second = omega arith; same = refl }

pub overflow_sub-a : goal.overflow_sub-a
overflow_sub-a c = c.loop-at.invariant.first

pub overflow_sub-b : goal.overflow_sub-b
overflow_sub-b c = c.loop-at.invariant.second

pub loop-at-preserved : goal.loop-at-preserved
loop-at-preserved c = agree_more c.loop-at.at 32 c.args.a.now c.args.b.now c.loop-at.invariant (omega arith) (omega arith) (c.same_lanes.ensures.0 c.if-same_lanes.true)
