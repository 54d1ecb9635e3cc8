use Rattle.std.proofs.Common.{length, ◌-◌}
use Rattle.ken_lanes.specs.Differences.{Agree}
use Rattle.ken_lanes.proofs.compare.first_difference.Given as goal

abbrev pub invariant-loop-at : goal.invariant-loop-at
invariant-loop-at l = Agree l.at l.a l.b

abbrev pub decreases-loop-at : goal.decreases-loop-at
decreases-loop-at l = length l.a - l.at
