use Rattle.std.proofs.Common.{ℕ, ◌<◌}
use Rattle.ken_work.specs.Capped.{HasHighCount}
use Rattle.ken_work.proofs.capped.has_high_count.Given as goal

-- no count of the nodes before is high
abbrev pub invariant-loop-node : goal.invariant-loop-node
invariant-loop-node g l = (k : ℕ) → k < l.node → HasHighCount l.side.numbers k → ⊥
