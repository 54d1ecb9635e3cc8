use Rattle.ken_check.specs.Counts.{AreFresh}
use Rattle.ken_check.proofs.known.fresh.Given as goal

abbrev pub invariant-loop-node : goal.invariant-loop-node
invariant-loop-node l = AreFresh l._node (λ _. 0) l.nodes.items
