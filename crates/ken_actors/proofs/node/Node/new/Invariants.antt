use Rattle.std.proofs.Common.{◌≡◌, [], map, replicate}
use Rattle.ken_actors.proofs.node.Node.new.Given as goal

abbrev pub invariant-loop-node : goal.invariant-loop-node
invariant-loop-node l = map (λ v. v.items) l.sent.items ≡ replicate l._node []
