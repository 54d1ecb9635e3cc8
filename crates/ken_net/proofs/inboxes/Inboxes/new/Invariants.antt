use Rattle.std.proofs.Common.{◌≡◌, [], replicate}
use Rattle.ken_net.proofs.inboxes.Inboxes.new.Given as goal

abbrev pub invariant-loop-node : goal.invariant-loop-node
invariant-loop-node l = l.boxes.items ≡ replicate l._node []
