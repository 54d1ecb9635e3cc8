use Rattle.std.proofs.Common.{◌≡◌, ◌+◌, ◌≤◌, length, drop}
use Rattle.ken_outbox.specs.Waiting.{sent_to}
use Rattle.ken_outbox.proofs.lines.count_for.Given as goal

abbrev pub invariant-loop-message : goal.invariant-loop-message
invariant-loop-message l = (l.count + length (sent_to l.node (drop l.message-index l.waiting)) ≡ length (sent_to l.node l.waiting)) × (l.count ≤ l.message-index)
