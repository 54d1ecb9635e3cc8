use Rattle.std.proofs.Common.{◌≡◌, length}
use Rattle.ken_outbox.specs.Waiting.{past}
use Rattle.ken_outbox.proofs.line.Line.acknowledge.Given as goal

abbrev pub invariant-loop-self : goal.invariant-loop-self
invariant-loop-self l = (past l.through l.self.messages.items ≡ past l.through l.fn.self.messages.items) × (l.self.acked ≡ l.through)

abbrev pub decreases-loop-self : goal.decreases-loop-self
decreases-loop-self l = length l.self.messages.items
