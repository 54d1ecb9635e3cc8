use Rattle.std.proofs.Common.{◌≡◌, ◌++◌, take}
use Rattle.ken_store.specs.Kept.{due_to}
use Rattle.ken_store.proofs.waiting.put_due.Given as goal

abbrev pub invariant-loop-message : goal.invariant-loop-message
invariant-loop-message l = l.messages.items ≡ l.initial.messages.items ++ due_to l.node l.to (take l.message-index l.due)
