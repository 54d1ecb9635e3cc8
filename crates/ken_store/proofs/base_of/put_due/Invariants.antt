use Rattle.std.proofs.Common.{◌≡◌, ◌++◌, filter, take}
use Rattle.ken_store.specs.Turnovers.{is_due}
use Rattle.ken_store.proofs.base_of.put_due.Given as goal

abbrev pub invariant-loop-message : goal.invariant-loop-message
invariant-loop-message l = l.messages.items ≡ l.initial.messages.items ++ filter (is_due l.acked l.to) (take l.message-index l.due)
