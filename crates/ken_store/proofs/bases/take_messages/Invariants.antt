use Rattle.ken_store.proofs.Follows.{MessagesFollow}
use Rattle.ken_store.proofs.bases.take_messages.Given as goal

abbrev pub invariant-loop-message : goal.invariant-loop-message
invariant-loop-message l = MessagesFollow l.nodes l.stamp l.initial.last l.messages l.message-index l.last
