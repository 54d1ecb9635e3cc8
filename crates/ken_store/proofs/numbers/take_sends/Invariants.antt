use Rattle.ken_store.proofs.Follows.{SendsFollow}
use Rattle.ken_store.proofs.numbers.take_sends.Given as goal

abbrev pub invariant-loop-send : goal.invariant-loop-send
invariant-loop-send l = SendsFollow l.nodes l.initial.sent l.sends l.send-index l.sent
