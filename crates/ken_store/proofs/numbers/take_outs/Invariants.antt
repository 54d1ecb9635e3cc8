use Rattle.ken_store.proofs.Follows.{OutsFollow}
use Rattle.ken_store.proofs.numbers.take_outs.Given as goal

abbrev pub invariant-loop-out : goal.invariant-loop-out
invariant-loop-out l = OutsFollow l.initial.last l.outs l.out-index l.last
