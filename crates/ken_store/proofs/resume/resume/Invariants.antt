use Rattle.ken_store.proofs.Places.{Resumed}
use Rattle.ken_store.proofs.resume.resume.Given as goal

abbrev pub invariant-loop-index : goal.invariant-loop-index
invariant-loop-index l = Resumed l.owner l.fn.start l.records l.index l.numbers
