use Rattle.std.proofs.Common.{List}
use Rattle.std.specs.Vec.Iter.{into_iter_items}
use Rattle.ken_wire.specs.declared.take_end.TakeEnd.{TakeEnd}
use Rattle.ken_threads.proofs.Told.{HaveTold}
use Rattle.ken_threads.proofs.wiring.tell_all.Given as goal

abbrev pub invariant-loop-take : goal.invariant-loop-take
invariant-loop-take l = (done : List TakeEnd) × HaveTold l.fn.takes.items done (into_iter_items l.take-iterator)
