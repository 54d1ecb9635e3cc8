use Rattle.std.proofs.Common.{◌≡◌, ◌++◌, length, map}
use Rattle.std.specs.Vec.Iter.{into_iter_items}
use Rattle.ken_wire.specs.Ends.{sent_of, taker_of, heard_of, made_of, joined_of, AreEnds}
use Rattle.ken_wire.proofs.wire.close.Given as goal

abbrev pub invariant-loop-end : goal.invariant-loop-end
invariant-loop-end l = record {
  ends : AreEnds (length (joined_of l.take)) l.take (into_iter_items l.end-iterator);
  all : joined_of l.take ++ map sent_of (into_iter_items l.end-iterator) ≡ map sent_of (into_iter_items l.initial.end-iterator);
  take : (taker_of l.take ≡ taker_of l.initial.take) × (heard_of l.take ≡ heard_of l.initial.take) × (made_of l.take ≡ made_of l.initial.take);
}
