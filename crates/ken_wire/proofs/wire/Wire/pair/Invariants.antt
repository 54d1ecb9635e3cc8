use Rattle.std.proofs.Common.{◌≡◌, [], length}
use Rattle.ken_wire.specs.Ends.{taker_of, heard_of, made_of, joined_of, AreEnds, AreNew}
use Rattle.ken_wire.proofs.wire.Wire.pair.Given as goal

abbrev pub invariant-loop-node : goal.invariant-loop-node
invariant-loop-node l = record {
  ends : AreEnds 0 l.take l.sends.items;
  new : AreNew l.sends.items;
  count : (length l.sends.items ≡ l._node) × (made_of l.take ≡ l._node);
  take : (taker_of l.take ≡ l.fn.to) × (heard_of l.take ≡ []) × (joined_of l.take ≡ []);
}
