use Rattle.std.proofs.Common.{◌≡◌, length}
use Rattle.ken_wire.specs.Rounds.{AreNext, AreUnused}
use Rattle.ken_wire.proofs.rounds.takers.Given as goal

abbrev pub invariant-loop-to : goal.invariant-loop-to
invariant-loop-to l = record {
  count : length l.takes.items ≡ l.to;
  next : AreNext 0 l.takes.items;
  new : AreUnused l.takes.items;
}
