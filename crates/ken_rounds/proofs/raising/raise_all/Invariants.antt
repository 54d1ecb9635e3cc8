use Rattle.std.proofs.Common.{◌≡◌, length}
use Rattle.ken_rounds.specs.Raising.{GoOnBelow}
use Rattle.ken_rounds.proofs.Risen.{AreAsBefore}
use Rattle.ken_rounds.proofs.raising.raise_all.Given as goal

abbrev pub invariant-loop-node : goal.invariant-loop-node
invariant-loop-node g l = record {
  count : length l.stations.items ≡ length l.fn.stations.items;
  before : GoOnBelow g.D.Disk g.O.Oracle l.most l.node l.faults l.fn.stations.items l.stations.items;
  after : AreAsBefore l.node l.fn.stations.items l.stations.items;
}
