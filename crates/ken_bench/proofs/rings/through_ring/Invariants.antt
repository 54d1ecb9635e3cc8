use Rattle.std.proofs.Common.{◌≡◌, ◌*◌}
use Rattle.ken_bench.specs.Rings.{IsEmptied}
use Rattle.ken_bench.proofs.rings.through_ring.Given as goal

abbrev pub invariant-loop : goal.invariant-loop
invariant-loop l = IsEmptied l.push l.pop × (l.moved ≡ l.counter * 48)
