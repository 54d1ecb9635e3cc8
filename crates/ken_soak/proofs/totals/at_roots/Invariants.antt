use Rattle.std.proofs.Common.{◌≡◌, map, take}
use Rattle.ken_soak.specs.Totals.{at_root}
use Rattle.ken_soak.proofs.totals.at_roots.Given as goal

-- the nodes so far have their roots
abbrev pub invariant-loop-heap : goal.invariant-loop-heap
invariant-loop-heap l = l.totals.items ≡ map at_root (take l.heap-index l.heaps)
