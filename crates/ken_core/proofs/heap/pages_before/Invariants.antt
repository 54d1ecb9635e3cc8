use Rattle.std.proofs.Common.{◌≡◌, take}
use Rattle.ken_core.specs.Heaps.{pages_before}
use Rattle.ken_core.proofs.heap.pages_before.Given as goal

abbrev pub invariant-loop-changed : goal.invariant-loop-changed
invariant-loop-changed l = l.before.items ≡ pages_before l.heap (take l.changed-index l.pages)
