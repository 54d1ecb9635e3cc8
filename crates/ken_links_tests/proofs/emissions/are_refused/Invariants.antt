use Rattle.std.proofs.Common.{◌≡◌}
use Rattle.ken_links.specs.Rings.{free}
use Rattle.ken_links_tests.proofs.emissions.are_refused.Given as goal

abbrev pub invariant-loop-call : goal.invariant-loop-call
invariant-loop-call l = free l.worker.told ≡ free l.fn.worker.told
