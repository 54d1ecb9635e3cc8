use Rattle.std.proofs.Common.{◌≤◌}
use Rattle.ken_links_tests.proofs.wires.put_all.Given as goal

abbrev pub invariant-loop-before : goal.invariant-loop-before
invariant-loop-before g l = l.put ≤ l.before
