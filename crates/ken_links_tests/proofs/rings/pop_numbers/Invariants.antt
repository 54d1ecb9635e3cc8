use Rattle.std.proofs.Common.{◌≤◌}
use Rattle.ken_links_tests.proofs.rings.pop_numbers.Given as goal

abbrev pub invariant-loop : goal.invariant-loop
invariant-loop l = l.next ≤ l.counter
