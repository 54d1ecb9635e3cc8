use Rattle.std.proofs.Common.{◌≡◌, ◌+◌}
use Rattle.ken_links.specs.Rings.{free, SamePushEnd}
use Rattle.ken_links_tests.proofs.rings.push_numbers.Given as goal

abbrev pub invariant-loop-number : goal.invariant-loop-number
invariant-loop-number l = SamePushEnd l.initial.push l.push × (free l.initial.push ≡ free l.push + l.number)
