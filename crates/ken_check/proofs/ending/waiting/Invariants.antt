use Rattle.std.proofs.Common.{◌≡◌, ◌-◌, sum_by, take}
use Rattle.ken_check.proofs.ending.waiting.Given as goal

abbrev pub invariant-loop-known : goal.invariant-loop-known
invariant-loop-known l = l.waiting ≡ sum_by (λ k. k.came - k.turns) (take l.known-index l.nodes)
