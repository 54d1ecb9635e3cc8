use Rattle.std.proofs.Common.{◌≡◌, ◌+◌, drop}
use Rattle.std.specs.Prelude.{sum}
use Rattle.ken_store.proofs.bases.sum_is_within.Given as goal

abbrev pub invariant-loop-count : goal.invariant-loop-count
invariant-loop-count l = l.most + sum (drop l.count-index l.counts) ≡ l.left + sum l.counts
