use Rattle.std.proofs.Common.{ℕ, rules}
use Rattle.std.proofs.lemmas.List.Sorted.{IsNonDecreasingBy-from_sort_by_key}
use Rattle.ken_memdisk.proofs.picks.by_start.Goals as goal

pub returns-clause-rising : goal.returns-clause-rising
returns-clause-rising c =
    IsNonDecreasingBy-from_sort_by_key (λ (range : ℕ × ℕ). range.0) _ c.sort_unstable_by_key.ensures.sorted (λ a r q k. search rules)
