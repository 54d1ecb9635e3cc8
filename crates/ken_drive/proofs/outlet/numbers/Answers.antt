use Rattle.std.proofs.Common.{ℕ, List, ◌↔◌, rules}
use Rattle.std.specs.List.{Contains}
use Rattle.std.specs.Ordering.{nat_cmp}
use Rattle.std.specs.Cmp.{nat_cmp_total}
use Rattle.std.specs.BTreeSet.{BTreeSet, IsFromIterResult}
use Rattle.std.proofs.lemmas.Result.{IfOk-weaker}
use Rattle.std.proofs.lemmas.Map.Lookups.{exact_unsigned}
use Rattle.std.proofs.lemmas.Map.Views.{btree_set_contains_iff, btree_set_contains_from_list}
use Rattle.ken_drive.proofs.outlet.numbers.Goals as goal

-- a set that is made of a list has the numbers on it
same_numbers : (list : List ℕ) (set : BTreeSet ℕ) → IsFromIterResult nat_cmp list set → (n : ℕ) → Contains set.keys n ↔ Contains list n
same_numbers list set made n =
    let kept = btree_set_contains_iff nat_cmp_total exact_unsigned set n in
    let listed = btree_set_contains_from_list nat_cmp_total exact_unsigned list set made n in
    (λ has. listed.0 (kept.1 has), λ has. kept.0 (listed.1 has))

pub returns : goal.returns
returns c = IfOk-weaker c.collect.result (IsFromIterResult nat_cmp c.args.list.now) _ (same_numbers c.args.list.now) (search rules)
