use Rattle.std.proofs.Common.{◌≡◌, ℕ, ◌+◌, ◌<◌, ◌^◌, ◌↔◌, Bool, IsTrue, subst, sym, arith}
use Rattle.std.specs.List.{Contains}
use Rattle.std.specs.Ordering.{nat_cmp}
use Rattle.std.specs.Cmp.{nat_cmp_total}
use Rattle.std.specs.BTreeSet.{BTreeSet, contains}
use Rattle.std.proofs.lemmas.Map.Lookups.{exact_unsigned}
use Rattle.std.proofs.lemmas.Map.Views.{btree_set_contains_iff}
use Rattle.ken_drive.specs.Outlets.{Taken, IsToFail}
use Rattle.ken_drive.proofs.outlet.MemOutlet.fails_next.Goals as goal

-- what a set answers at the call after so many
next : (set : BTreeSet ℕ) (calls call : ℕ) (found : Bool) → call ≡ calls + 1 → call < 2 ^ 64 → found ≡ contains nat_cmp set call → IsTrue found ↔ ((calls + 1 < 2 ^ 64) × Contains set.keys (calls + 1))
next set calls call found is fits answers =
    let listed = btree_set_contains_iff nat_cmp_total exact_unsigned set call in
    subst (λ n. IsTrue found ↔ ((n < 2 ^ 64) × Contains set.keys n)) is
    (λ yes. (fits, listed.0 (subst IsTrue answers yes)), λ both. subst IsTrue (sym answers) (listed.1 both.1))

pub returns-in-Some : goal.returns-in-Some
returns-in-Some c =
    let o = c.self.inside in
    subst (λ (o : Taken). IsTrue c.contains.result ↔ IsToFail o) c.self.view_is
    (next o.fails o.calls c.in-Some.call c.contains.result (omega arith) (omega arith) c.contains.ensures)
