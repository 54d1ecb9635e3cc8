-- That the facts which a group keeps have one proof at most.
use Rattle.std.specs.Prelude.{◌≡◌, ℕ, ◌*◌, ◌<◌, ◌≤◌}
use Rattle.std.proofs.Common.{sym, ◌∙◌}
use Rattle.std.proofs.Math.Nat.{zero-lt-suc, eq_of_mul-eq-mul_left, ℕ_set}
use Rattle.std.specs.Coded.{le_prop}
use mathlib.Core.HLevel.{is_prop→PathP}

-- there is one number of pages
pub pages-prop : (size : ℕ) → IsProp ((n : ℕ) × (0 < n) × (n ≤ 4096) × (size ≡ 256 * n))
pages-prop size u v =
    let e : u.0 ≡ v.0 = eq_of_mul-eq-mul_left 256 (zero-lt-suc 255) u.0 v.0 (sym u.3 ∙ v.3) in
    λ i. (
      e i,
      is_prop→PathP (λ j. 0 < e j) (λ _. le_prop) u.1 v.1 i,
      is_prop→PathP (λ j. e j ≤ 4096) (λ _. le_prop) u.2 v.2 i,
      is_prop→PathP (λ j. size ≡ 256 * e j) (λ j. ℕ_set size (256 * e j)) u.3 v.3 i,
    )
