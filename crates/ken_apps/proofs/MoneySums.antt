-- Sums over the nodes of a run, of which one or none changes.
use Rattle.std.proofs.Common.{◌≡◌, ℕ, zero, suc, ◌+◌, ◌*◌, ◌<◌, ◌≤◌, List, [], ◌∷◌, Bool, true, false, ◌==◌, ◌&&◌, nat_lt, if◌then◌else◌, ⊎_elim, refl, ◌∙◌, arith, eq-eqb, ne_eqb}
use Rattle.std.proofs.Math.Nat.{suc-mul}
use Rattle.std.specs.Prelude.{sum_by}
use Rattle.std.specs.List.{range_with_len}
use Rattle.std.proofs.lemmas.Bool.{cases_eq}
use Rattle.std.proofs.lemmas.Bool.Decides.{nat_tests}
use Rattle.std.proofs.lemmas.List.Sums.{sum_by-cons}

-- terms that balance have sums that balance
pub sum_balance : {X : Type 0} (f g h k : X → ℕ) (xs : List X) → ((x : X) → f x + g x ≡ h x + k x) → sum_by f xs + sum_by g xs ≡ sum_by h xs + sum_by k xs
sum_balance f g h k [] each = refl
sum_balance f g h k (x ∷ xs) each = omega (arith, sum_by-cons f x xs, sum_by-cons g x xs, sum_by-cons h x xs, sum_by-cons k x xs, each x, sum_balance f g h k xs each)

pub sum_both : {X : Type 0} (f g h : X → ℕ) (xs : List X) → ((x : X) → f x ≡ g x + h x) → sum_by f xs ≡ sum_by g xs + sum_by h xs
sum_both f g h [] each = refl
sum_both f g h (x ∷ xs) each = omega (arith, sum_by-cons f x xs, sum_by-cons g x xs, sum_by-cons h x xs, each x, sum_both f g h xs each)

pub sum_same : {X : Type 0} (f g : X → ℕ) (xs : List X) → ((x : X) → f x ≡ g x) → sum_by f xs ≡ sum_by g xs
sum_same f g [] each = refl
sum_same f g (x ∷ xs) each = omega (arith, sum_by-cons f x xs, sum_by-cons g x xs, each x, sum_same f g xs each)

pub sum_zero : {X : Type 0} (f : X → ℕ) (xs : List X) → ((x : X) → f x ≡ 0) → sum_by f xs ≡ 0
sum_zero f [] each = refl
sum_zero f (x ∷ xs) each = omega (arith, sum_by-cons f x xs, each x, sum_zero f xs each)

-- a sum of nothing, of the places from a to a + len
pub sum_none : (f : ℕ → ℕ) (a len : ℕ) → ((x : ℕ) → x < a + len → f x ≡ 0) → sum_by f (range_with_len a len) ≡ 0
sum_none f a zero each = refl
sum_none f a (suc len) each = omega (arith, sum_by-cons f a (range_with_len (a + 1) len), each a (omega arith), sum_none f (a + 1) len (λ x less. each x (omega (arith, less))))

-- a sum of terms that are at most m
pub sum_below : (f : ℕ → ℕ) (m a len : ℕ) → ((x : ℕ) → f x ≤ m) → sum_by f (range_with_len a len) ≤ len * m
sum_below f m a zero each = omega arith
sum_below f m a (suc len) each = omega (arith, sum_by-cons f a (range_with_len (a + 1) len), each a, sum_below f m (a + 1) len each, suc-mul len m)

-- a term at one place
abbrev pub at_one : ℕ → ℕ → ℕ → ℕ
at_one n c x = if x == n then c else 0

none_of : (n c a len : ℕ) → n < a → sum_by (at_one n c) (range_with_len a len) ≡ 0
none_of n c a zero less = refl
none_of n c a (suc len) less =
    let other : (a == n) ≡ false = ne_eqb a n (λ e. omega (arith, e, less)) in
    let first : at_one n c a ≡ 0 = rw other refl in
    omega (arith, sum_by-cons (at_one n c) a (range_with_len (a + 1) len), first, none_of n c (a + 1) len (omega (arith, less)))

one_of : (n c a len : ℕ) → a ≤ n → n < a + len → sum_by (at_one n c) (range_with_len a len) ≡ c
one_of n c a zero from to = absurd (omega (arith, from, to))
one_of n c a (suc len) from to =
    ⊎_elim
    (λ e. let here : (a == n) ≡ true = eq-eqb a n e in
    let first : at_one n c a ≡ c = rw here refl in
    omega (arith, sum_by-cons (at_one n c) a (range_with_len (a + 1) len), first, none_of n c (a + 1) len (omega (arith, e))))
    (λ ne. let other : (a == n) ≡ false = ne_eqb a n ne in
    let first : at_one n c a ≡ 0 = rw other refl in
    omega (arith, sum_by-cons (at_one n c) a (range_with_len (a + 1) len), first, one_of n c (a + 1) len (omega (arith, from, ne)) (omega (arith, to))))
    (cases_eq a n)

past_all : (n c a len : ℕ) → a + len ≤ n → sum_by (at_one n c) (range_with_len a len) ≡ 0
past_all n c a zero past = refl
past_all n c a (suc len) past =
    let other : (a == n) ≡ false = ne_eqb a n (λ e. omega (arith, e, past)) in
    let first : at_one n c a ≡ 0 = rw other refl in
    omega (arith, sum_by-cons (at_one n c) a (range_with_len (a + 1) len), first, past_all n c (a + 1) len (omega (arith, past)))

-- of the places below a number
pub sum_one : (n c len : ℕ) → n < len → sum_by (at_one n c) (range_with_len 0 len) ≡ c
sum_one n c len less = one_of n c 0 len (omega arith) (omega (arith, less))

pub sum_at : (n c len : ℕ) → sum_by (at_one n c) (range_with_len 0 len) ≡ (if nat_lt n len then c else 0)
sum_at n c len = go (nat_lt n len) refl
  where
    go : (b : Bool) → nat_lt n len ≡ b → sum_by (at_one n c) (range_with_len 0 len) ≡ (if b then c else 0)
    go true is = sum_one n c len (grind (arith, nat_tests, is))
    go false is = past_all n c 0 len (grind (arith, nat_tests, is))

-- and of pairs of places
abbrev pub at_pair : ℕ → ℕ → ℕ → ℕ → ℕ → ℕ
at_pair m n c u v = if (u == m) && (v == n) then c else 0

pub sum_pair : (m n c len : ℕ) → n < len → sum_by (λ u. sum_by (λ v. at_pair m n c u v) (range_with_len 0 len)) (range_with_len 0 len) ≡ (if nat_lt m len then c else 0)
sum_pair m n c len less = sum_same _ (at_one m c) (range_with_len 0 len) (λ u. row (u == m)) ∙ sum_at m c len
  where
    row : (b : Bool) → sum_by (λ v. if b && (v == n) then c else 0) (range_with_len 0 len) ≡ (if b then c else 0)
    row true = sum_one n c len less
    row false = sum_zero _ (range_with_len 0 len) (λ v. refl)

-- and of the row at one place
abbrev pub at_row : ℕ → (ℕ → ℕ) → ℕ → ℕ → ℕ
at_row m f u v = if u == m then f v else 0

pub sum_row : (m : ℕ) (f : ℕ → ℕ) (len : ℕ) → m < len → sum_by (λ u. sum_by (λ v. at_row m f u v) (range_with_len 0 len)) (range_with_len 0 len) ≡ sum_by f (range_with_len 0 len)
sum_row m f len less = sum_same _ (at_one m (sum_by f (range_with_len 0 len))) (range_with_len 0 len) (λ u. row (u == m)) ∙ sum_one m (sum_by f (range_with_len 0 len)) len less
  where
    row : (b : Bool) → sum_by (λ v. if b then f v else 0) (range_with_len 0 len) ≡ (if b then sum_by f (range_with_len 0 len) else 0)
    row true = refl
    row false = sum_zero _ (range_with_len 0 len) (λ v. refl)

pub and_both : (a b : Bool) → (a && b) ≡ true → (a ≡ true) × (b ≡ true)
and_both true true is = (refl, refl)
and_both true false is = absurd cc
and_both false b is = absurd cc
