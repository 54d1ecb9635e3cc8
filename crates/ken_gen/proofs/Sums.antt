-- Sums over a list, over a range, and over the links of a run.
use Rattle.std.proofs.Common.{◌≡◌, ℕ, zero, suc, ◌+◌, ◌<◌, ◌≤◌, ◌⊎◌, List, [], ◌∷◌, sum_by, ◌==◌, if◌then◌else◌, refl, sym, ap, ◌∙◌, ⊎_elim, arith, eq-eqb, ne_eqb}
use Rattle.std.specs.List.{range_with_len}
use Rattle.std.proofs.lemmas.Bool.{cases_eq}
use Rattle.std.proofs.lemmas.List.Sums.{sum_by-cons}
use Rattle.ken_model.specs.Network.{outside}

pub sum-same : {A : Type 0} (a b : A → ℕ) (xs : List A) → ((x : A) → a x ≡ b x) → sum_by a xs ≡ sum_by b xs
sum-same a b [] same = refl
sum-same a b (x ∷ xs) same = omega (arith, sum_by-cons a x xs, sum_by-cons b x xs, same x, sum-same a b xs same)

pub sum-plus : {A : Type 0} (a b : A → ℕ) (xs : List A) → sum_by (λ x. a x + b x) xs ≡ sum_by a xs + sum_by b xs
sum-plus a b [] = refl
sum-plus a b (x ∷ xs) = omega (arith, sum_by-cons (λ x. a x + b x) x xs, sum_by-cons a x xs, sum_by-cons b x xs, sum-plus a b xs)

pub sum-zero : {A : Type 0} (a : A → ℕ) (xs : List A) → ((x : A) → a x ≡ 0) → sum_by a xs ≡ 0
sum-zero a [] none = refl
sum-zero a (x ∷ xs) none = omega (arith, sum_by-cons a x xs, none x, sum-zero a xs none)

-- two sums in either order
pub sum-turned : {A B : Type 0} (f : A → B → ℕ) (xs : List A) (ys : List B) → sum_by (λ x. sum_by (λ y. f x y) ys) xs ≡ sum_by (λ y. sum_by (λ x. f x y) xs) ys
sum-turned f [] ys = sym (sum-zero (λ y. sum_by (λ x. f x y) []) ys (λ y. refl))
sum-turned f (x ∷ xs) ys =
    sum_by-cons (λ x. sum_by (λ y. f x y) ys) x xs
    ∙ ap (λ k. sum_by (λ y. f x y) ys + k) (sum-turned f xs ys)
    ∙ sym (sum-plus (λ y. f x y) (λ y. sum_by (λ x. f x y) xs) ys)
    ∙ sum-same (λ y. f x y + sum_by (λ x. f x y) xs) (λ y. sum_by (λ x. f x y) (x ∷ xs)) ys (λ y. sym (sum_by-cons (λ x. f x y) x xs))

-- ---- what is at one number of a range

abbrev pub only : ℕ → ℕ → ℕ → ℕ
only k c i = if i == k then c else 0

only-here : (k c : ℕ) → only k c k ≡ c
only-here k c = rw (eq-eqb k k refl) refl

only-other : (k c i : ℕ) → (i ≡ k → ⊥) → only k c i ≡ 0
only-other k c i ne = rw (ne_eqb i k ne) refl

sum-past : (k c a n : ℕ) → k < a → sum_by (only k c) (range_with_len a n) ≡ 0
sum-past k c a zero past = refl
sum-past k c a (suc n) past =
    let here = only-other k c a (λ e. omega arith) in
    omega (arith, sum_by-cons (only k c) a (range_with_len (a + 1) n), here, sum-past k c (a + 1) n (omega arith))

sum-within : (k c a n : ℕ) → a ≤ k → k < a + n → sum_by (only k c) (range_with_len a n) ≡ c
sum-within k c a zero from below = absurd (omega arith)
sum-within k c a (suc n) from below =
    let parts = sum_by-cons (only k c) a (range_with_len (a + 1) n) in
    ⊎_elim
    (λ (e : a ≡ k). let here : only k c a ≡ c = ap (only k c) e ∙ only-here k c in omega (arith, parts, here, sum-past k c (a + 1) n (omega arith)))
    (λ ne. let here = only-other k c a ne in omega (arith, parts, here, sum-within k c (a + 1) n (omega arith) (omega arith)))
    (cases_eq a k)

pub sum-only : (k c n : ℕ) → k < n → sum_by (only k c) (range_with_len 0 n) ≡ c
sum-only k c n lt = sum-within k c 0 n (omega arith) (omega arith)

-- ---- links

-- over the links of so many nodes, from the outside and from nodes
abbrev pub total : ℕ → (ℕ → ℕ → ℕ) → ℕ
total nodes a = sum_by (λ v. sum_by (λ u. a u v) (outside ∷ range_with_len 0 nodes)) (range_with_len 0 nodes)

-- a link of a run
pub record IsLink (nodes u v : ℕ) : Type 0 where
  pub receiver : v < nodes
  pub sender : (u < nodes) ⊎ (u ≡ outside)

pub total-same : (nodes : ℕ) (a b : ℕ → ℕ → ℕ) → ((u v : ℕ) → a u v ≡ b u v) → total nodes a ≡ total nodes b
total-same nodes a b same = sum-same _ _ (range_with_len 0 nodes) (λ v. sum-same (λ u. a u v) (λ u. b u v) (outside ∷ range_with_len 0 nodes) (λ u. same u v))

pub total-plus : (nodes : ℕ) (a b : ℕ → ℕ → ℕ) → total nodes (λ u v. a u v + b u v) ≡ total nodes a + total nodes b
total-plus nodes a b =
    sum-same _ (λ v. sum_by (λ u. a u v) (outside ∷ range_with_len 0 nodes) + sum_by (λ u. b u v) (outside ∷ range_with_len 0 nodes)) (range_with_len 0 nodes) (λ v. sum-plus (λ u. a u v) (λ u. b u v) (outside ∷ range_with_len 0 nodes))
    ∙ sum-plus (λ v. sum_by (λ u. a u v) (outside ∷ range_with_len 0 nodes)) (λ v. sum_by (λ u. b u v) (outside ∷ range_with_len 0 nodes)) (range_with_len 0 nodes)

pub total-zero : (nodes : ℕ) (a : ℕ → ℕ → ℕ) → ((u v : ℕ) → a u v ≡ 0) → total nodes a ≡ 0
total-zero nodes a none = sum-zero _ (range_with_len 0 nodes) (λ v. sum-zero (λ u. a u v) (outside ∷ range_with_len 0 nodes) (λ u. none u v))

-- what is on one link
abbrev pub one : ℕ → ℕ → ℕ → ℕ → ℕ → ℕ
one p q c u v = if u == p then only q c v else 0

sum-beyond : (k c a n : ℕ) → a + n ≤ k → sum_by (only k c) (range_with_len a n) ≡ 0
sum-beyond k c a zero past = refl
sum-beyond k c a (suc n) past =
    let here = only-other k c a (λ e. omega arith) in
    omega (arith, sum_by-cons (only k c) a (range_with_len (a + 1) n), here, sum-beyond k c (a + 1) n (omega arith))

-- a sum over senders of what one of them has
sum-senders : (nodes p c : ℕ) → nodes ≤ outside → (p < nodes) ⊎ (p ≡ outside) → sum_by (only p c) (outside ∷ range_with_len 0 nodes) ≡ c
sum-senders nodes p c few sender =
    let parts = sum_by-cons (only p c) outside (range_with_len 0 nodes) in
    ⊎_elim
    (λ lt. let here = only-other p c outside (λ e. omega arith) in omega (arith, parts, here, sum-only p c nodes lt))
    (λ (e : p ≡ outside).
    let here : only p c outside ≡ c = ap (only p c) (sym e) ∙ only-here p c in
    omega (arith, parts, here, sum-beyond p c 0 nodes (omega arith)))
    sender

pub total-one : (nodes p q c : ℕ) → nodes ≤ outside → IsLink nodes p q → total nodes (one p q c) ≡ c
total-one nodes p q c few link =
    sum-same _ (only q c) (range_with_len 0 nodes) (λ v. sum-senders nodes p (only q c v) few link.sender)
    ∙ sum-only q c nodes link.receiver
