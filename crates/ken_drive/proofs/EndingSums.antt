-- Sums and lists that grow by one.
use Rattle.std.proofs.Common.{◌≡◌, ℕ, zero, suc, ◌+◌, ◌-◌, ◌<◌, ◌≤◌, List, [], ◌∷◌, ◌++◌, length, sum_by, slice_index_or, refl, sym, ap, ◌∙◌, arith, map-id}
use Rattle.std.specs.List.{range_with_len}
use Rattle.std.proofs.lemmas.List.FromFn.{map-range_with_len_more}
use Rattle.std.proofs.lemmas.List.Sums.{sum_by_push}

range-push : (n : ℕ) → range_with_len 0 (n + 1) ≡ range_with_len 0 n ++ n ∷ []
range-push n = sym (map-id (range_with_len 0 (n + 1))) ∙ map-range_with_len_more (λ v. v) 0 n n (omega arith) ∙ ap (λ l. l ++ n ∷ []) (map-id (range_with_len 0 n))

-- one number more
pub sum-push : (f : ℕ → ℕ) (n : ℕ) → sum_by f (range_with_len 0 (n + 1)) ≡ sum_by f (range_with_len 0 n) + f n
sum-push f n = ap (sum_by f) (range-push n) ∙ sum_by_push f (range_with_len 0 n) n

sum-more : (f : ℕ → ℕ) (n d : ℕ) → sum_by f (range_with_len 0 n) ≤ sum_by f (range_with_len 0 (n + d))
sum-more f n zero = let same : n ≡ n + 0 = omega arith in omega (arith, ap (λ k. sum_by f (range_with_len 0 k)) same)
sum-more f n (suc d) =
    let same : n + suc d ≡ n + d + 1 = omega arith in
    omega (arith, sum-more f n d, sum-push f (n + d), ap (λ k. sum_by f (range_with_len 0 k)) same)

-- a sum so far, with the next one, is no more than the whole
pub sum-so_far : (f : ℕ → ℕ) (k n : ℕ) → k < n → sum_by f (range_with_len 0 k) + f k ≤ sum_by f (range_with_len 0 n)
sum-so_far f k n lt =
    let rest : k + 1 + (n - (k + 1)) ≡ n = omega arith in
    omega (arith, sum-push f k, sum-more f (k + 1) (n - (k + 1)), ap (λ j. sum_by f (range_with_len 0 j)) rest)

-- the last of a longer list, and those before
pub at_push : {A : Type 0} (xs : List A) (x : A) (k : ℕ) (d : A) → k < length xs → slice_index_or (xs ++ x ∷ []) k d ≡ slice_index_or xs k d
at_push [] x k d lt = absurd (omega arith)
at_push (y ∷ xs) x zero d lt = refl
at_push (y ∷ xs) x (suc k) d lt = at_push xs x k d (omega arith)

pub at_last : {A : Type 0} (xs : List A) (x : A) (k : ℕ) (d : A) → length xs ≡ k → slice_index_or (xs ++ x ∷ []) k d ≡ x
at_last [] x zero d is = refl
at_last [] x (suc k) d is = absurd (omega arith)
at_last (y ∷ xs) x zero d is = absurd (omega arith)
at_last (y ∷ xs) x (suc k) d is = at_last xs x k d (omega arith)
