-- Sums over the nodes of a run.
use Rattle.std.proofs.Common.{◌≡◌, ℕ, zero, suc, ◌+◌, ◌<◌, List, [], ◌∷◌, length, slice_index_or, refl, sym, ap, ◌∙◌, arith}
use Rattle.std.specs.List.{range_with_len, sum_by}
use Rattle.std.proofs.lemmas.List.Sums.{sum_by-cons}

-- by number, or by element
pub sum-range : {X : Type 0} (f : ℕ → ℕ) (h : X → ℕ) (a : ℕ) (xs : List X) → ((v : ℕ) (d : X) → v < length xs → f (a + v) ≡ h (slice_index_or xs v d)) → sum_by f (range_with_len a (length xs)) ≡ sum_by h xs
sum-range f h a [] each = refl
sum-range {X} f h a (x ∷ xs) each =
    let first : f a ≡ h x = ap f (let e : a ≡ a + 0 = omega arith in e) ∙ each 0 x (omega arith) in
    let rest : sum_by f (range_with_len (a + 1) (length xs)) ≡ sum_by h xs =
    sum-range f h (a + 1) xs (λ v d low. ap f (let e : (a + 1) + v ≡ a + suc v = omega arith in e) ∙ each (suc v) d (omega (arith, low))) in
    let one : sum_by f (a ∷ range_with_len (a + 1) (length xs)) ≡ f a + sum_by f (range_with_len (a + 1) (length xs)) = sum_by-cons f a (range_with_len (a + 1) (length xs)) in
    let two : sum_by h (x ∷ xs) ≡ h x + sum_by h xs = sum_by-cons h x xs in
    one ∙ ap (λ (k : ℕ). k + sum_by f (range_with_len (a + 1) (length xs))) first ∙ ap (λ (k : ℕ). h x + k) rest ∙ sym two

-- the same numbers
pub sum-same : (f h : ℕ → ℕ) (a n : ℕ) → ((v : ℕ) → v < a + n → f v ≡ h v) → sum_by f (range_with_len a n) ≡ sum_by h (range_with_len a n)
sum-same f h a zero each = refl
sum-same f h a (suc n) each =
    let first : f a ≡ h a = each a (omega arith) in
    let rest : sum_by f (range_with_len (a + 1) n) ≡ sum_by h (range_with_len (a + 1) n) = sum-same f h (a + 1) n (λ v low. each v (omega (arith, low))) in
    sum_by-cons f a (range_with_len (a + 1) n) ∙ ap (λ (k : ℕ). k + sum_by f (range_with_len (a + 1) n)) first ∙ ap (λ (k : ℕ). h a + k) rest ∙ sym (sum_by-cons h a (range_with_len (a + 1) n))
