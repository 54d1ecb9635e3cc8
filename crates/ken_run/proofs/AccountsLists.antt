-- Sequences of numbers that grow.
use Rattle.std.proofs.Common.{◌≡◌, ℕ, ◌+◌, ◌≤◌, List, [], ◌∷◌, ◌++◌, Bool, true, false, nat_lt, if◌then◌else◌, refl, ap, arith}
use Rattle.std.proofs.lemmas.Bool.Decides.{nat_tests}
use Rattle.ken_model.specs.Restarts.{NeverFall}
use Rattle.ken_run.specs.Sequences.{IsSubsequence, ended, kept, left_out, descents}

-- ---- subsequences

pub sub-none : (ys : List ℕ) → IsSubsequence [] ys
sub-none [] = ended
sub-none (y ∷ ys) = left_out (sub-none ys)

pub sub-same : (xs : List ℕ) → IsSubsequence xs xs
sub-same [] = ended
sub-same (x ∷ xs) = kept (sub-same xs)

-- more may be left out
pub sub-more : {xs ys : List ℕ} → (zs : List ℕ) → IsSubsequence xs ys → IsSubsequence xs (ys ++ zs)
sub-more zs ended = sub-none zs
sub-more zs (kept s) = kept (sub-more zs s)
sub-more zs (left_out s) = left_out (sub-more zs s)

-- or kept
pub sub-both : {xs ys : List ℕ} → (zs : List ℕ) → IsSubsequence xs ys → IsSubsequence (xs ++ zs) (ys ++ zs)
sub-both zs ended = sub-same zs
sub-both zs (kept s) = kept (sub-both zs s)
sub-both zs (left_out s) = left_out (sub-both zs s)

-- what is among what is among them
pub sub-through : {xs ys zs : List ℕ} → IsSubsequence xs ys → IsSubsequence ys zs → IsSubsequence xs zs
sub-through one (left_out two) = left_out (sub-through one two)
sub-through (left_out one) (kept two) = left_out (sub-through one two)
sub-through (kept one) (kept two) = kept (sub-through one two)
sub-through ended ended = ended

-- a front of them
pub sub-front : (xs more ys : List ℕ) → IsSubsequence (xs ++ more) ys → IsSubsequence xs ys
sub-front xs more ys s = sub-through (sub-more more (sub-same xs)) s

-- ---- numbers that never fall

pub never-more : (low : ℕ) (xs : List ℕ) (high next : ℕ) → NeverFall low xs high → high ≤ next → NeverFall low xs next
never-more low [] high next never more = omega (arith, never, more)
never-more low (x ∷ xs) high next never more = (never.0, never-more x xs high next never.1 more)

pub never-push : (low : ℕ) (xs : List ℕ) (high next : ℕ) → NeverFall low xs high → high ≤ next → NeverFall low (xs ++ next ∷ []) next
never-push low [] high next never more = (omega (arith, never, more), omega arith)
never-push low (x ∷ xs) high next never more = (never.0, never-push x xs high next never.1 more)

-- ---- numbers that fail to rise

step-of : (b : Bool) → (if b then 0 else 1) ≤ 1
step-of true = omega arith
step-of false = omega arith

-- one number more fails to rise once at most
pub descents-one : (before : ℕ) (xs : List ℕ) (x : ℕ) → descents before (xs ++ x ∷ []) ≤ descents before xs + 1
descents-one before [] x = let one = step-of (nat_lt before x) in omega (arith, one)
descents-one before (y ∷ xs) x = let rest = descents-one y xs x in omega (arith, rest)

-- it takes none away
pub descents-front : (before : ℕ) (xs : List ℕ) (x : ℕ) → descents before xs ≤ descents before (xs ++ x ∷ [])
descents-front before [] x = omega arith
descents-front before (y ∷ xs) x = let rest = descents-front y xs x in omega (arith, rest)

is-less : (x : ℕ) → nat_lt x (x + 1) ≡ true
is-less x = grind (arith, nat_tests)

-- and the number after the last one rises
pub descents-next : (before : ℕ) (xs : List ℕ) (x : ℕ) → descents before ((xs ++ x ∷ []) ++ (x + 1) ∷ []) ≡ descents before (xs ++ x ∷ [])
descents-next before [] x = rw (is-less x) refl
descents-next before (y ∷ xs) x = ap (λ k. (if nat_lt before y then 0 else 1) + k) (descents-next y xs x)
