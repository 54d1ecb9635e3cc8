-- What an oracle in memory tells, as it answers once more.
use Rattle.std.proofs.Common.{◌≡◌, ℕ, zero, suc, ◌+◌, ◌-◌, ◌<◌, ◌≤◌, ◌^◌, min, List, [], ◌∷◌, ◌++◌, length, Bool, true, false, nat_lt, if◌then◌else◌, Some, None, refl, ap, ◌∙◌, arith}
use Rattle.std.specs.List.{range_with_len}
use Rattle.std.proofs.lemmas.Bool.{false≢true}
use Rattle.std.proofs.lemmas.Bool.Decides.{nat_tests}
use Rattle.ken_num.specs.Generator.{next_state, answers}
use Rattle.ken_app.specs.Oracles.{Answers}
use Rattle.ken_drive.specs.Oracles.{told}

told_by : (a b : Bool) (xs ys more : List ℕ) → (b ≡ true → a ≡ true) → (b ≡ true → ys ≡ xs ++ more) → (b ≡ false → a ≡ true → 2 ^ 64 - 1 ≤ length xs + length more) → Answers (if a then Some xs else None) (if b then Some ys else None) more
told_by true false xs ys more still grown stops = stops refl refl
told_by false false xs ys more still grown stops = tt
told_by true true xs ys more still grown stops = grown refl
told_by false true xs ys more still grown stops = absurd (false≢true (still refl))

is_less : (a b : ℕ) → nat_lt a b ≡ true → a < b
is_less a b test = grind (arith, nat_tests)

test_less : (a b : ℕ) → a < b → nat_lt a b ≡ true
test_less a b less = grind (arith, nat_tests)

is_not_less : (a b : ℕ) → nat_lt a b ≡ false → b ≤ a
is_not_less a b test = grind (arith, nat_tests)

-- a list that is told grows by one answer, until its count is at its end
pub told_next : (before now : ℕ) (xs ys : List ℕ) (answer : ℕ) → length xs ≡ before → now ≡ min (before + 1) (2 ^ 64 - 1) → (now < 2 ^ 64 - 1 → ys ≡ xs ++ answer ∷ []) → Answers (told before xs) (told now ys) (answer ∷ [])
told_next before now xs ys answer long next grown =
    told_by (nat_lt before (2 ^ 64 - 1)) (nat_lt now (2 ^ 64 - 1)) xs ys (answer ∷ [])
    (λ test. test_less before (2 ^ 64 - 1) (omega (arith, is_less now (2 ^ 64 - 1) test, next)))
    (λ test. grown (is_less now (2 ^ 64 - 1) test))
    (λ stopped told. omega (arith, is_not_less now (2 ^ 64 - 1) stopped, next, long))

-- numbers from a on, and one more
pub range-push : (a n : ℕ) → range_with_len a (suc n) ≡ range_with_len a n ++ (a + n) ∷ []
range-push a zero = ap (λ k. k ∷ []) (omega arith)
range-push a (suc n) = let last : a + 1 + n ≡ a + suc n = omega arith in ap (λ l. a ∷ l) (range-push (a + 1) n ∙ ap (λ k. range_with_len (a + 1) n ++ k ∷ []) last)

pub length-answers : (k x : ℕ) → length (answers k x) ≡ k
length-answers zero x = refl
length-answers (suc k) x = ap suc (length-answers k (next_state x))
