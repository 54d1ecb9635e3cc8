-- What an oracle tells that answers given draws, as it answers once more, and in all.
use Rattle.std.proofs.Common.{◌≡◌, ℕ, zero, suc, ◌+◌, ◌-◌, ◌<◌, ◌≤◌, ◌^◌, ◌⊎◌, inl, inr, min, List, [], ◌∷◌, ◌++◌, length, get_or, Bool, true, false, nat_lt, if◌then◌else◌, Some, None, refl, ap, sym, ◌∙◌, arith}
use Rattle.std.proofs.lemmas.Bool.{false≢true}
use Rattle.std.proofs.lemmas.Bool.Decides.{nat_tests}
use Rattle.ken_app.specs.Oracles.{Answers}
use Rattle.ken_trial.specs.Given.{first_answers, answers_told}

first_next : (count : ℕ) (draws : List ℕ) → first_answers (suc count) draws ≡ first_answers count draws ++ get_or draws count 0 ∷ []
first_next zero [] = refl
first_next zero (d ∷ ds) = refl
first_next (suc count) [] = ap (λ xs. 0 ∷ xs) (first_next count [])
first_next (suc count) (d ∷ ds) = ap (λ xs. d ∷ xs) (first_next count ds)

length-first_answers : (count : ℕ) (draws : List ℕ) → length (first_answers count draws) ≡ count
length-first_answers zero draws = refl
length-first_answers (suc count) [] = ap suc (length-first_answers count [])
length-first_answers (suc count) (d ∷ ds) = ap suc (length-first_answers count ds)

is_less : (a b : ℕ) → nat_lt a b ≡ true → a < b
is_less a b test = grind (arith, nat_tests)

test_less : (a b : ℕ) → a < b → nat_lt a b ≡ true
test_less a b less = grind (arith, nat_tests)

is_not_less : (a b : ℕ) → nat_lt a b ≡ false → b ≤ a
is_not_less a b test = grind (arith, nat_tests)

told_by : (a b : Bool) (xs ys more : List ℕ) → (b ≡ true → a ≡ true) → (b ≡ true → ys ≡ xs ++ more) → (b ≡ false → a ≡ true → 2 ^ 64 - 1 ≤ length xs + length more) → Answers (if a then Some xs else None) (if b then Some ys else None) more
told_by true false xs ys more still grown stops = stops refl refl
told_by false false xs ys more still grown stops = tt
told_by true true xs ys more still grown stops = grown refl
told_by false true xs ys more still grown stops = absurd (false≢true (still refl))

-- it tells one answer more
pub answers_grow : (count next : ℕ) (draws : List ℕ) (answer : ℕ) → answer ≡ get_or draws count 0 → next ≡ min (count + 1) (2 ^ 64 - 1) → Answers (answers_told count draws) (answers_told next draws) (answer ∷ [])
answers_grow count next draws answer it counted =
    let long = length-first_answers count draws in
    told_by (nat_lt count (2 ^ 64 - 1)) (nat_lt next (2 ^ 64 - 1)) (first_answers count draws) (first_answers next draws) (answer ∷ [])
    (λ test. test_less count (2 ^ 64 - 1) (omega (arith, is_less next (2 ^ 64 - 1) test, counted)))
    (λ test. let one : next ≡ suc count = omega (arith, is_less next (2 ^ 64 - 1) test, counted) in ap (λ n. first_answers n draws) one ∙ first_next count draws ∙ ap (λ n. first_answers count draws ++ n ∷ []) (sym it))
    (λ stopped told. omega (arith, is_not_less next (2 ^ 64 - 1) stopped, counted, long))

told_all : (b : Bool) (count : ℕ) (draws xs : List ℕ) → length xs ≤ 16 → Answers (Some []) (if b then Some (first_answers count draws) else None) xs → xs ≡ first_answers count draws
told_all true count draws xs few told = sym told
told_all false count draws xs few told = absurd (omega (arith, few, told))

-- what a turn drew of it: all that it has answered
pub all_answered : (count : ℕ) (draws xs : List ℕ) → length xs ≤ 16 → Answers (answers_told 0 draws) (answers_told count draws) xs → xs ≡ first_answers count draws
all_answered count draws xs few told = told_all (nat_lt count (2 ^ 64 - 1)) count draws xs few told

-- its answers are the beginning of the draws, or go on from them
pub beginning : (count : ℕ) (draws : List ℕ) → ((more : List ℕ) × (draws ≡ first_answers count draws ++ more)) ⊎ ((more : List ℕ) × (first_answers count draws ≡ draws ++ more))
beginning zero draws = inl (draws, refl)
beginning (suc count) [] = inr (first_answers (suc count) [], refl)
beginning (suc count) (d ∷ ds) = elim (beginning count ds) [
  | inl it ↦ inl (it.0, ap (λ xs. d ∷ xs) it.1)
  | inr it ↦ inr (it.0, ap (λ xs. d ∷ xs) it.1)
]
