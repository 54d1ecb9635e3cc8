-- Lists that are gone over.
use Rattle.std.proofs.Common.{◌≡◌, ℕ, suc, ◌+◌, ◌<◌, List, [], ◌∷◌, ◌++◌, length, get_or, take, sym, ap, ◌∙◌, arith, take-suc}

-- what was gone over ends with it
pub gone_over : {A : Type 0} (xs : List A) (i : ℕ) (x : A) → i < length xs → x ≡ get_or xs i x → take (i + 1) xs ≡ take i xs ++ x ∷ []
gone_over xs i x within is =
    let next : i + 1 ≡ suc i = omega arith in
    ap (λ k. take k xs) next ∙ take-suc xs i x within ∙ ap (λ y. take i xs ++ y ∷ []) (sym is)

-- a list that has some has a first
pub first_of : {A : Type 0} (xs : List A) → 0 < length xs → A
first_of [] some = absurd (omega arith)
first_of (x ∷ xs) some = x
