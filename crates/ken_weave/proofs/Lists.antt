-- Fronts of lists.
use Rattle.std.proofs.Common.{◌≡◌, ◌≤◌, List, [], ◌∷◌, ◌++◌, length, refl, sym, ap, ◌∙◌, subst, arith, append_assoc, append-nil}
use Rattle.std.specs.List.{AllByRecursion}
use Rattle.ken_model.specs.History.{IsPrefixOf}

pub front_same : {A : Type 0} (xs : List A) → IsPrefixOf xs xs
front_same xs = ([], sym (append-nil xs))

pub front_then : {A : Type 0} (xs ys zs : List A) → IsPrefixOf xs ys → IsPrefixOf ys zs → IsPrefixOf xs zs
front_then xs ys zs a b = (a.0 ++ b.0, b.1 ∙ ap (λ l. l ++ b.0) a.1 ∙ append_assoc xs a.0 b.0)

-- of two fronts of one list, one is longer
pub data Compared {A : Type 0} (xs ys : List A) : Type 0 where
  front : IsPrefixOf xs ys → Compared xs ys
  longer : (y : A) (rest : List A) → xs ≡ ys ++ y ∷ rest → Compared xs ys

more : {A : Type 0} (x : A) (xs ys : List A) → Compared xs ys → Compared (x ∷ xs) (x ∷ ys)
more x xs ys (front f) = front (f.0, ap (λ l. x ∷ l) f.1)
more x xs ys (longer y rest e) = longer y rest (ap (λ l. x ∷ l) e)

pub compare : {A : Type 0} (xs ys us vs : List A) → xs ++ us ≡ ys ++ vs → Compared xs ys
compare [] ys us vs e = front (ys, refl)
compare (x ∷ xs) [] us vs e = longer x xs refl
compare (x ∷ xs) (y ∷ ys) us vs e =
    let head : x ≡ y = cc in
    subst (λ z. Compared (x ∷ xs) (z ∷ ys)) head (more x xs ys (compare xs ys us vs cc))

-- the one that isn't longer is a front
pub shorter : {A : Type 0} (xs ys us vs : List A) → xs ++ us ≡ ys ++ vs → length xs ≤ length ys → IsPrefixOf xs ys
shorter [] ys us vs e few = (ys, refl)
shorter (x ∷ xs) [] us vs e few = absurd (omega (arith, few))
shorter (x ∷ xs) (y ∷ ys) us vs e few =
    let head : x ≡ y = cc in
    let less : length xs ≤ length ys = omega (arith, few) in
    let tails : xs ++ us ≡ ys ++ vs = cc in
    let rest = shorter xs ys us vs tails less in
    (rest.0, ap (λ z. z ∷ ys) (sym head) ∙ ap (λ l. x ∷ l) rest.1)

pub all_join : {A : Type 0} (Q : A → Type 0) (xs ys : List A) → AllByRecursion Q xs → AllByRecursion Q ys → AllByRecursion Q (xs ++ ys)
all_join Q [] ys a b = b
all_join Q (x ∷ xs) ys a b = (a.0, all_join Q xs ys a.1 b)

pub all_later : {A : Type 0} (Q : A → Type 0) (xs ys : List A) → AllByRecursion Q (xs ++ ys) → AllByRecursion Q ys
all_later Q [] ys a = a
all_later Q (x ∷ xs) ys a = all_later Q xs ys a.1

pub all_weaker : {A : Type 0} (Q R : A → Type 0) → ((x : A) → Q x → R x) → (xs : List A) → AllByRecursion Q xs → AllByRecursion R xs
all_weaker Q R to [] a = tt
all_weaker Q R to (x ∷ xs) a = (to x a.0, all_weaker Q R to xs a.1)
