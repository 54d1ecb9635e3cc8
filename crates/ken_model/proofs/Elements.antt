-- Lists: what comes next after a front, and the parts of a mapped list.
use Rattle.std.proofs.Common.{◌≡◌, ℕ, List, [], ◌∷◌, ◌++◌, map, length, All, Contains, Some, slice_get, refl, sym, subst, ⊎_elim, arith}
use Rattle.std.proofs.lemmas.List.Elements.{All-nil, All-cons, All-head, All-tail, All-contains, Contains-append_right}
use Rattle.std.proofs.lemmas.Bool.{cases_eq}

-- where the back of a list holds nothing but P, what isn't P and comes after cs stands in the front
pub slice_get-front : {A : Type 0} (P : A → Type 0) (xs ys cs rest : List A) (m : A) → xs ++ ys ≡ cs ++ m ∷ rest → All P ys → (P m → ⊥) → slice_get xs (length cs) ≡ Some m
slice_get-front P [] ys cs rest m e all other =
    absurd (other (All-contains P ys m all (subst (λ l. Contains l m) (sym e) (Contains-append_right cs (m ∷ rest) m (0, omega arith, refl)))))
slice_get-front P (x ∷ xs) ys [] rest m e all other = cc
slice_get-front P (x ∷ xs) ys (c ∷ cs) rest m e all other = slice_get-front P xs ys cs rest m (cc) all other

-- what holds of each element of a mapped list
pub All-unmap : {A B : Type 0} (P : B → Type 0) (f : A → B) (xs : List A) → All P (map f xs) → All (λ x. P (f x)) xs
All-unmap P f [] all = All-nil (λ x. P (f x))
All-unmap P f (x ∷ xs) all = All-cons (λ x. P (f x)) x xs (All-head P (f x) (map f xs) all) (All-unmap P f xs (All-tail P (f x) (map f xs) all))

-- a list whose first element is mapped to y
pub record IsMappedTo {A B : Type 0} (f : A → B) (y : B) (xs : List A) : Type 0 where
  pub head : A
  pub tail : List A
  pub whole : xs ≡ head ∷ tail
  pub gives : y ≡ f head

-- a list that is mapped to y and more has a first element
pub mapped_to : {A B : Type 0} (f : A → B) (y : B) (ys : List B) (xs : List A) → y ∷ ys ≡ map f xs → IsMappedTo f y xs
mapped_to f y ys [] e = absurd cc
mapped_to f y ys (x ∷ xs) e = record { head = x; tail = xs; whole = refl; gives = cc }

-- a fact of v and of all others
pub with_others : (Q : ℕ → Type 0) (v : ℕ) → Q v → ((x : ℕ) → (x ≡ v → ⊥) → Q x) → (x : ℕ) → Q x
with_others Q v here others x = ⊎_elim (λ e. subst Q (sym e) here) (others x) (cases_eq x v)
