-- News that is taken item by item.
use Rattle.std.proofs.Common.{◌≡◌, ℕ, suc, ◌+◌, ◌-◌, ◌≤◌, List, [], ◌∷◌, ◌++◌, length, refl, sym, ap, ◌∙◌, subst, append_assoc, arith}
use Rattle.std.specs.Prelude.{slice_get, Some}
use mathlib.Core.List.{IsPrefix}
use Rattle.std.proofs.lemmas.List.{length_push}
use Rattle.ken_work.specs.News.{AreRipe, latest}

pub latest_push : {A B : Type 0} (says : A → B) (old : B) (xs : List A) (x : A) → latest says old (xs ++ x ∷ []) ≡ says x
latest_push says old [] x = refl
latest_push says old (y ∷ ys) x = latest_push says (says y) ys x

ripe_push : {A : Type 0} (by : A → ℕ) (made : ℕ) (xs : List A) (x : A) → AreRipe by made xs → by x ≤ made → AreRipe by made (xs ++ x ∷ [])
ripe_push by made [] x ripe one = (one, tt)
ripe_push by made (y ∷ xs) x ripe one = (ripe.0, ripe_push by made xs x ripe.1 one)

-- so many were told so far
pub record ToldSoFar {A B : Type 0} (by : A → ℕ) (says : A → B) (made count : ℕ) (popped popped2 : List A) (old new : B) : Type 0 where
  pub items : List A
  pub popped_are : popped2 ≡ popped ++ items
  pub counted : length items ≡ count
  pub ripe : AreRipe by made items
  pub known : new ≡ latest says old items

pub told_more : {A B : Type 0} (by : A → ℕ) (says : A → B) (made count : ℕ) (popped popped2 popped3 : List A) (old mid new : B) (x : A) → ToldSoFar by says made count popped popped2 old mid → popped3 ≡ popped2 ++ x ∷ [] → by x ≤ made → new ≡ says x
    → ToldSoFar by says made (count + 1) popped popped3 old new
told_more by says made count popped popped2 popped3 old mid new x so_far pop ripe said = record {
  items = so_far.items ++ x ∷ [];
  popped_are = pop ∙ ap (λ (xs : List _). xs ++ x ∷ []) so_far.popped_are ∙ append_assoc popped so_far.items (x ∷ []);
  counted = length_push so_far.items x ∙ ap (λ (n : ℕ). n + 1) so_far.counted;
  ripe = ripe_push by made so_far.items x so_far.ripe ripe;
  known = said ∙ sym (latest_push says old so_far.items x);
}

-- the first of a list is one thing
pub first_is : {A : Type 0} (a b : A) (xs rest : List A) → IsPrefix (a ∷ []) xs → xs ≡ b ∷ rest → a ≡ b
first_is a b xs rest front is = let e : a ∷ front.0 ≡ b ∷ rest = front.1 ∙ is in cc

pub latest_last : {A B : Type 0} (says : A → B) (old : B) (xs : List A) (x : A) → slice_get xs (length xs - 1) ≡ Some x → latest says old xs ≡ says x
latest_last says old [] x is = absurd cc
latest_last says old (y ∷ []) x is = cc
latest_last {A = A} says old (y ∷ (z ∷ zs)) x is =
    let place : length (y ∷ (z ∷ zs)) - 1 ≡ suc (length (z ∷ zs) - 1) = omega arith in
    latest_last says (says y) (z ∷ zs) x (subst (λ (k : ℕ). slice_get (y ∷ (z ∷ zs)) k ≡ Some x) place is)
