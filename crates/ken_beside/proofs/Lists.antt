-- Lists of numbers, and lists that were brought into one.
use Rattle.std.proofs.Common.{◌≡◌, ◌≢◌, ℕ, ◌⊎◌, inl, inr, ⊎_elim, List, [], ◌∷◌, ◌++◌, refl, ap, ◌∙◌}
use Rattle.std.proofs.lemmas.Bool.{cases_eq}
use Rattle.ken_beside.specs.Puts.{Shuffled, none, first, second}

-- two lists of numbers are the same or not
pub same-or-not : (xs ys : List ℕ) → (xs ≡ ys) ⊎ (xs ≢ ys)
same-or-not [] [] = inl refl
same-or-not [] (y ∷ ys) = inr (λ e. cc)
same-or-not (x ∷ xs) [] = inr (λ e. cc)
same-or-not (x ∷ xs) (y ∷ ys) =
    ⊎_elim
    (λ (head : x ≡ y). ⊎_elim (λ (rest : xs ≡ ys). inl (ap (λ (k : ℕ). k ∷ xs) head ∙ ap (λ (ks : List ℕ). y ∷ ks) rest)) (λ (other : xs ≢ ys). inr (λ e. let r : xs ≡ ys = cc in other r)) (same-or-not xs ys))
    (λ (other : x ≢ y). inr (λ e. let r : x ≡ y = cc in other r))
    (cases_eq x y)

module _ {A : Type 0} where
  -- more of one list comes after all
  pub shuffled-first : (xs ys all more : List A) → Shuffled xs ys all → Shuffled (xs ++ more) ys (all ++ more)
  shuffled-first _ _ _ more none = firsts more
    where
      firsts : (zs : List A) → Shuffled zs [] zs
      firsts [] = none
      firsts (z ∷ zs) = first (firsts zs)
  shuffled-first _ _ _ more (first {x} {xs} {ys} {all} rest) = first (shuffled-first xs ys all more rest)
  shuffled-first _ _ _ more (second {y} {xs} {ys} {all} rest) = second (shuffled-first xs ys all more rest)

  pub shuffled-second : (xs ys all more : List A) → Shuffled xs ys all → Shuffled xs (ys ++ more) (all ++ more)
  shuffled-second _ _ _ more none = seconds more
    where
      seconds : (zs : List A) → Shuffled [] zs zs
      seconds [] = none
      seconds (z ∷ zs) = second (seconds zs)
  shuffled-second _ _ _ more (first {x} {xs} {ys} {all} rest) = first (shuffled-second xs ys all more rest)
  shuffled-second _ _ _ more (second {y} {xs} {ys} {all} rest) = second (shuffled-second xs ys all more rest)
