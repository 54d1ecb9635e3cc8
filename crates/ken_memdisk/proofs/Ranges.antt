-- Ranges in the order of their writes and in the reverse order, and the places in them.
use Rattle.std.proofs.Common.{◌≡◌, ℕ, ◌+◌, ◌<◌, ◌≤◌, max, List, [], ◌∷◌, ◌++◌, reverse, refl, sym, ap, ◌∙◌, Bool, true, false, ◌||◌, nat_le, nat_lt, Decides, arith}
use Rattle.std.proofs.lemmas.List.{reverse-append}
use Rattle.std.proofs.lemmas.List.Folds.{list_any-append}
use Rattle.std.proofs.lemmas.Bool.{leb-true, le-leb, ltb-true, lt-ltb, and_parts, and_from}
use Rattle.std.proofs.lemmas.Bool.Decides.{Decides-or}
use Rattle.ken_disk.specs.Bytes.{IsIn, furthest}
use Rattle.ken_memdisk.specs.Picks.{is_within, is_written}

reverse-cons : (x : ℕ × ℕ) (xs : List (ℕ × ℕ)) → reverse (x ∷ xs) ≡ reverse xs ++ x ∷ []
reverse-cons x xs = reverse-append (x ∷ []) xs

-- the test and the fact
Decides-is_within : (place : ℕ) (range : ℕ × ℕ) → Decides (is_within place range) ((range.0 ≤ place) × (place < range.0 + range.1))
Decides-is_within place range = (
  λ is. let parts = and_parts (nat_le range.0 place) (nat_lt place (range.0 + range.1)) is in
      (leb-true range.0 place parts.0, ltb-true place (range.0 + range.1) parts.1),
  λ h. and_from (nat_le range.0 place) (nat_lt place (range.0 + range.1)) (le-leb range.0 place h.0) (lt-ltb place (range.0 + range.1) h.1),
)

pub Decides-is_written : (place : ℕ) (ranges : List (ℕ × ℕ)) → Decides (is_written ranges place) (IsIn place ranges)
Decides-is_written place [] = (λ is. absurd (let never : ⊥ = cc in never), λ none. absurd none)
Decides-is_written place (x ∷ xs) =
    Decides-or (is_within place x) (is_written xs place) (Decides-is_within place x) (Decides-is_written place xs)

-- one range more
pub is_written-push : (place : ℕ) (xs : List (ℕ × ℕ)) (x : ℕ × ℕ) → is_written (xs ++ x ∷ []) place ≡ (is_written xs place || is_within place x)
is_written-push place xs x =
    list_any-append (is_within place) xs (x ∷ []) ∙ ap (λ (b : Bool). is_written xs place || b) (or_false (is_within place x))
  where
    or_false : (b : Bool) → (b || false) ≡ b
    or_false true = refl
    or_false false = refl

-- the order does not matter
pub is_written-reverse : (place : ℕ) (xs : List (ℕ × ℕ)) → is_written (reverse xs) place ≡ is_written xs place
is_written-reverse place [] = refl
is_written-reverse place (x ∷ xs) =
    ap (λ (l : List (ℕ × ℕ)). is_written l place) (reverse-cons x xs)
    ∙ is_written-push place (reverse xs) x
    ∙ ap (λ (b : Bool). b || is_within place x) (is_written-reverse place xs)
    ∙ swapped (is_written xs place) (is_within place x)
  where
    swapped : (a b : Bool) → (a || b) ≡ (b || a)
    swapped true true = refl
    swapped true false = refl
    swapped false true = refl
    swapped false false = refl

pub IsIn-reverse : (place : ℕ) (xs : List (ℕ × ℕ)) → IsIn place (reverse xs) → IsIn place xs
IsIn-reverse place xs among =
    (Decides-is_written place xs).0 (sym (is_written-reverse place xs) ∙ (Decides-is_written place (reverse xs)).1 among)

furthest-append : (end : ℕ) (xs ys : List (ℕ × ℕ)) → furthest end (xs ++ ys) ≡ furthest (furthest end ys) xs
furthest-append end [] ys = refl
furthest-append end (x ∷ xs) ys = ap (λ (n : ℕ). max (x.0 + x.1) n) (furthest-append end xs ys)

furthest-max : (a b : ℕ) (xs : List (ℕ × ℕ)) → furthest (max a b) xs ≡ max a (furthest b xs)
furthest-max a b [] = refl
furthest-max a b (x ∷ xs) = omega (arith, furthest-max a b xs)

pub furthest-reverse : (end : ℕ) (xs : List (ℕ × ℕ)) → furthest end (reverse xs) ≡ furthest end xs
furthest-reverse end [] = refl
furthest-reverse end (x ∷ xs) =
    ap (furthest end) (reverse-cons x xs)
    ∙ furthest-append end (reverse xs) (x ∷ [])
    ∙ furthest-max (x.0 + x.1) end (reverse xs)
    ∙ ap (λ (n : ℕ). max (x.0 + x.1) n) (furthest-reverse end xs)

-- the furthest end is no further than that from a further one
pub furthest-zero : (end : ℕ) (xs : List (ℕ × ℕ)) → furthest 0 xs ≤ furthest end xs
furthest-zero end [] = omega arith
furthest-zero end (x ∷ xs) = omega (arith, furthest-zero end xs)
