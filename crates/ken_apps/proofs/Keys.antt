-- The key of a pair is known from the pair's front.
use Rattle.std.proofs.Common.{◌≡◌, ℕ, zero, suc, ◌+◌, ◌<◌, List, [], ◌∷◌, length, take, drop, Bool, true, false, not, ◌&&◌, ◌==◌, Option, Some, None, option_map, refl, ap, sym, ◌∙◌, arith, eq-eqb, ne_eqb, ⊎_elim}
use Rattle.std.specs.List.{position, list_any}
use Rattle.std.proofs.lemmas.Bool.{cases_eq}
use Rattle.ken_alloc.specs.Objects.{has_front}
use Rattle.ken_model.specs.KeyValue.{at_space, is_key}

-- the place of the first space
abbrev space_in : List ℕ → Option ℕ
space_in bytes = position (λ b. b == 32) bytes

first_space : (b : ℕ) (bs : List ℕ) → (b == 32) ≡ true → space_in (b ∷ bs) ≡ Some 0
first_space b bs is = grind (arith, is)

later_space : (b : ℕ) (bs : List ℕ) → (b == 32) ≡ false → space_in (b ∷ bs) ≡ option_map suc (space_in bs)
later_space b bs other = grind (arith, other)

-- the parts at a place
abbrev parts_at : List ℕ → Option ℕ → Option (List ℕ × List ℕ)
parts_at bytes o = option_map (λ i. (take i bytes, drop (i + 1) bytes)) o

empty_key : (b : ℕ) (bs : List ℕ) (o : Option ℕ) → is_key [] (parts_at (b ∷ bs) (option_map suc o)) ≡ false
empty_key b bs None = refl
empty_key b bs (Some i) = refl

longer_key : (k b : ℕ) (ks bs : List ℕ) (o : Option ℕ) → is_key (k ∷ ks) (parts_at (b ∷ bs) (option_map suc o)) ≡ (b == k) && is_key ks (parts_at bs o)
longer_key k b ks bs None = grind arith
longer_key k b ks bs (Some i) = grind arith

-- a space ends the key of both, and else the key has that byte, or is another
front_of_cons : (n b : ℕ) (key bs : List ℕ) → is_key key (parts_at (b ∷ take n bs) (option_map suc (space_in (take n bs)))) ≡ is_key key (parts_at (b ∷ bs) (option_map suc (space_in bs))) → is_key key (at_space (b ∷ take n bs)) ≡ is_key key (at_space (b ∷ bs))
front_of_cons n b key bs other = ⊎_elim
    (λ is. rw (first_space b (take n bs) (eq-eqb b 32 is), first_space b bs (eq-eqb b 32 is)) refl)
    (λ ne. rw (later_space b (take n bs) (ne_eqb b 32 ne), later_space b bs (ne_eqb b 32 ne)) other)
    (cases_eq b 32)

-- a front that is longer than the key tells whether it is the key's
pub key_of_front : (n : ℕ) (key bytes : List ℕ) → length key < n → is_key key (at_space (take n bytes)) ≡ is_key key (at_space bytes)
key_of_front zero key bytes less = absurd (omega (arith, less))
key_of_front (suc n) key [] less = refl
key_of_front (suc n) [] (b ∷ bs) less = front_of_cons n b [] bs (empty_key b (take n bs) (space_in (take n bs)) ∙ sym (empty_key b bs (space_in bs)))
key_of_front (suc n) (k ∷ ks) (b ∷ bs) less = front_of_cons n b (k ∷ ks) bs (longer_key k b ks (take n bs) (space_in (take n bs)) ∙ ap (λ v. (b == k) && v) (key_of_front n ks bs (omega (arith, less))) ∙ sym (longer_key k b ks bs (space_in bs)))

-- a space is in it
abbrev pub has_space : List ℕ → Bool
has_space bytes = list_any (λ b. b == 32) bytes

-- a pair has its key up to the first space, so it begins with the key and a space, and the key has none
pub key_front : (key bytes : List ℕ) → is_key key (at_space bytes) ≡ has_front key 32 bytes && not (has_space key)
key_front [] [] = refl
key_front [] (b ∷ bs) = ⊎_elim
    (λ is. rw (first_space b bs (eq-eqb b 32 is), eq-eqb b 32 is) refl)
    (λ ne. rw (later_space b bs (ne_eqb b 32 ne), ne_eqb b 32 ne) (empty_key b bs (space_in bs)))
    (cases_eq b 32)
key_front (k ∷ ks) [] = refl
key_front (k ∷ ks) (b ∷ bs) = ⊎_elim
    (λ is. rw (first_space b bs (eq-eqb b 32 is)) (⊎_elim
    (λ same. rw (eq-eqb k 32 (sym same ∙ is)) (never (has_front (k ∷ ks) 32 (b ∷ bs))))
    (λ other. rw (ne_eqb b k other) refl)
    (cases_eq b k)))
    (λ ne. rw (later_space b bs (ne_eqb b 32 ne)) (longer_key k b ks bs (space_in bs) ∙ ap (λ v. (b == k) && v) (key_front ks bs) ∙ ⊎_elim
    (λ same. rw (eq-eqb b k same, ne_eqb k 32 (λ e. ne (same ∙ e))) refl)
    (λ other. rw (ne_eqb b k other) refl)
    (cases_eq b k)))
    (cases_eq b 32)
  where
    never : (t : Bool) → false ≡ t && false
    never true = refl
    never false = refl
