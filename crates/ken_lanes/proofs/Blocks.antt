-- Blocks of bytes that are the same in two lists, and what the first difference is behind them.
use Rattle.std.proofs.Common.{◌≡◌, ℕ, zero, suc, ◌+◌, ◌*◌, ◌%◌, ◌^◌, ◌<◌, ◌≤◌, ◌↔◌, Bool, true, false, not, cond, eqb, List, [], ◌∷◌, ◌++◌, map, length, get_or, take, drop, refl, sym, ap, ◌∙◌, arith, w8, Some, None, eqb-true, eq-eqb}
use Rattle.std.specs.Prelude.{Option, option_map}
use Rattle.std.proofs.lemmas.Bool.{eqb-false}
use Rattle.std.proofs.lemmas.List.{take_all, take_more_same}
use Rattle.std.proofs.lemmas.Option.{none-some}
use Rattle.std.proofs.Math.Seq.{take-add}
use Rattle.std.proofs.lemmas.Simd.{length-zip2, mask_l-mod, tops_compared}
use lib.Lanes.{zip2, mask_l, top}
use Rattle.ken_lanes.specs.Differences.{Agree, first_difference}

abbrev apart : ℕ → ℕ → Bool
apart x y = not (eqb x y)

none_apart : (xs ys : List ℕ) → length xs ≡ length ys → (mask_l (zip2 apart xs ys) ≡ 0) ↔ (xs ≡ ys)
none_apart [] [] e = (λ _. refl, λ _. refl)
none_apart [] (y ∷ ys) e = absurd (omega arith)
none_apart (x ∷ xs) [] e = absurd (omega arith)
none_apart (x ∷ xs) (y ∷ ys) e = go (eqb x y) refl (none_apart xs ys (omega arith))
  where
    go : (t : Bool) → eqb x y ≡ t → (mask_l (zip2 apart xs ys) ≡ 0) ↔ (xs ≡ ys) → (cond (not t) 1 0 + 2 * mask_l (zip2 apart xs ys) ≡ 0) ↔ (x ∷ xs ≡ y ∷ ys)
    go true s rest = (λ z i. eqb-true _ _ s i ∷ rest.0 (omega arith) i, λ q. omega (arith, rest.1 (ap (drop 1) q)))
    go false s rest = (λ z. absurd (omega arith), λ q. absurd (eqb-false _ _ s (ap (λ l. get_or l 0 0) q)))

abbrev differs : ℕ → ℕ → ℕ
differs x y = cond (not (eqb x y)) 255 0

-- no bit is set of the mask of lanes that differ
pub same_lanes_of : (xs ys : List ℕ) → length xs ≡ 32 → length ys ≡ 32 → (eqb (mask_l (map (top 7) (zip2 differs xs ys)) % 2 ^ 64) 0 ≡ true) ↔ (xs ≡ ys)
same_lanes_of xs ys p q =
    let bits : mask_l (map (top 7) (zip2 differs xs ys)) % 2 ^ 64 ≡ mask_l (zip2 apart xs ys)
    = ap (λ ms. mask_l ms % 2 ^ 64) (tops_compared w8 apart xs ys) ∙ mask_l-mod (zip2 apart xs ys) 64 (omega (arith, length-zip2 apart xs ys (p ∙ sym q))) in
    let both = none_apart xs ys (p ∙ sym q) in
    (λ t. both.0 (sym bits ∙ eqb-true _ _ t), λ s. eq-eqb _ _ (bits ∙ both.1 s))

pub agree_more : (n k : ℕ) (xs ys : List ℕ) → Agree n xs ys → n + k ≤ length xs → n + k ≤ length ys → take k (drop n xs) ≡ take k (drop n ys) → Agree (n + k) xs ys
agree_more n k xs ys a p q e = record { first = p; second = q; same = take-add n k xs ∙ (λ i. a.same i ++ e i) ∙ sym (take-add n k ys) }

pub agree_next : (n : ℕ) (xs ys : List ℕ) → Agree n xs ys → n < length xs → n < length ys → get_or xs n 0 ≡ get_or ys n 0 → Agree (n + 1) xs ys
agree_next n xs ys a p q e = record { first = omega arith; second = omega arith; same = take_more_same xs ys n 0 p q a.same e }

some_is_not : {n : ℕ} → Some n ≡ None → ⊥
some_is_not {n} e = none-some n (sym e)

none_in_itself : (xs : List ℕ) → first_difference xs xs ≡ None
unfolding first_difference
none_in_itself [] = refl
none_in_itself (x ∷ xs) = rw (eq-eqb x x refl, none_in_itself xs)

pub none_if_same : (xs ys : List ℕ) → xs ≡ ys → first_difference xs ys ≡ None
none_if_same xs ys e = ap (λ l. first_difference xs l) (sym e) ∙ none_in_itself xs

pub agree_to_the_ends : (n : ℕ) (xs ys : List ℕ) → Agree n xs ys → n ≡ length xs → n ≡ length ys → first_difference xs ys ≡ None
agree_to_the_ends n xs ys a p q = none_if_same xs ys (sym (take_all n xs (omega arith)) ∙ a.same ∙ take_all n ys (omega arith))

pub differ_at : (n : ℕ) (xs ys : List ℕ) → Agree n xs ys → (n ≡ length xs → n ≡ length ys → ⊥) → (n < length xs → n < length ys → get_or xs n 0 ≡ get_or ys n 0 → ⊥)
    → first_difference xs ys ≡ Some n
unfolding first_difference
differ_at n [] [] a ends d = absurd (ends (omega (arith, a.first)) (omega (arith, a.first)))
differ_at n [] (y ∷ ys) a ends d = ap Some (omega (arith, a.first))
differ_at n (x ∷ xs) [] a ends d = ap Some (omega (arith, a.second))
differ_at zero (x ∷ xs) (y ∷ ys) a ends d = go (eqb x y) refl
  where
    go : (t : Bool) → eqb x y ≡ t → cond t (option_map suc (first_difference xs ys)) (Some 0) ≡ Some 0
    go true s = absurd (d (omega arith) (omega arith) (eqb-true _ _ s))
    go false s = refl
differ_at (suc n) (x ∷ xs) (y ∷ ys) a ends d =
    let heads : x ≡ y = ap (λ l. get_or l 0 0) a.same in
    let rest = differ_at n xs ys (record { first = omega (arith, a.first); second = omega (arith, a.second); same = ap (drop 1) a.same })
    (λ p q. ends (omega arith) (omega arith)) (λ p q e. d (omega arith) (omega arith) e) in
    rw (eq-eqb x y heads, rest)

shifted : (o : Option ℕ) → option_map suc o ≡ None → o ≡ None
shifted None e = refl
shifted (Some n) e = absurd (some_is_not e)

pub same_if_none : (xs ys : List ℕ) → first_difference xs ys ≡ None → xs ≡ ys
unfolding first_difference
same_if_none [] [] e = refl
same_if_none [] (y ∷ ys) e = absurd (some_is_not e)
same_if_none (x ∷ xs) [] e = absurd (some_is_not e)
same_if_none (x ∷ xs) (y ∷ ys) e = go (eqb x y) refl (λ n. same_if_none xs ys n) e
  where
    go : (t : Bool) → eqb x y ≡ t → (first_difference xs ys ≡ None → xs ≡ ys) → cond t (option_map suc (first_difference xs ys)) (Some 0) ≡ None → x ∷ xs ≡ y ∷ ys
    go true s rest n = λ i. eqb-true _ _ s i ∷ rest (shifted _ n) i
    go false s rest n = absurd (some_is_not n)
