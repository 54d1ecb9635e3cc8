-- The elements of a list, taken one after the other from its front, and what is made of each of them.
use Rattle.std.proofs.Common.{◌≡◌, ◌∙◌, ℕ, ◌+◌, ◌<◌, List, [], ◌∷◌, ◌++◌, length, slice_index_or, refl, sym, ap, subst, inl, inr, arith, append_assoc}
use Rattle.std.proofs.lemmas.Bool.{cases_lt}
use Rattle.std.proofs.lemmas.List.{get_or_append_left, length-append}
use Rattle.std.proofs.Math.Seq.{get_or-append_seam}

module _ {X : Type 0} where
  -- n were taken of a list, and these are left
  pub record IsLeft (n : ℕ) (all left : List X) : Type 0 where
    pub taken : List X
    pub count : length taken ≡ n
    pub split : all ≡ taken ++ left

  pub none_taken : (n : ℕ) (all left : List X) → n ≡ 0 → left ≡ all → IsLeft n all left
  none_taken n all left none same = record { taken = []; count = sym none; split = sym same }

  module _ (n : ℕ) (all left rest : List X) (x : X) (is : IsLeft n all left) (first : left ≡ x ∷ rest) where
    there : all ≡ is.taken ++ x ∷ rest
    there = is.split ∙ ap (λ (l : List X). is.taken ++ l) first

    -- the next is the one at that place
    pub taken_at : (d : X) → slice_index_or all n d ≡ x
    taken_at d = ap (λ (l : List X). slice_index_or l n d) there ∙ ap (λ (k : ℕ). slice_index_or (is.taken ++ x ∷ rest) k d) (sym is.count) ∙ get_or-append_seam is.taken x rest d

    pub taken_low : n < length all
    taken_low = let long = ap (λ (l : List X). length l) there ∙ length-append is.taken (x ∷ rest) in let count = is.count in omega (arith, long, count)

    pub one_taken : (n2 : ℕ) → n2 ≡ n + 1 → IsLeft n2 all rest
    one_taken n2 more = record {
      taken = is.taken ++ x ∷ [];
      count = length-append is.taken (x ∷ []) ∙ ap (λ (k : ℕ). k + 1) is.count ∙ sym more;
      split = there ∙ sym (append_assoc is.taken (x ∷ []) rest);
    }

  pub all_taken : (n : ℕ) (all left : List X) → IsLeft n all left → length left ≡ 0 → length all ≡ n
  all_taken n all left is none = let long = ap (λ (l : List X). length l) is.split ∙ length-append is.taken left in let count = is.count in omega (arith, long, count, none)

  pub longer : (xs xs2 : List X) (x : X) → xs2 ≡ xs ++ x ∷ [] → length xs2 ≡ length xs + 1
  longer xs xs2 x is = ap (λ (l : List X). length l) is ∙ length-append xs (x ∷ [])

  -- where one was added at the end of a list of n, each place holds what it held, and the last the new one
  module _ (n v : ℕ) (xs xs2 : List X) (x d : X) (is : xs2 ≡ xs ++ x ∷ []) (count : length xs ≡ n) where
    pub added_before : v < n → slice_index_or xs2 v d ≡ slice_index_or xs v d
    added_before low = ap (λ (l : List X). slice_index_or l v d) is ∙ get_or_append_left xs (x ∷ []) d v (omega (arith, low, count))

    pub added_last : v ≡ n → slice_index_or xs2 v d ≡ x
    added_last here = ap (λ (l : List X). slice_index_or l v d) is ∙ ap (λ (k : ℕ). slice_index_or (xs ++ x ∷ []) k d) (here ∙ sym count) ∙ get_or-append_seam xs x [] d

-- four terms are exchanged for their equals
four : {A B C D : Type 0} (P : A → B → C → D → Type 0) {a a2 : A} {b b2 : B} {c c2 : C} {d d2 : D} → a2 ≡ a → b2 ≡ b → c2 ≡ c → d2 ≡ d → P a b c d → P a2 b2 c2 d2
four P {a = a} {a2 = a2} {b = b} {b2 = b2} {c = c} {c2 = c2} {d = d} {d2 = d2} is_a is_b is_c is_d p =
    subst (λ x. P a2 b2 c2 x) (sym is_d) (subst (λ x. P a2 b2 x d) (sym is_c) (subst (λ x. P a2 x c d) (sym is_b) (subst (λ x. P x b c d) (sym is_a) p)))

module _ {A B C D : Type 0} (holds : A → B → C → D → Type 0) where
  -- of each of the first n of two lists two things were made
  abbrev pub AreMade : ℕ → List A → List B → List C → List D → Type 0
  AreMade n xs ys us ws = (v : ℕ) (a : A) (b : B) (c : C) (d : D) → v < n → holds (slice_index_or xs v a) (slice_index_or ys v b) (slice_index_or us v c) (slice_index_or ws v d)

  pub none_made : (n : ℕ) (xs : List A) (ys : List B) (us : List C) (ws : List D) → n ≡ 0 → AreMade n xs ys us ws
  none_made n xs ys us ws none v a b c d low = absurd (omega (arith, low, none))

  pub one_more_made : (n n2 : ℕ) (xs : List A) (ys : List B) (us us2 : List C) (ws ws2 : List D) (x : A) (y : B) (u : C) (w : D)
      → n2 ≡ n + 1 → ((a : A) → slice_index_or xs n a ≡ x) → ((b : B) → slice_index_or ys n b ≡ y) → us2 ≡ us ++ u ∷ [] → length us ≡ n → ws2 ≡ ws ++ w ∷ [] → length ws ≡ n
      → AreMade n xs ys us ws → holds x y u w → AreMade n2 xs ys us2 ws2
  one_more_made n n2 xs ys us us2 ws ws2 x y u w more at_x at_y is_u long_u is_w long_w before its v a b c d low = elim (cases_lt v n) [
    | inl lt ↦ four holds refl refl (added_before n v us us2 u c is_u long_u lt) (added_before n v ws ws2 w d is_w long_w lt) (before v a b c d lt)
    | inr le ↦
        let here : v ≡ n = omega (arith, low, le, more) in
        four holds (ap (λ (k : ℕ). slice_index_or xs k a) here ∙ at_x a) (ap (λ (k : ℕ). slice_index_or ys k b) here ∙ at_y b) (added_last n v us us2 u c is_u long_u here) (added_last n v ws ws2 w d is_w long_w here) its
  ]
