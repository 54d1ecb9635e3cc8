-- Bytes written over others.
use Rattle.std.proofs.Common.{◌≡◌, ℕ, ◌+◌, ◌-◌, ◌≤◌, List, [], ◌++◌, length, take, drop, refl, sym, ap, ◌∙◌, arith, add-zero, append_assoc, length-append, length-take-le, length-drop}
use Rattle.std.proofs.Math.Seq.{take-append-add, drop-append-add}
use Rattle.std.proofs.lemmas.List.{take-append-drop, take-append-le, drop-append-le, take-take, drop_at}
use Rattle.std.proofs.lemmas.List.Edits.{paste_all, paste-paste}
use lib.Seq.{paste}
use Rattle.ken_frame.specs.Written.{written}

module _ (xs : List ℕ) where
  -- in the first of two lists
  pub written-append_left : (zs ys : List ℕ) (at : ℕ) → at + length ys ≤ length xs → written (xs ++ zs) at ys ≡ written xs at ys ++ zs
  written-append_left zs ys at fits =
      let before : at ≤ length xs = omega arith in
      rw (take-append-le, drop-append-le) (simp append_assoc)

  -- in the second
  pub written-append_right : (zs ys : List ℕ) (at i : ℕ) → i ≡ length xs + at → written (xs ++ zs) i ys ≡ xs ++ written zs at ys
  written-append_right zs ys at i is =
      let end : i + length ys ≡ length xs + (at + length ys) = omega arith in
      rw (end, is, take-append-add, drop-append-add, append_assoc)

  -- nothing
  pub written-nil : (at : ℕ) → written xs at [] ≡ xs
  written-nil at = rw add-zero (take-append-drop at xs)

  -- first some, and then others behind them
  pub written-written : (at i : ℕ) (ys zs : List ℕ) → at ≤ length xs → i ≡ at + length ys → written (written xs at ys) i zs ≡ written xs at (ys ++ zs)
  written-written at i ys zs within is = rw is (again ∙ more ∙ once)
    where
      again : written (written xs at ys) (at + length ys) zs ≡ paste (paste xs at ys (length ys)) (at + length ys) zs (length zs)
      again = sym (ap (λ ws. paste ws (at + length ys) zs (length zs)) (paste_all xs at ys (length ys) refl) ∙ paste_all (written xs at ys) (at + length ys) zs (length zs) refl)

      more : paste (paste xs at ys (length ys)) (at + length ys) zs (length zs) ≡ paste xs at (ys ++ zs) (length ys + length zs)
      more = paste-paste xs at ys zs (length ys) (length zs) refl refl within

      once : paste xs at (ys ++ zs) (length ys + length zs) ≡ written xs at (ys ++ zs)
      once = ap (λ n. paste xs at (ys ++ zs) n) (sym (length-append ys zs)) ∙ paste_all xs at (ys ++ zs) (length (ys ++ zs)) refl

  -- first some, and then others before them
  pub written-before : (at i : ℕ) (ys zs : List ℕ) → i ≡ at + length ys → i ≤ length xs → written (written xs i zs) at ys ≡ written xs at (ys ++ zs)
  written-before at i ys zs is within =
      let front : List ℕ = take i xs in
      let rest : List ℕ = zs ++ drop (i + length zs) xs in
      let long : length front ≡ i = length-take-le i xs within in
      let m : ℕ = i - at in
      let back : i ≡ at + m = omega arith in
      let end : at + length ys ≡ length front = omega arith in
      let past : i + length zs ≡ at + length (ys ++ zs) = omega (arith, length-append ys zs) in
      let before : take at (front ++ rest) ≡ take at xs = take-append-le at front rest (omega arith) ∙ take-take at i xs (omega arith) in
      let after : drop (at + length ys) (front ++ rest) ≡ rest = ap (λ (k : ℕ). drop k (front ++ rest)) end ∙ drop_at front rest (length front) refl in
      ap (λ (ws : List ℕ). ws ++ (ys ++ drop (at + length ys) (front ++ rest))) before
      ∙ ap (λ (ws : List ℕ). take at xs ++ (ys ++ ws)) after
      ∙ ap (λ (ws : List ℕ). take at xs ++ ws) (sym (append_assoc ys zs (drop (i + length zs) xs)))
      ∙ ap (λ (k : ℕ). take at xs ++ ((ys ++ zs) ++ drop k xs)) past

  -- the length stays
  pub length-written : (at : ℕ) (ys : List ℕ) → at + length ys ≤ length xs → length (written xs at ys) ≡ length xs
  length-written at ys fits =
      let before : at ≤ length xs = omega arith in
      rw (length-append, length-take-le, length-append, length-drop) (omega arith)
