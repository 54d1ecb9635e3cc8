-- Writes in the middle of bytes: what stands before them stays.
use Rattle.std.proofs.Common.{◌≡◌, ℕ, ◌+◌, ◌≤◌, List, [], ◌∷◌, ◌++◌, length, take, drop, refl, sym, ap, ◌∙◌, arith, length-append}
use Rattle.std.proofs.lemmas.List.{take_at, drop_at, take-append-drop, drop-drop}
use Rattle.ken_disk.specs.Bytes.{overwrite}
use Rattle.ken_disk.specs.Through.{Torn}

module _ (front : List ℕ) (at : ℕ) (place : at ≡ length front) where
  -- bytes are written behind the front
  pub over_at : (bytes rest : List ℕ) → overwrite at bytes (front ++ rest) ≡ front ++ (bytes ++ drop (length bytes) rest)
  over_at bytes rest =
      let before : take at (front ++ rest) ≡ front = take_at front rest at (sym place) in
      let after : drop (at + length bytes) (front ++ rest) ≡ drop (length bytes) rest = sym (drop-drop (length bytes) at (front ++ rest)) ∙ ap (drop (length bytes)) (drop_at front rest at (sym place)) in
      rw (before, after) refl

  -- a torn write behind the front leaves the front
  pub torn_at : (n : ℕ) (rest image : List ℕ) → Torn at n (front ++ rest) image → (rest' : List ℕ) × (image ≡ front ++ rest') × (drop n rest' ≡ drop n rest)
  torn_at n rest image torn =
      let before : take at image ≡ front = torn.before ∙ take_at front rest at (sym place) in
      let after : drop n (drop at image) ≡ drop n rest = drop-drop n at image ∙ torn.after ∙ sym (drop-drop n at (front ++ rest)) ∙ ap (drop n) (drop_at front rest at (sym place)) in
      (drop at image, sym (take-append-drop at image) ∙ ap (λ (l : List ℕ). l ++ drop at image) before, after)

-- of one byte, the rest stays too
one_byte : (rest tail : List ℕ) → 1 ≤ length rest → drop 1 rest ≡ tail → (byte : ℕ) × (rest ≡ byte ∷ tail)
one_byte [] tail long is = absurd (omega (arith, long))
one_byte (b ∷ rest) tail long is = (b, ap (λ (l : List ℕ). b ∷ l) is)

pub torn_byte : (front : List ℕ) (at gate : ℕ) (tail image : List ℕ) → at ≡ length front → Torn at 1 (front ++ gate ∷ tail) image → (byte : ℕ) × (image ≡ front ++ byte ∷ tail)
torn_byte front at gate tail image place torn =
    let t = torn_at front at place 1 (gate ∷ tail) image torn in
    let long : 1 ≤ length t.0 = omega (arith, torn.no_shorter, ap length t.1, length-append front t.0, length-append front (gate ∷ tail)) in
    let b = one_byte t.0 tail long t.2 in
    (b.0, t.1 ∙ ap (λ (l : List ℕ). front ++ l) b.1)
