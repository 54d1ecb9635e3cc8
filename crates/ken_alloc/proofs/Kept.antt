-- Parts of bytes that others are written over.
use Rattle.std.proofs.Common.{◌≡◌, ℕ, ◌+◌, ◌-◌, ◌≤◌, List, ◌++◌, length, take, drop, refl, sym, ap, subst, ◌∙◌, arith, length-append, length-drop, length-take-le, append_assoc, replicate}
use Rattle.std.proofs.Math.Seq.{drop-append-add}
use Rattle.std.proofs.lemmas.List.{take-append-drop, take-append-le, drop-append-le, take-take, take_at, drop_at, drop-drop, drop-take, length-replicate, replicate-append-replicate}
use Rattle.ken_frame.specs.Written.{written}
use Rattle.ken_frame.proofs.Written.{written-append_left, written-append_right, written-written, length-written}
use Rattle.ken_model.specs.Layout.{part}
use Rattle.ken_alloc.specs.Kept.{KeepsOutside}

module _ (xs ys : List ℕ) (at : ℕ) (fits : at + length ys ≤ length xs) where
  below : (p n : ℕ) → p + n ≤ at → part p n (written xs at ys) ≡ part p n xs
  below p n h =
      let rest : List ℕ = ys ++ drop (at + length ys) xs in
      let long : length (take at xs) ≡ at = length-take-le at xs (omega arith) in
      let m : ℕ = at - p in
      let is : at ≡ p + m = omega arith in
      let start : p ≤ length (take at xs) = omega arith in
      let end : n ≤ length (drop p (take at xs)) = omega (arith, length-drop p (take at xs)) in
      ap (take n) (drop-append-le p (take at xs) rest start)
      ∙ take-append-le n (drop p (take at xs)) rest end
      ∙ ap (λ (k : ℕ). take n (drop p (take k xs))) is
      ∙ ap (take n) (drop-take p m xs)
      ∙ take-take n m (drop p xs) (omega arith)

  above : (p n : ℕ) → at + length ys ≤ p → part p n (written xs at ys) ≡ part p n xs
  above p n h =
      let head : List ℕ = take at xs ++ ys in
      let long : length head ≡ at + length ys = length-append (take at xs) ys ∙ ap (λ (k : ℕ). k + length ys) (length-take-le at xs (omega arith)) in
      let k : ℕ = p - (at + length ys) in
      let is : p ≡ length head + k = omega arith in
      let is' : at + length ys + k ≡ p = omega arith in
      let regroup : written xs at ys ≡ head ++ drop (at + length ys) xs = sym (append_assoc (take at xs) ys (drop (at + length ys) xs)) in
      ap (λ (ws : List ℕ). take n (drop p ws)) regroup
      ∙ ap (λ (i : ℕ). take n (drop i (head ++ drop (at + length ys) xs))) is
      ∙ ap (take n) (drop-append-add head (drop (at + length ys) xs) k)
      ∙ ap (take n) (drop-drop k (at + length ys) xs)
      ∙ ap (λ (i : ℕ). take n (drop i xs)) is'

  -- what was written stands there
  pub part-written : part at (length ys) (written xs at ys) ≡ ys
  part-written =
      ap (take (length ys)) (drop_at (take at xs) (ys ++ drop (at + length ys) xs) at (length-take-le at xs (omega arith)))
      ∙ take_at ys (drop (at + length ys) xs) (length ys) refl

  pub KeepsOutside-written : KeepsOutside at (at + length ys) xs (written xs at ys)
  KeepsOutside-written = record {
    long = length-written xs at ys fits;
    below = below;
    above = above;
  }

-- a part of what is written over
pub part-written_within : (xs ys : List ℕ) (place n at p : ℕ) → p ≡ place + at → at + length ys ≤ n → place + n ≤ length xs → part place n (written xs p ys) ≡ written (part place n xs) at ys
part-written_within xs ys place n at p is within fits =
    let a : List ℕ = take place xs in
    let rest : List ℕ = drop place xs in
    let b : List ℕ = take n rest in
    let long : length a ≡ place = length-take-le place xs (omega arith) in
    let longer : length b ≡ n = length-take-le n rest (omega (arith, length-drop place xs)) in
    let split : xs ≡ a ++ rest = sym (take-append-drop place xs) in
    let again : rest ≡ b ++ drop n rest = sym (take-append-drop n rest) in
    let there : written xs p ys ≡ a ++ written rest at ys = ap (λ (ws : List ℕ). written ws p ys) split ∙ written-append_right a rest ys at p (omega arith) in
    let inside : written rest at ys ≡ written b at ys ++ drop n rest = ap (λ (ws : List ℕ). written ws at ys) again ∙ written-append_left b (drop n rest) ys at (omega arith) in
    ap (λ (ws : List ℕ). take n (drop place ws)) there
    ∙ ap (take n) (drop_at a (written rest at ys) place long)
    ∙ ap (take n) inside
    ∙ take_at (written b at ys) (drop n rest) n (length-written b at ys (omega arith) ∙ longer)

pub KeepsOutside-same : (lo hi : ℕ) (xs : List ℕ) → KeepsOutside lo hi xs xs
KeepsOutside-same lo hi xs = record { long = refl; below = λ at n h. refl; above = λ at n h. refl }

-- between places further apart
pub KeepsOutside-wider : (lo hi l h : ℕ) (xs ys : List ℕ) → l ≤ lo → hi ≤ h → KeepsOutside lo hi xs ys → KeepsOutside l h xs ys
KeepsOutside-wider lo hi l h xs ys below above kept = record { long = kept.long; below = λ at n le. kept.below at n (omega arith); above = λ at n le. kept.above at n (omega arith) }

-- one after the other
pub KeepsOutside-trans : (lo hi lo' hi' l h : ℕ) (xs ys zs : List ℕ) → KeepsOutside lo hi xs ys → KeepsOutside lo' hi' ys zs → l ≤ lo → l ≤ lo' → hi ≤ h → hi' ≤ h → KeepsOutside l h xs zs
KeepsOutside-trans lo hi lo' hi' l h xs ys zs one two ll ll' hh hh' = record {
  long = two.long ∙ one.long;
  below = λ at n le. two.below at n (omega arith) ∙ one.below at n (omega arith);
  above = λ at n le. two.above at n (omega arith) ∙ one.above at n (omega arith);
}

-- after a write
module _ (old new ys : List ℕ) (at n : ℕ) (long : length ys ≡ n) (fits : at + n ≤ length old) (is : new ≡ written old at ys) where
  pub KeepsOutside-after : KeepsOutside at (at + n) old new
  KeepsOutside-after =
      subst (λ (ws : List ℕ). KeepsOutside at (at + n) old ws) (sym is) (subst (λ (k : ℕ). KeepsOutside at (at + k) old (written old at ys)) long (KeepsOutside-written old ys at (omega arith)))

  pub part_after : part at n new ≡ ys
  part_after =
      ap (λ (ws : List ℕ). part at n ws) is ∙ ap (λ (k : ℕ). part at k (written old at ys)) (sym long) ∙ part-written old ys at (omega arith)

-- a part more of zeros
pub zeros_more : (first old new ys : List ℕ) (at done n : ℕ) → at ≤ length first → old ≡ written first at (replicate done 0) → ys ≡ replicate n 0 → new ≡ written old (at + done) ys → new ≡ written first at (replicate (done + n) 0)
zeros_more first old new ys at done n within before zeros is =
    let end : at + done ≡ at + length {A = ℕ} (replicate done 0) = ap (λ (k : ℕ). at + k) (sym (length-replicate {A = ℕ} done 0)) in
    is
    ∙ ap (λ (ws : List ℕ). written ws (at + done) ys) before
    ∙ ap (λ (ws : List ℕ). written (written first at (replicate done 0)) (at + done) ws) zeros
    ∙ written-written first at (at + done) (replicate done 0) (replicate n 0) within end
    ∙ ap (λ (ws : List ℕ). written first at ws) (replicate-append-replicate done n 0)

-- zeros written change nothing else
pub KeepsOutside-zeros : (old new : List ℕ) (at done len : ℕ) → done ≤ len → at + len ≤ length old → new ≡ written old at (replicate done 0) → KeepsOutside at (at + len) old new
KeepsOutside-zeros old new at done len le fits is =
    KeepsOutside-wider at (at + done) at (at + len) old new (omega arith) (omega arith) (KeepsOutside-after old new (replicate done 0) at done (length-replicate {A = ℕ} done 0) (omega arith) is)
