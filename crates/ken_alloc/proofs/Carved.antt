-- A block of zeros that is made in a gap.
use Rattle.std.proofs.Common.{◌≡◌, ℕ, ◌+◌, ◌-◌, ◌%◌, ◌<◌, ◌≤◌, eqb, List, ◌++◌, length, take, drop, replicate, inl, inr, refl, sym, ap, ◌∙◌, arith, length-append, take_all}
use Rattle.std.proofs.lemmas.Bool.Decides.{eqb_tells}
use Rattle.std.proofs.lemmas.List.{take-take, length-replicate}
use Rattle.ken_frame.specs.Written.{written}
use Rattle.ken_frame.proofs.Written.{written-before}
use Rattle.ken_model.specs.Heap.{rounded}
use Rattle.ken_model.specs.Layout.{part, head_bytes, HasHead, IsGap}
use Rattle.ken_alloc.specs.Changes.{with_gap, with_zeros_at}
use Rattle.ken_alloc.specs.Kept.{KeepsOutside}
use Rattle.ken_model.proofs.Heads.{part_of_part}
use Rattle.ken_alloc.proofs.Kept.{KeepsOutside-same, KeepsOutside-wider, KeepsOutside-trans, KeepsOutside-after, part_after}
use Rattle.ken_model.proofs.Choices.{at_true, at_false}
use Rattle.ken_model.proofs.Walked.{IsGap-none}
use Rattle.ken_alloc.proofs.Cells.{IsGap-above}

-- the head of a gap is written, where there is one
module _ (xs : List ℕ) (from to : ℕ) (order : from ≤ to) (room : from < to → from + 16 ≤ to) (within : to ≤ length xs) where
  pub KeepsOutside-with_gap : KeepsOutside from to xs (with_gap from to xs)
  KeepsOutside-with_gap = elim (eqb_tells from to) [
    | inl t ↦ at_true (λ (ws : List ℕ). KeepsOutside from to xs ws) (eqb from to) xs (written xs from (head_bytes (to - from) 0)) t.0 (KeepsOutside-same from to xs)
    | inr f ↦
        let some : from + 16 ≤ to = room (omega (arith, f.1)) in
        at_false (λ (ws : List ℕ). KeepsOutside from to xs ws) (eqb from to) xs (written xs from (head_bytes (to - from) 0)) f.0
        (KeepsOutside-wider from (from + 16) from to xs (written xs from (head_bytes (to - from) 0)) (omega arith) some
        (KeepsOutside-after xs (written xs from (head_bytes (to - from) 0)) (head_bytes (to - from) 0) from 16 refl (omega arith) refl))
  ]

  pub IsGap-with_gap : (to - from) % 16 ≡ 0 → IsGap (with_gap from to xs) from to
  IsGap-with_gap even = elim (eqb_tells from to) [
    | inl t ↦ IsGap-none (with_gap from to xs) from to t.1
    | inr f ↦
        let some : from + 16 ≤ to = room (omega (arith, f.1)) in
        at_false (λ (ws : List ℕ). IsGap ws from to) (eqb from to) xs (written xs from (head_bytes (to - from) 0)) f.0
        (order, even, λ gap. part_after xs (written xs from (head_bytes (to - from) 0)) (head_bytes (to - from) 0) from 16 refl (omega arith) refl)
  ]

-- the rest's head, then the zeros, and the block's head last
pub carved : (old closed filled new : List ℕ) (from len span to : ℕ) → span ≡ 16 + rounded len → from + 16 ≤ length closed → closed ≡ with_gap (from + span) to old → filled ≡ written closed (from + 16) (replicate len 0) → new ≡ written filled from (head_bytes span len) → new ≡ with_zeros_at (from + 16) len to old
carved old closed filled new from len span to span_is within close fill last =
    let end : from + span ≡ from + 16 + rounded len = omega arith in
    let place : from ≡ from + 16 - 16 = omega arith in
    last
    ∙ ap (λ (ws : List ℕ). written ws from (head_bytes span len)) fill
    ∙ written-before closed from (from + 16) (head_bytes span len) (replicate len 0) refl within
    ∙ ap (λ (k : ℕ). written closed from (head_bytes k len ++ replicate len 0)) span_is
    ∙ ap (λ (ws : List ℕ). written ws from (head_bytes (16 + rounded len) len ++ replicate len 0)) (close ∙ ap (λ (k : ℕ). with_gap k to old) end)
    ∙ ap (λ (k : ℕ). written (with_gap (from + 16 + rounded len) to old) k (head_bytes (16 + rounded len) len ++ replicate len 0)) place

-- what then stands where
module _ (xs ys : List ℕ) (from to n : ℕ) (fits : from + 16 + rounded n ≤ to) (even : (to - (from + 16 + rounded n)) % 16 ≡ 0) (within : to ≤ length xs) (is : ys ≡ with_zeros_at (from + 16) n to xs) where
  closed : List ℕ
  closed = with_gap (from + 16 + rounded n) to xs

  front : List ℕ
  front = head_bytes (16 + rounded n) n ++ replicate n 0

  long : length (head_bytes (16 + rounded n) n ++ replicate n 0) ≡ 16 + n
  long = length-append (head_bytes (16 + rounded n) n) (replicate n 0) ∙ ap (λ (k : ℕ). 16 + k) (length-replicate {A = ℕ} n 0)

  is_front : ys ≡ written (with_gap (from + 16 + rounded n) to xs) from (head_bytes (16 + rounded n) n ++ replicate n 0)
  is_front =
      let place : from + 16 - 16 ≡ from = omega arith in
      is ∙ ap (λ (k : ℕ). written (with_gap (from + 16 + rounded n) to xs) k (head_bytes (16 + rounded n) n ++ replicate n 0)) place

  kept_closed : KeepsOutside (from + 16 + rounded n) to xs (with_gap (from + 16 + rounded n) to xs)
  kept_closed = KeepsOutside-with_gap xs (from + 16 + rounded n) to fits (λ some. omega arith) within

  within_closed : from + (16 + n) ≤ length (with_gap (from + 16 + rounded n) to xs)
  within_closed = omega (arith, kept_closed.long)

  kept_front : KeepsOutside from (from + (16 + n)) (with_gap (from + 16 + rounded n) to xs) ys
  kept_front = KeepsOutside-after (with_gap (from + 16 + rounded n) to xs) ys (head_bytes (16 + rounded n) n ++ replicate n 0) from (16 + n) long within_closed is_front

  there : part from (16 + n) ys ≡ head_bytes (16 + rounded n) n ++ replicate n 0
  there = part_after (with_gap (from + 16 + rounded n) to xs) ys (head_bytes (16 + rounded n) n ++ replicate n 0) from (16 + n) long within_closed is_front

  pub KeepsOutside-carved : KeepsOutside from to xs ys
  KeepsOutside-carved = KeepsOutside-trans (from + 16 + rounded n) to from (from + (16 + n)) from to xs (with_gap (from + 16 + rounded n) to xs) ys kept_closed kept_front (omega arith) (omega arith) (omega arith) (omega arith)

  pub HasHead-carved : HasHead ys from (16 + rounded n) n
  HasHead-carved = sym (take-take 16 (16 + n) (drop from ys) (omega arith)) ∙ ap (take 16) there

  pub zeros-carved : part (from + 16) n ys ≡ replicate n 0
  zeros-carved = part_of_part ys from (16 + n) 16 n (omega arith) ∙ ap (λ (ws : List ℕ). take n (drop 16 ws)) there ∙ take_all n (replicate n 0) (omega (arith, length-replicate {A = ℕ} n 0))

  pub IsGap-carved : IsGap ys (from + 16 + rounded n) to
  IsGap-carved =
      IsGap-above from (from + (16 + n)) (with_gap (from + 16 + rounded n) to xs) ys kept_front (from + 16 + rounded n) to (omega arith)
      (IsGap-with_gap xs (from + 16 + rounded n) to fits (λ some. omega arith) within even)
