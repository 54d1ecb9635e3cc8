-- Numbers of heads, and the bytes that they are written as.
use Rattle.std.proofs.Common.{◌≡◌, ℕ, ◌+◌, ◌-◌, ◌^◌, ◌<◌, ◌≤◌, List, ◌++◌, length, take, drop, replicate, refl, sym, ap, ◌∙◌, arith, length-drop, length-take, append_assoc}
use Rattle.std.proofs.lemmas.List.{take-append-drop, drop_at, drop-drop, drop-take, take-take}
use Rattle.byteorder.specs.Endian.{big_number, big_bytes}
use Rattle.byteorder.specs.Numbers.{big_number-reads_back, big_from-take, length-bytes_high_first}
use Rattle.ken_model.specs.Layout.{part, head_bytes, HasHead}

-- what is read where a head stands
pub record IsRead (bytes : List ℕ) (at span len : ℕ) : Type 0 where
  pub within : at + 16 ≤ length bytes
  pub span_is : big_number 4 (drop at bytes) ≡ span
  pub len_is : big_number 4 (drop (at + 4) bytes) ≡ len

pub length-head_bytes : (span len : ℕ) → length (head_bytes span len) ≡ 16
length-head_bytes span len = refl

-- a part that is whole ends within the bytes
within_from_part : (bytes ys : List ℕ) (at n : ℕ) → 0 < n → part at n bytes ≡ ys → length ys ≡ n → at + n ≤ length bytes
within_from_part bytes ys at n some is long =
    let e : length (take n (drop at bytes)) ≡ n = ap length is ∙ long in
    omega (arith, length-take n (drop at bytes), length-drop at bytes)

-- bytes that begin with others
begins : (bytes ys : List ℕ) (at n : ℕ) → part at n bytes ≡ ys → drop at bytes ≡ ys ++ drop n (drop at bytes)
begins bytes ys at n is = sym (take-append-drop n (drop at bytes)) ∙ ap (λ (ws : List ℕ). ws ++ drop n (drop at bytes)) is

module _ (a b : ℕ) (small : a < 2 ^ 32) (small' : b < 2 ^ 32) (xs rest : List ℕ) (is : xs ≡ head_bytes a b ++ rest) where
  fits_a : a < 256 ^ 4
  fits_a = omega arith

  fits_b : b < 256 ^ 4
  fits_b = omega arith

  tail : List ℕ
  tail = big_bytes 4 b ++ (replicate 8 0 ++ rest)

  shape : xs ≡ big_bytes 4 a ++ (big_bytes 4 b ++ (replicate 8 0 ++ rest))
  shape = is ∙ append_assoc (big_bytes 4 a ++ big_bytes 4 b) (replicate 8 0) rest ∙ append_assoc (big_bytes 4 a) (big_bytes 4 b) (replicate 8 0 ++ rest)

  pub first_number : big_number 4 xs ≡ a
  first_number = ap (λ (ws : List ℕ). big_number 4 ws) shape ∙ big_number-reads_back 4 a (big_bytes 4 b ++ (replicate 8 0 ++ rest)) fits_a

  pub second_number : big_number 4 (drop 4 xs) ≡ b
  second_number = ap (λ (ws : List ℕ). big_number 4 (drop 4 ws)) shape ∙ ap (λ (ws : List ℕ). big_number 4 ws) (drop_at (big_bytes 4 a) (big_bytes 4 b ++ (replicate 8 0 ++ rest)) 4 (length-bytes_high_first 4 a)) ∙ big_number-reads_back 4 b (replicate 8 0 ++ rest) fits_b

pub IsRead-from_head : (bytes : List ℕ) (at span len : ℕ) → span < 2 ^ 32 → len < 2 ^ 32 → HasHead bytes at span len → IsRead bytes at span len
IsRead-from_head bytes at span len small small' head = record {
  within = within_from_part bytes (head_bytes span len) at 16 (omega arith) head (length-head_bytes span len);
  span_is = first_number span len small small' (drop at bytes) (drop 16 (drop at bytes)) (begins bytes (head_bytes span len) at 16 head);
  len_is = ap (λ (ws : List ℕ). big_number 4 ws) (sym (drop-drop 4 at bytes)) ∙ second_number span len small small' (drop at bytes) (drop 16 (drop at bytes)) (begins bytes (head_bytes span len) at 16 head);
}

-- one place has one head
pub same_span : (bytes : List ℕ) (at span len span' len' : ℕ) → span < 2 ^ 32 → len < 2 ^ 32 → span' < 2 ^ 32 → len' < 2 ^ 32 → HasHead bytes at span len → HasHead bytes at span' len' → (span ≡ span') × (len ≡ len')
same_span bytes at span len span' len' s l s' l' head head' =
    let one : IsRead bytes at span len = IsRead-from_head bytes at span len s l head in
    let two : IsRead bytes at span' len' = IsRead-from_head bytes at span' len' s' l' head' in
    (sym one.span_is ∙ two.span_is, sym one.len_is ∙ two.len_is)

-- a part of a part
pub part_of_part : (xs : List ℕ) (place len at n : ℕ) → at + n ≤ len → take n (drop (place + at) xs) ≡ take n (drop at (part place len xs))
part_of_part xs place len at n fits =
    let rest : ℕ = len - at in
    let is : len ≡ at + rest = omega arith in
    sym (ap (λ (k : ℕ). take n (drop at (take k (drop place xs)))) is ∙ ap (take n) (drop-take at rest (drop place xs)) ∙ take-take n rest (drop at (drop place xs)) (omega arith) ∙ ap (take n) (drop-drop at place xs))

-- the second number of eight bytes that were read
pub second_read : (xs : List ℕ) (at : ℕ) → big_number 4 (take 4 (drop 4 (take 8 (drop at xs)))) ≡ big_number 4 (drop (at + 4) xs)
second_read xs at =
    ap (λ (ws : List ℕ). big_number 4 (take 4 ws)) (drop-take 4 4 (drop at xs))
    ∙ ap (λ (ws : List ℕ). big_number 4 ws) (take-take 4 4 (drop 4 (drop at xs)) (omega arith))
    ∙ big_from-take 0 4 4 (drop 4 (drop at xs)) (omega arith)
    ∙ ap (λ (ws : List ℕ). big_number 4 ws) (drop-drop 4 at xs)
