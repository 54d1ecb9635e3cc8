-- A number that is written in decimal is read as that number.
use Rattle.std.proofs.Common.{◌≡◌, ℕ, zero, suc, ◌<◌, ◌^◌, length, slice_index, true, ◌==◌, ◌||◌, not, Some, decimal, ap, arith}
use Rattle.std.specs.Str.{all_ascii_digits}
use Rattle.std.proofs.lemmas.Fmt.{decimal_is_IsNumeral, decimal_nonempty, first_decimal, length-decimal-le}
use Rattle.ken_num.specs.Numbers.{num, is_num}
use Rattle.ken_num.proofs.Decimals.{numerals, value_from-decimal}

first_digit : (n : ℕ) → n < 2 ^ 64 → (not (slice_index (decimal n) 0 == 48) || (length (decimal n) == 1)) ≡ true
first_digit zero word =
    let some = decimal_nonempty 0 word in
    let short = length-decimal-le 1 0 (omega arith) (omega arith) word in
    let one : length (decimal 0) ≡ 1 = omega (arith, some, short) in
    grind (arith, one)
first_digit (suc n) word = let more = first_decimal (suc n) (omega arith) word in grind (arith, more)

pub num_decimal : (n : ℕ) → n < 10 ^ 9 → num (decimal n) ≡ Some n
unfolding num
num_decimal n small =
    let word : n < 2 ^ 64 = omega (arith, small) in
    let some = decimal_nonempty n word in
    let short = length-decimal-le 9 n (omega arith) small word in
    let digits : all_ascii_digits (decimal n) ≡ true = numerals.from (decimal n) (decimal_is_IsNumeral n word).0.1 in
    let front = first_digit n word in
    let is : is_num (decimal n) ≡ true = grind (arith, some, short, digits, front) in
    rw is (ap (λ k. Some k) (value_from-decimal n word))
