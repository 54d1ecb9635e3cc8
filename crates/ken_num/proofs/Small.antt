-- A number in a payload or a script is small.
use Rattle.std.proofs.Common.{◌≡◌, ℕ, ◌<◌, ◌≤◌, ◌^◌, List, length, Bool, true, false, ◌&&◌, if◌then◌else◌, nat_lt, nat_le, Some, None, ◌||◌, not, ◌==◌, slice_index, refl, arith}
use Rattle.std.specs.Str.{all_ascii_digits}
use Rattle.std.proofs.lemmas.Bool.Decides.{nat_tests}
use Rattle.std.proofs.lemmas.Str.Parse.{digits_value_short}
use Rattle.ken_num.specs.Numbers.{num, is_num, value_from}
use Rattle.ken_num.proofs.Decimals.{numerals}

-- what a test of four parts says of two of them
second_and_third : (a c d : Bool) (k : ℕ) → a && nat_le k 9 && c && d ≡ true → (k ≤ 9) × (c ≡ true)
second_and_third a c d k test = grind (arith, nat_tests)

chosen : (b : Bool) (v n : ℕ) → (if b then Some v else None) ≡ Some n → (b ≡ true) × (v ≡ n)
chosen true v n e = (refl, cc)
chosen false v n e = absurd cc

pub num-lt : (bytes : List ℕ) (n : ℕ) → num bytes ≡ Some n → n < 10 ^ 9
unfolding num
num-lt bytes n e =
    let taken = chosen (is_num bytes) (value_from 0 bytes) n e in
    let parts = second_and_third (nat_lt 0 (length bytes)) (all_ascii_digits bytes) (not (slice_index bytes 0 == 48) || (length bytes == 1)) (length bytes) taken.0 in
    omega (arith, digits_value_short numerals bytes 9 parts.1 parts.0, taken.1)

-- it has few bytes, and all are digits
pub num-digits : (bytes : List ℕ) (n : ℕ) → num bytes ≡ Some n → (all_ascii_digits bytes ≡ true) × (length bytes ≤ 9)
unfolding num
num-digits bytes n e =
    let taken = chosen (is_num bytes) (value_from 0 bytes) n e in
    let parts = second_and_third (nat_lt 0 (length bytes)) (all_ascii_digits bytes) (not (slice_index bytes 0 == 48) || (length bytes == 1)) (length bytes) taken.0 in
    (parts.1, parts.0)
