-- Numbers read back from their digits.
use Rattle.std.proofs.Common.{◌≡◌, ℕ, ◌<◌, ◌^◌, All, true, decimal, rules}
use Rattle.std.specs.Int.{IsInRange}
use Rattle.std.specs.Str.{all_ascii_digits}
use Rattle.std.proofs.lemmas.Fmt.{decimal_is_IsNumeral, digits_value-decimal}
use Rattle.std.proofs.lemmas.List.Elements.{All-from_get_or}
use Rattle.std.proofs.lemmas.Str.Parse.{IsNumeralModel, numerals_by_fold, digit_at}
use Rattle.ken_num.specs.Numbers.{value_from}

-- digits have the value that std gives them
pub numerals : IsNumeralModel (λ ds. all_ascii_digits ds ≡ true) (value_from 0)
numerals = numerals_by_fold _ (search rules) value_from (search rules)

-- a number comes back from its digits
pub value_from-decimal : (n : ℕ) → n < 2 ^ 64 → value_from 0 (decimal n) ≡ n
value_from-decimal n word = digits_value-decimal numerals n word

-- what holds of digits holds of each byte of a number
pub All-decimal : (P : ℕ → Type 0) → ((b : ℕ) → IsInRange 48 57 b → P b) → (n : ℕ) → n < 2 ^ 64 → All P (decimal n)
All-decimal P digit n word = All-from_get_or P (decimal n) 0 (λ i l. digit _ (digit_at (decimal n) i (decimal_is_IsNumeral n word).0.1 l))
