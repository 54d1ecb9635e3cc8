-- Numbers in text.
use Rattle.std.specs.Prelude.{ℕ, ◌+◌, ◌-◌, ◌*◌, List, [], ◌∷◌, length, Bool, ◌&&◌, ◌||◌, not, ◌==◌, nat_lt, nat_le, if◌then◌else◌, Option, Some, None, slice_index}
use Rattle.std.specs.Str.{all_ascii_digits}

-- the number that decimal digits write, after those that wrote n
abbrev pub value_from : ℕ → List ℕ → ℕ
value_from n [] = n
value_from n (c ∷ cs) = value_from (10 * n + (c - 48)) cs

-- whether a text is a number in the one way of writing it: 1 to 9 digits, with no zero in front of others
abbrev pub is_num : List ℕ → Bool
is_num bytes = nat_lt 0 (length bytes) && nat_le (length bytes) 9 && all_ascii_digits bytes && (not (slice_index bytes 0 == 48) || (length bytes == 1))

-- the number that a text writes
unfoldable pub num : List ℕ → Option ℕ
num bytes = if is_num bytes then Some (value_from 0 bytes) else None
