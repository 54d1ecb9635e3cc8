-- Numbers on a command line.
use Rattle.std.specs.Prelude.{ℕ, Bool, List, length, ◌&&◌, nat_lt, nat_le, if◌then◌else◌, Option, Some, None}
use Rattle.std.specs.Str.{all_ascii_digits}
use Rattle.ken_num.specs.Numbers.{value_from}

-- 1 to 20 digits, and no other byte
abbrev pub is_number : List ℕ → Bool
is_number word = nat_lt 0 (length word) && nat_le (length word) 20 && all_ascii_digits word

-- the number that a word writes, from `least` to `most`; zeros may stand in front
abbrev pub number_in : ℕ → ℕ → List ℕ → Option ℕ
number_in least most word =
    if is_number word && nat_le least (value_from 0 word) && nat_le (value_from 0 word) most
    then Some (value_from 0 word) else None
