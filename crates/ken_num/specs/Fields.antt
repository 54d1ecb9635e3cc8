-- Numbers in bytes, the highest byte first.
use Rattle.std.specs.Prelude.{ℕ, ◌+◌, List, length, drop, nat_lt, if◌then◌else◌, Option, Some, None}
use Rattle.byteorder.specs.Endian.{big_number}

-- the number in w bytes from a place on, where so many stand there
abbrev pub field_at : ℕ → List ℕ → ℕ → Option ℕ
field_at w bytes at = if nat_lt (length bytes) (at + w) then None else Some (big_number w (drop at bytes))
