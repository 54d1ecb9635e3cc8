-- The value that a heap's bytes stand for, read from them. That it is the one of `StandsFor` is a law (`ReadsWhatStands`).
use Rattle.std.specs.Prelude.{ℕ, zero, suc, ◌+◌, ◌-◌, ◌*◌, ◌/◌, ◌%◌, ◌^◌, List, [], ◌∷◌, length, take, drop, codes, Bool, not, ◌&&◌, ◌||◌, ◌==◌, nat_lt, nat_le, if◌then◌else◌, Option, Some, None}
use Rattle.std.specs.Str.{bytes_eq}
use Rattle.byteorder.specs.Endian.{big_number, big_bytes}
use Rattle.ken_model.specs.declared.facts.TheConstants.{PAGE, MAX_PAGES}
use Rattle.ken_model.specs.declared.values.Block.{Block}
use Rattle.ken_model.specs.declared.values.Value.{Value}
use Rattle.ken_model.specs.Heap.{rounded, end_of}
use Rattle.ken_model.specs.Layout.{part, head_bytes}

-- the blocks of at most n cells from a place on
abbrev pub blocks_from : ℕ → List ℕ → ℕ → List Block
blocks_from zero bytes at = []
blocks_from (suc n) bytes at = if nat_lt (length bytes) (at + 16) then [] else if big_number 4 (drop (at + 4) bytes) == 0 then blocks_from n bytes (at + big_number 4 (drop at bytes)) else record { place = at + 16; bytes = part (at + 16) (big_number 4 (drop (at + 4) bytes)) bytes } ∷ blocks_from n bytes (at + big_number 4 (drop at bytes))

-- the only value that the bytes can stand for
unfoldable pub value_of : List ℕ → Value
value_of bytes = record { size = length bytes; root = big_number 8 bytes; blocks = blocks_from (length bytes / 16) bytes 16 }

-- whether they do: each part of the layout as a test
abbrev pub gap_stands : List ℕ → ℕ → ℕ → Bool
gap_stands bytes from to = nat_le from to && ((to - from) % 16 == 0) && (not (nat_lt from to) || bytes_eq (part from 16 bytes) (head_bytes (to - from) 0))

abbrev pub block_stands : List ℕ → Block → Bool
block_stands bytes b = nat_lt 0 (length b.bytes) && (b.place % 16 == 0) && bytes_eq (part (b.place - 16) 16 bytes) (head_bytes (16 + rounded (length b.bytes)) (length b.bytes)) && bytes_eq (part b.place (length b.bytes) bytes) b.bytes

abbrev pub cells_stand : List ℕ → ℕ → ℕ → List Block → Bool
cells_stand bytes from to [] = gap_stands bytes from to
cells_stand bytes from to (b ∷ bs) = nat_le (from + 16) b.place && gap_stands bytes from (b.place - 16) && block_stands bytes b && cells_stand bytes (end_of b) to bs

abbrev pub is_size : ℕ → Bool
is_size size = nat_lt 0 (size / PAGE) && nat_le (size / PAGE) MAX_PAGES && (size == PAGE * (size / PAGE))

abbrev pub header_stands : List ℕ → ℕ → Bool
header_stands bytes root = nat_lt root (2 ^ 64) && bytes_eq (take 8 bytes) (big_bytes 8 root) && bytes_eq (part 8 4 bytes) (codes "KENH") && bytes_eq (part 12 4 bytes) (big_bytes 4 (length bytes / PAGE))

abbrev pub value_stands : List ℕ → Value → Bool
value_stands bytes v = (length bytes == v.size) && is_size v.size && header_stands bytes v.root && cells_stand bytes 16 v.size v.blocks

-- the value that the bytes stand for, where they stand for one
unfoldable pub read_value : List ℕ → Option Value
read_value bytes = if value_stands bytes (value_of bytes) then Some (value_of bytes) else None
