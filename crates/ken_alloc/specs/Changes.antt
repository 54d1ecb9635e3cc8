-- The bytes that a change leaves.
use Rattle.std.specs.Prelude.{ℕ, ◌+◌, ◌-◌, List, [], ◌∷◌, ◌++◌, replicate, ◌==◌, nat_lt, if◌then◌else◌, Option, Some, None}
use Rattle.std.specs.Option.{option_map_or}
use Rattle.ken_frame.specs.Written.{written}
use Rattle.ken_model.specs.declared.values.Block.{Block}
use Rattle.ken_model.specs.declared.values.Value.{Value}
use Rattle.ken_model.specs.Heap.{rounded, end_of, place_past}
use Rattle.ken_model.specs.Layout.{head_bytes}

-- where the last block before a place ends, or `from` where there is none
abbrev pub end_before : ℕ → ℕ → List Block → ℕ
end_before from place [] = from
end_before from place (b ∷ bs) = if nat_lt b.place place then end_before (end_of b) place bs else from

-- the room between the block before a place and the block after it: where it begins, and where it ends
abbrev pub room_start : Value → ℕ → ℕ
room_start v place = end_before 16 place v.blocks

abbrev pub room_end : Value → ℕ → ℕ
room_end v place = option_map_or (λ (next : ℕ). next - 16) (place_past place v.blocks) v.size

-- with the head of a gap between two places, where they are two
abbrev pub with_gap : ℕ → ℕ → List ℕ → List ℕ
with_gap from to bytes = if from == to then bytes else written bytes from (head_bytes (to - from) 0)

-- with a block of n zeros at a place, in a room that ends at `to`: its head, its bytes, and the head of the gap that is left
-- behind it, where there is one
abbrev pub with_zeros_at : ℕ → ℕ → ℕ → List ℕ → List ℕ
with_zeros_at place n to bytes = written (with_gap (place + rounded n) to bytes) (place - 16) (head_bytes (16 + rounded n) n ++ replicate n 0)

-- what `alloc` leaves where it answers a place, or none
abbrev pub after_alloc : Option ℕ → ℕ → Value → List ℕ → List ℕ
after_alloc None n v bytes = bytes
after_alloc (Some place) n v bytes = with_zeros_at place n (room_end v place) bytes

-- what `free` leaves: the head of one gap, from the block before the place to the block after it
abbrev pub after_free : ℕ → Value → List ℕ → List ℕ
after_free place v bytes = written bytes (room_start v place) (head_bytes (room_end v place - room_start v place) 0)
