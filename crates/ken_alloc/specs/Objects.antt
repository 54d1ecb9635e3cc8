-- Objects in a heap, as their callers see them.
use Rattle.std.specs.Prelude.{ℕ, suc, List, [], ◌∷◌, ◌++◌, length, take, replicate, Bool, bytes_eq, ◌==◌, if◌then◌else◌, Option, Some, None, IfSome, IsSome}
use Rattle.ken_frame.specs.Written.{written}
use Rattle.ken_pages.specs.Paged.{Paged}
use Rattle.ken_model.specs.declared.values.Block.{Block}
use Rattle.ken_model.specs.declared.values.Value.{Value}
use Rattle.ken_model.specs.Heap.{with_block, block_at}
use Rattle.ken_model.specs.Layout.{StandsFor}
use Rattle.ken_model.specs.Reading.{value_of}

-- the value, the bytes that stand for it, and those at `begin` where a turn is begun
pub record Heap : Type 0 where
  pub value : Value
  pub bytes : List ℕ
  pub begun : Option (List ℕ)

-- a heap, with how many frames are spare and for each page whether the turn has a frame of its own for it
pub record FramedHeap : Type 0 where
  pub value : Value
  pub bytes : List ℕ
  pub begun : Option (List ℕ)
  pub spare : ℕ
  pub own : List Bool

abbrev pub heap_in : FramedHeap → Heap
heap_in h = record { value = h.value; bytes = h.bytes; begun = h.begun }

abbrev pub heap_of : Paged → FramedHeap
heap_of p = record { value = value_of p.bytes; bytes = p.bytes; begun = p.begun; spare = p.spare; own = p.own }

-- the bytes stand for the value, and so do those at `begin`
pub record IsHeld (p : Paged) : Type 0 where
  pub now : StandsFor p.bytes (value_of p.bytes)
  pub before : IfSome p.begun (λ b. StandsFor b (value_of b))

-- a block stands at a place
abbrev pub IsBlock : Value → ℕ → Type 0
IsBlock v place = IsSome (block_at place v.blocks)

-- a block of n zeros at a place, where there is one
abbrev pub with_zeros : Option ℕ → ℕ → Value → Value
with_zeros None n v = v
with_zeros (Some place) n v = record v { blocks = with_block (record { place = place; bytes = replicate n 0 }) v.blocks }

-- with bytes over those of the block at a place
abbrev pub rewritten : ℕ → ℕ → List ℕ → List Block → List Block
rewritten place at bytes [] = []
rewritten place at bytes (b ∷ bs) = if b.place == place then record b { bytes = written b.bytes at bytes } ∷ bs else b ∷ rewritten place at bytes bs

-- the bytes begin with a key and then one more byte
abbrev pub has_front : List ℕ → ℕ → List ℕ → Bool
has_front key behind bytes = bytes_eq (take (suc (length key)) bytes) (key ++ behind ∷ [])

-- the place of the first block that does
abbrev pub place_of_front : List ℕ → ℕ → List Block → Option ℕ
place_of_front key behind [] = None
place_of_front key behind (b ∷ bs) = if has_front key behind b.bytes then Some b.place else place_of_front key behind bs
