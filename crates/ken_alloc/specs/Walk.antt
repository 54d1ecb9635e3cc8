-- Walks over the cells, from the end of one block to the end of the next.
use Rattle.std.specs.Prelude.{◌≡◌, ℕ, ◌+◌, ◌-◌, ◌%◌, ◌<◌, ◌^◌, List, [], ◌∷◌, length, take, drop, ◌==◌, nat_lt, if◌then◌else◌, Option, Some, None}
use Rattle.ken_model.specs.declared.values.Block.{Block}
use Rattle.ken_model.specs.Heap.{rounded, end_of}
use Rattle.ken_alloc.specs.declared.walk.Found.{Found}
use Rattle.ken_alloc.specs.declared.walk.Gap.{Gap}
use Rattle.ken_model.specs.Layout.{AreCells}

-- from a place on stand the cells of these blocks, up to the end
pub record IsWalk (bytes : List ℕ) (from : ℕ) (rest : List Block) : Type 0 where
  pub even : from % 16 ≡ 0
  pub whole : length bytes % 16 ≡ 0
  pub small : length bytes < 2 ^ 32
  pub cells : AreCells bytes from (length bytes) rest

pub record CanWalk (bytes : List ℕ) (from : ℕ) : Type 0 where
  pub rest : List Block
  pub walk : IsWalk bytes from rest

-- where the gap before the first block ends
abbrev pub start_of : ℕ → List Block → ℕ
start_of size [] = size
start_of size (b ∷ bs) = b.place - 16

abbrev pub first_of : List Block → Option Found
first_of [] = None
first_of (b ∷ bs) = Some (record { place = b.place; len = length b.bytes })

-- the bytes from a place on, up to the end of its page
abbrev pub page_rest : ℕ → List ℕ → List ℕ
page_rest at bytes = take (256 - at % 256) (drop at bytes)

-- the first gap that a block of n bytes fits into
abbrev pub fit_from : ℕ → ℕ → List Block → ℕ → Option Gap
fit_from from size [] n = if nat_lt size (from + 16 + rounded n) then None else Some (record { from = from; to = size })
fit_from from size (b ∷ bs) n = if nat_lt b.place (from + 32 + rounded n) then fit_from (end_of b) size bs n else Some (record { from = from; to = b.place - 16 })

-- the gap that is left where the block at a place goes
abbrev pub hole_from : ℕ → ℕ → ℕ → List Block → Option Gap
hole_from from size place [] = None
hole_from from size place (b ∷ bs) = if b.place == place then Some (record { from = from; to = start_of size bs }) else hole_from (end_of b) size place bs
