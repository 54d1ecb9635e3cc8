-- A node's heap as a list of blocks: which lists are one, where a new block goes, and what stands where.
use Rattle.std.specs.Prelude.{◌≡◌, ℕ, ◌+◌, ◌*◌, ◌/◌, ◌%◌, ◌<◌, ◌≤◌, ◌^◌, List, [], ◌∷◌, length, ◌⊎◌, nat_lt, ◌==◌, if◌then◌else◌, Option, Some, None}
use Rattle.std.specs.List.{AllByRecursion, Contains}
use Rattle.ken_model.specs.declared.facts.TheConstants.{PAGE, MAX_PAGES}
use Rattle.ken_model.specs.declared.values.Block.{Block}
use Rattle.ken_model.specs.declared.values.Value.{Value}

-- rounded up to a multiple of 16
abbrev pub rounded : ℕ → ℕ
rounded n = (n + 15) / 16 * 16

-- a block covers the 16 bytes before its place, and its own bytes rounded up: where its cover ends
abbrev pub end_of : Block → ℕ
end_of b = b.place + rounded (length b.bytes)

-- blocks with rising places: the covers are apart, none begins before `from`, and all end within the size
abbrev pub AreBlocks : ℕ → ℕ → List Block → Type 0
AreBlocks from size [] = from ≤ size
AreBlocks from size (b ∷ bs) = (from + 16 ≤ b.place) × (b.place % 16 ≡ 0) × (0 < length b.bytes) × AreBlocks (end_of b) size bs

-- a heap: its first 16 bytes are no block's
pub record IsHeap (v : Value) : Type 0 where
  pub pages : (n : ℕ) × (0 < n) × (n ≤ MAX_PAGES) × (v.size ≡ PAGE * n)
  pub root : v.root < 2 ^ 64
  pub blocks : AreBlocks 16 v.size v.blocks

-- the place of a block of n bytes in the first gap that it fits into, of those from `from` on. A gap begins where a cover
-- ends, and ends where the next begins
abbrev pub first_gap_from : ℕ → ℕ → List Block → ℕ → Option ℕ
first_gap_from from size [] n = if nat_lt size (from + 16 + rounded n) then None else Some (from + 16)
first_gap_from from size (b ∷ bs) n = if nat_lt b.place (from + 32 + rounded n) then first_gap_from (end_of b) size bs n else Some (from + 16)

abbrev pub first_gap : Value → ℕ → Option ℕ
first_gap v n = first_gap_from 16 v.size v.blocks n

-- the blocks with one more among them
abbrev pub with_block : Block → List Block → List Block
with_block new [] = new ∷ []
with_block new (b ∷ bs) = if nat_lt new.place b.place then new ∷ b ∷ bs else b ∷ with_block new bs

-- the blocks with other bytes in the one at a place
abbrev pub with_bytes : ℕ → List ℕ → List Block → List Block
with_bytes place bytes [] = []
with_bytes place bytes (b ∷ bs) = if b.place == place then record b { bytes = bytes } ∷ bs else b ∷ with_bytes place bytes bs

-- the blocks without the one at a place
abbrev pub without_block : ℕ → List Block → List Block
without_block place [] = []
without_block place (b ∷ bs) = if b.place == place then bs else b ∷ without_block place bs

-- the bytes of the block at a place
abbrev pub block_at : ℕ → List Block → Option (List ℕ)
block_at place [] = None
block_at place (b ∷ bs) = if b.place == place then Some b.bytes else block_at place bs

-- the place of the first block past a place
abbrev pub place_past : ℕ → List Block → Option ℕ
place_past place [] = None
place_past place (b ∷ bs) = if nat_lt place b.place then Some b.place else place_past place bs

-- a place for a block of n bytes: it stands right after `from` or after some block's cover, and its own cover is apart from
-- all others and ends within the size
pub record IsFit (from size : ℕ) (bs : List Block) (n place : ℕ) : Type 0 where
  pub start : ℕ
  pub begins : (start ≡ from) ⊎ ((b : Block) × Contains bs b × (start ≡ end_of b))
  pub stands : place ≡ start + 16
  pub apart : AllByRecursion (λ (b : Block). (place + rounded n + 16 ≤ b.place) ⊎ (end_of b ≤ start)) bs
  pub within : place + rounded n ≤ size
