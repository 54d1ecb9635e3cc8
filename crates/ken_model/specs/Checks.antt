-- Tests of a heap's bytes, a part at a time.
use Rattle.std.specs.Prelude.{◌≡◌, ℕ, ◌+◌, ◌*◌, ◌%◌, ◌<◌, ◌≤◌, List, [], ◌∷◌, length, take, codes, Bool, false, ◌==◌, if◌then◌else◌}
use Rattle.byteorder.specs.Endian.{big_bytes, big_number}
use Rattle.ken_model.specs.declared.values.Block.{Block}
use Rattle.ken_model.specs.declared.values.Value.{Value}
use Rattle.ken_model.specs.Heap.{rounded}
use Rattle.ken_model.specs.Layout.{part, head_bytes, HasName, HasPages}

-- bytes are the head of a cell with these numbers, within so many bytes; a gap doesn't follow a gap
pub record IsCell (bytes : List ℕ) (room span len : ℕ) (after_gap : Bool) : Type 0 where
  pub gap : len ≡ 0 → (after_gap ≡ false) × (16 ≤ span) × (span % 16 ≡ 0)
  pub block : 0 < len → span ≡ 16 + rounded len
  pub within : span ≤ room
  pub is : bytes ≡ head_bytes span len

-- where the 16 bytes before the cells are wrong first
pub data IsWrongHeader (bytes : List ℕ) (pages : ℕ) : ℕ → Type 0 where
  name : (part 8 4 bytes ≡ codes "KENH" → ⊥) → IsWrongHeader bytes pages 8
  pages : part 8 4 bytes ≡ codes "KENH" → (part 12 4 bytes ≡ big_bytes 4 pages → ⊥) → IsWrongHeader bytes pages 12

-- what stands before the cells is right, and there are 1 to 4,096 whole pages
pub record HasHeader (bytes : List ℕ) : Type 0 where
  pub some : 256 ≤ length bytes
  pub most : length bytes ≤ 256 * 4096
  pub whole : length bytes % 256 ≡ 0
  pub root : take 8 bytes ≡ big_bytes 8 (big_number 8 bytes)
  pub name : HasName bytes
  pub count : HasPages bytes

-- the block of a cell, where it has one
abbrev pub block_in : List ℕ → ℕ → ℕ → List Block
block_in bytes at len = if len == 0 then [] else record { place = at + 16; bytes = part (at + 16) len bytes } ∷ []

-- the value with these blocks, and the root that is read
abbrev pub with_blocks : List ℕ → List Block → Value
with_blocks bytes blocks = record { size = length bytes; root = big_number 8 bytes; blocks = blocks }
