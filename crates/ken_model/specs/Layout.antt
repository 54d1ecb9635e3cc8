-- How a heap's bytes are laid out: which bytes stand for which value.
use Rattle.std.specs.Prelude.{◌≡◌, ℕ, ◌+◌, ◌-◌, ◌*◌, ◌/◌, ◌%◌, ◌<◌, ◌≤◌, ◌^◌, List, [], ◌∷◌, ◌++◌, length, take, drop, replicate, codes}
use Rattle.byteorder.specs.Endian.{big_bytes}
use Rattle.ken_model.specs.declared.facts.TheConstants.{PAGE, MAX_PAGES}
use Rattle.ken_model.specs.declared.values.Block.{Block}
use Rattle.ken_model.specs.declared.values.Value.{Value}
use Rattle.ken_model.specs.Heap.{rounded, end_of}

-- n bytes from a place on
abbrev pub part : ℕ → ℕ → List ℕ → List ℕ
part at n bytes = take n (drop at bytes)

-- the bytes of a head: the span of the whole cell, the length of its block, and eight zeros. The length of a gap is 0
abbrev pub head_bytes : ℕ → ℕ → List ℕ
head_bytes span len = big_bytes 4 span ++ big_bytes 4 len ++ replicate 8 0

-- a cell begins with its head
abbrev pub HasHead : List ℕ → ℕ → ℕ → ℕ → Type 0
HasHead bytes at span len = part at 16 bytes ≡ head_bytes span len

-- between two places there is one gap, whose span is a multiple of 16, or nothing
abbrev pub IsGap : List ℕ → ℕ → ℕ → Type 0
IsGap bytes from to = (from ≤ to) × ((to - from) % 16 ≡ 0) × (from < to → HasHead bytes from (to - from) 0)

-- a block stands at its place, behind its head
abbrev pub IsLaid : List ℕ → Block → Type 0
IsLaid bytes b = (0 < length b.bytes) × (b.place % 16 ≡ 0) × HasHead bytes (b.place - 16) (16 + rounded (length b.bytes)) (length b.bytes) × (part b.place (length b.bytes) bytes ≡ b.bytes)

-- the cells between two places: the blocks in order, with a gap wherever one doesn't begin where the last ends
abbrev pub AreCells : List ℕ → ℕ → ℕ → List Block → Type 0
AreCells bytes from to [] = IsGap bytes from to
AreCells bytes from to (b ∷ bs) = (from + 16 ≤ b.place) × IsGap bytes from (b.place - 16) × IsLaid bytes b × AreCells bytes (end_of b) to bs

-- the name of the layout, before the cells
abbrev pub HasName : List ℕ → Type 0
HasName bytes = part 8 4 bytes ≡ codes "KENH"

-- and the number of pages
abbrev pub HasPages : List ℕ → Type 0
HasPages bytes = part 12 4 bytes ≡ big_bytes 4 (length bytes / PAGE)

-- the bytes stand for a value: root, name, pages, and then cells up to the end
pub record StandsFor (bytes : List ℕ) (v : Value) : Type 0 where
  pub size : length bytes ≡ v.size
  pub pages : (n : ℕ) × (0 < n) × (n ≤ MAX_PAGES) × (v.size ≡ PAGE * n)
  pub small : v.root < 2 ^ 64
  pub root : take 8 bytes ≡ big_bytes 8 v.root
  pub name : HasName bytes
  pub count : HasPages bytes
  pub cells : AreCells bytes 16 v.size v.blocks

-- the first 32 bytes of a heap without blocks: root 0, name, pages, and the head of one gap up to the end
abbrev pub first_bytes : ℕ → List ℕ
first_bytes pages = replicate 8 0 ++ codes "KENH" ++ big_bytes 4 pages ++ head_bytes (PAGE * pages - 16) 0

-- the first heap: those, and zeros
abbrev pub first_heap : ℕ → List ℕ
first_heap pages = first_bytes pages ++ replicate (PAGE * pages - 32) 0
