-- A value that bytes stand for is a heap.
use Rattle.std.proofs.Common.{ℕ, List, [], ◌∷◌}
use Rattle.ken_model.specs.declared.values.Block.{Block}
use Rattle.ken_model.specs.declared.values.Value.{Value}
use Rattle.ken_model.specs.Heap.{IsHeap, AreBlocks, end_of}
use Rattle.ken_model.specs.Layout.{AreCells, StandsFor}

AreBlocks-cells : (bytes : List ℕ) (from size : ℕ) (bs : List Block) → AreCells bytes from size bs → AreBlocks from size bs
AreBlocks-cells bytes from size [] cells = cells.0
AreBlocks-cells bytes from size (b ∷ bs) cells = (cells.0, cells.2.1, cells.2.0, AreBlocks-cells bytes (end_of b) size bs cells.3)

pub IsHeap-stands : (bytes : List ℕ) (v : Value) → StandsFor bytes v → IsHeap v
IsHeap-stands bytes v stands = record { pages = stands.pages; root = stands.small; blocks = AreBlocks-cells bytes 16 v.size v.blocks stands.cells }
