-- Where bytes that stand for no value are wrong first.
use Rattle.std.specs.Prelude.{ℕ, ◌<◌, ◌≤◌, List, length}
use Rattle.ken_model.specs.declared.values.Block.{Block}
use Rattle.ken_model.specs.Layout.{AreCells, HasName, HasPages}

-- the cells before a place are right, and none goes on from it: none ends past it, within the bytes
pub record IsWrongHead (bytes : List ℕ) (place : ℕ) : Type 0 where
  pub before : List Block
  pub cells : AreCells bytes 16 place before
  pub short : place < length bytes
  pub none : (to : ℕ) (blocks : List Block) → place < to → to ≤ length bytes → AreCells bytes 16 to blocks → ⊥

-- at the name, at the pages, or at the head of a cell. Of two gaps side by side it is the second
pub data BreaksAt (bytes : List ℕ) : ℕ → Type 0 where
  name : (HasName bytes → ⊥) → BreaksAt bytes 8
  pages : HasName bytes → (HasPages bytes → ⊥) → BreaksAt bytes 12
  head : (place : ℕ) → HasName bytes → HasPages bytes → IsWrongHead bytes place → BreaksAt bytes place
