-- Frames on a shelf, the top first.
use Rattle.std.specs.Prelude.{◌≡◌, ℕ, List, [], ◌∷◌, length, Option, None, Some}
use Rattle.std.specs.declared.alloc.Global.{Global}
use Rattle.ken_frame.specs.declared.raw.Own.{Own}
use Rattle.ken_frame.specs.declared.frame.Node.{Node, Node', Held-Node-next, None', Some'}

abbrev mutual
  -- the bytes of a node and of those below
  pub from_node : Node → List (List ℕ)
  from_node (Node' bytes next) = bytes ∷ below next

  pub below : Held-Node-next → List (List ℕ)
  below None' = []
  below (Some' p n) = from_node n

-- the same from a link to the top
abbrev pub chain : Option (Own Node Global) → List (List ℕ)
chain None = []
chain (Some b) = from_node b.value

-- each frame is whole
abbrev pub AreFrames : List (List ℕ) → Type 0
AreFrames [] = Unit {0}
AreFrames (f ∷ fs) = (length f ≡ 256) × AreFrames fs

-- what a pop gave, on what it left
abbrev pub on_top : Option (List ℕ) → List (List ℕ) → List (List ℕ)
on_top None fs = fs
on_top (Some f) fs = f ∷ fs
