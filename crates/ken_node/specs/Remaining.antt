-- The turns that a node may still make.
use Rattle.std.specs.Prelude.{ℕ, ◌-◌, length}
use Rattle.ken_node.specs.declared.stage.Stage.{Stage}
use Rattle.ken_node.specs.declared.stage.Stage.TheVariants.{Uncreated, Created, Moved}

-- those of the game without the ones that it has sealed for certain, also where it is down
abbrev pub turns_to_make : {D : Type 0} → Stage D → ℕ
turns_to_make (Uncreated disks parts) = parts.cap - length parts.turns.items
turns_to_make (Created t p s) = t.cap - length t.turns.items
turns_to_make Moved = 0
