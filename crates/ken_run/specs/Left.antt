-- How much a node of a run has still to do: each call of a visit that is made again takes some of it away.
use Rattle.std.specs.Prelude.{ℕ, zero, suc, ◌-◌, List, [], ◌∷◌, length}
use Rattle.ken_cover.specs.Sides.{changes_of}
use Rattle.ken_store.specs.Ahead.{ahead_layers}
use Rattle.ken_ship.specs.Parts.{part_of}
use Rattle.ken_node.specs.declared.stage.Stage.{Stage}
use Rattle.ken_node.specs.declared.stage.Stage.TheVariants.{Uncreated, Created, Moved}
use Rattle.ken_node.specs.declared.watched.Watched.{Watched}
use Rattle.ken_run.specs.declared.station.Station.{Station}

module _ {D : Type 0} where
  -- the turns that it may still make
  abbrev pub turns_left : Stage D → ℕ
  turns_left (Uncreated disks parts) = 0
  turns_left (Created t p s) = t.cap - length t.turns.items
  turns_left Moved = 0

  -- the pages that it has still to write to its image
  abbrev pub pages_left : Stage D → ℕ
  pages_left (Uncreated disks parts) = 0
  pages_left (Created t p s) = length (changes_of (ahead_layers p.side.ahead.items))
  pages_left Moved = 0

  -- the outputs that it has still to emit
  abbrev pub outputs_left : Stage D → ℕ
  outputs_left (Uncreated disks parts) = 0
  outputs_left (Created t p s) = length (part_of s).due.outs
  outputs_left Moved = 0

-- of node v of a run
abbrev pub left_at : {D O U : Type 0} → (Stage (Watched D) → ℕ) → List (Station D O U) → ℕ → ℕ
left_at left [] v = 0
left_at left (s ∷ ss) zero = left s.node.stage
left_at left (s ∷ ss) (suc v) = left_at left ss v

-- how often node v was restarted
abbrev pub tries_at : {D O U : Type 0} → List (Station D O U) → ℕ → ℕ
tries_at [] v = 0
tries_at (s ∷ ss) zero = s.restarts
tries_at (s ∷ ss) (suc v) = tries_at ss v
