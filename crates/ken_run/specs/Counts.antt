-- What becomes of the counts of faults that the disks of a node keep.
use Rattle.std.specs.Prelude.{ℕ, ◌≤◌}
use Rattle.ken_store.specs.declared.disks.Disks.{Disks}
use Rattle.ken_node.specs.declared.stage.Stage.{Stage}
use Rattle.ken_node.specs.Stages.{HasDisks}

module _ {D : Type 0} (count : D → ℕ) where
  -- none of three fell
  pub record NoneFell (old new : Disks D) : Type 0 where
    pub log : count old.log ≤ count new.log
    pub image : count old.image ≤ count new.image
    pub second : count old.second ≤ count new.second

  -- so of the disks of a stage, and of the stage that it became
  abbrev pub KeepCounts : Stage D → Stage D → Type 0
  KeepCounts old new = (before after : Disks D) → HasDisks before old → HasDisks after new → NoneFell before after
