-- How many turns rounds make.
use Rattle.std.specs.Prelude.{◌≡◌, ◌⊎◌, ℕ, ◌+◌, ◌*◌, ◌<◌, ◌≤◌, length, slice_index_or, Result, Ok, Err}
use Rattle.ken_disk.specs.Causes.{Rose}
use Rattle.ken_model.specs.Game.{Game}
use Rattle.ken_node.specs.declared.stage.Stage.{Stage}
use Rattle.ken_node.specs.declared.watched.Watched.{Watched}
use Rattle.ken_node.specs.Stages.{HasDisks, turns_in}
use Rattle.ken_run.specs.declared.faults.RunFault.{RunFault}
use Rattle.ken_run.specs.declared.run.Run.{Run}
use Rattle.ken_run.specs.declared.station.Station.{Station}
use Rattle.ken_run.specs.Counts.{KeepCounts}
use Rattle.ken_run.specs.Patched.{HasNoInput}
use Rattle.ken_store.specs.declared.disks.Disks.{Disks}

module _ {D : Type 0} (g : Game) (turns : ℕ) where
  -- a node made so many turns more; or it has made all its turns, or no input waits for it
  pub data MeetsQuota (old new : Stage D) : Type 0 where
    more : length (turns_in old) + turns ≤ length (turns_in new) → MeetsQuota old new
    all : g.turns ≤ length (turns_in new) → MeetsQuota old new
    none_waits : HasNoInput new → MeetsQuota old new

module _ {D : Type 0} (count : D → ℕ) where
  -- the count of faults of one of three disks rose
  abbrev pub OneRose : Disks D → Disks D → Type 0
  OneRose old new = Rose (count old.log) (count new.log) ⊎ (Rose (count old.image) (count new.image) ⊎ Rose (count old.second) (count new.second))

  -- so of the disks of a stage, and of the stage that it became
  abbrev pub CountsRose : Stage D → Stage D → Type 0
  CountsRose old new = (before after : Disks D) → HasDisks before old → HasDisks after new → OneRose before after

module _ {D O U : Type 0} (count : Watched D → ℕ) (g : Game) (turns : ℕ) where
  -- it does so where no count of its disks' faults rose. It was restarted only where one did, and none falls
  pub record IsServed (old new : Station D O U) : Type 0 where
    pub unfailed : (CountsRose count old.node.stage new.node.stage → ⊥) → MeetsQuota g turns old.node.stage new.node.stage
    pub caused : (new.restarts ≡ old.restarts) ⊎ CountsRose count old.node.stage new.node.stage
    pub counts : KeepCounts count old.node.stage new.node.stage
    -- so where it wasn't restarted, and no input waits for it then where none did. Its restarts never grow fewer
    pub tries : old.restarts ≤ new.restarts
    pub quota : new.restarts ≡ old.restarts → MeetsQuota g turns old.node.stage new.node.stage
    pub quiet : new.restarts ≡ old.restarts → HasNoInput old.node.stage → HasNoInput new.node.stage

module _ {D O U A : Type 0} (count : Watched D → ℕ) (g : Game) (made rounds : ℕ) where
  -- each node of a run, with sixteen turns for each round
  abbrev pub AreServed : Run D O U A → Run D O U A → Type 0
  AreServed old new = (v : ℕ) (d : Station D O U) → v < made → IsServed count g (16 * rounds) (slice_index_or old.stations.items v d) (slice_index_or new.stations.items v d)

  -- after an error nothing is said
  abbrev pub ServesBy : {T : Type 0} → Result T RunFault → Run D O U A → Run D O U A → Type 0
  ServesBy (Ok x) old new = AreServed old new
  ServesBy (Err fault) old new = Unit {0}
