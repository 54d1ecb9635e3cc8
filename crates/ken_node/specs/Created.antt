-- The creation of a node: its workers, and what its disks saw.
use Rattle.std.specs.Prelude.{◌≡◌, ℕ, replicate, Option, Result, OnOk, OnErr}
use Rattle.ken_disk.specs.Fates.{Fate}
use Rattle.ken_disk.specs.Story.{Story, Follows, Tells}
use Rattle.ken_model.specs.Game.{Game}
use Rattle.ken_order.specs.Consumed.{Consumed}
use Rattle.ken_store.specs.declared.disks.Disks.{Disks}
use Rattle.ken_store.specs.declared.faults.StoreFault.{StoreFault}
use Rattle.ken_store.specs.declared.owner.Owner.{Owner}
use Rattle.ken_store.specs.Answers.{TellsAll}
use Rattle.ken_store.specs.Creations.{CallsImage, CallsLog, Creates, FailsBy, MayFormat, TellsStill}
use Rattle.ken_ship.specs.declared.faults.NodeFault.{NodeFault}
use Rattle.ken_ship.specs.declared.worker.SendWorker.{SendWorker}
use Rattle.ken_work.specs.declared.patcher.PatchWorker.{PatchWorker}
use Rattle.ken_node.specs.declared.stage.Stage.{Stage}
use Rattle.ken_node.specs.declared.stage.Stage.TheVariants.{Created}
use Rattle.ken_work.specs.declared.worker.TurnWorker.{TurnWorker}
use Rattle.ken_work.specs.Faults.{store_answer}
use Rattle.ken_node.specs.Stages.{HasDisks, IsUncreated}
use Rattle.ken_whole.specs.New.{AreNew, owner_of}

-- by which a node of so many judges mail that consumed none yet
abbrev pub first_order : ℕ → Consumed
first_order nodes = record { nodes = nodes; stamp = 0; consumed = replicate 9 0 }

-- its workers are new
pub record IsNewNode {D : Type 0} (told : D → Option Story) (size : D → ℕ) (g : Game) (v : ℕ) (stage : Stage D) : Type 0 where
  pub turns : TurnWorker D
  pub patches : PatchWorker D
  pub sends : SendWorker
  pub stage_is : stage ≡ Created turns patches sends
  pub new : AreNew told size g v turns patches sends

-- the calls that a creation made of the disks of the log and of the image, by its answer: those of a format, and no others
pub record CallsDisks {D T : Type 0} (told : D → Option Story) (count : D → ℕ) (o : Owner) (result : Result T StoreFault) (old new : Disks D) : Type 0 where
  pub format : Follows (MayFormat o result) (told old.log) (told new.log)
  pub log : CallsLog told count o result old.log new.log
  pub image : CallsImage told count o result old new

-- what the creation of node v of a run on these disks comes to, by its answer
pub record IsCreation {D T : Type 0} (told : D → Option Story) (size count : D → ℕ) (fate : D → Option Fate) (g : Game) (v : ℕ) (result : Result T NodeFault) (old : Disks D) (stage : Stage D) : Type 0 where
  pub ok : OnOk result (IsNewNode told size g v stage)
  pub disks : Disks D
  pub has : HasDisks disks stage
  pub err : OnErr result (IsUncreated g v disks stage)
  pub creates : TellsAll told old (λ l i s. Tells (told disks.log) (λ l2. Tells (told disks.image) (λ i2. Creates (owner_of g v) (store_answer result) l i s l2 i2)))
  pub calls : CallsDisks told count (owner_of g v) (store_answer result) old disks
  pub tells : TellsStill (told old.log) (told disks.log) × TellsStill (told old.image) (told disks.image)
  pub second : disks.second ≡ old.second
  pub faults : FailsBy count fate (store_answer result) old disks
