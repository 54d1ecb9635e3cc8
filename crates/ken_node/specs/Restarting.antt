-- The parts of a restart.
use Rattle.std.specs.Prelude.{◌≡◌, ℕ, List, Option, Result, Ok, Err}
use Rattle.ken_disk.specs.Fates.{Fate}
use Rattle.ken_disk.specs.Story.{Story, Follows, IsImage}
use Rattle.ken_model.specs.Game.{Game}
use Rattle.ken_model.specs.declared.states.State.{State}
use Rattle.ken_record.specs.declared.effects.Effects.{Effects}
use Rattle.ken_record.specs.declared.record.Record.{Record}
use Rattle.ken_store.specs.declared.disks.Disks.{Disks}
use Rattle.ken_store.specs.declared.owner.Owner.{Owner}
use Rattle.ken_store.specs.declared.store.Store.{Store}
use Rattle.ken_ship.specs.declared.faults.NodeFault.{NodeFault}
use Rattle.ken_ship.specs.declared.faults.NodeFault.TheVariants.{Disk, Damaged, Outlet, Memory}
use Rattle.ken_ship.specs.declared.worker.SendWorker.{SendWorker}
use Rattle.ken_work.specs.declared.parts.Parts.{Parts}
use Rattle.ken_work.specs.declared.patcher.PatchWorker.{PatchWorker}
use Rattle.ken_node.specs.declared.stage.Stage.{Stage}
use Rattle.ken_node.specs.declared.stage.Stage.TheVariants.{Uncreated, Created}
use Rattle.ken_work.specs.declared.worker.TurnWorker.{TurnWorker}
use Rattle.ken_node.specs.Created.{IsCreation}
use Rattle.ken_node.specs.Restarts.{AreUnfailed, GoOn, GoOnFrom, OneHasFailed}
use Rattle.ken_work.specs.Parts.{AreUnchanged}

-- ---- a node is taken apart

-- the node taken apart, or left as it is
abbrev pub stage_of : {D : Type 0} → Result (Disks D × Parts) (Stage D) → Stage D
stage_of (Ok x) = Uncreated x.0 x.1
stage_of (Err stage) = stage

-- ---- its disks are restarted

-- what a crash leaves of a disk it left before
abbrev pub LeavesLess : Option Story → Option Story → Type 0
LeavesLess old new = Follows (λ (a b : Story). (image : List ℕ) → IsImage b.now image → IsImage a.now image) old new

-- so of each disk of a node
pub record LeaveLess {D : Type 0} (told : D → Option Story) (old new : Disks D) : Type 0 where
  pub log : LeavesLess (told old.log) (told new.log)
  pub image : LeavesLess (told old.image) (told new.image)
  pub second : LeavesLess (told old.second) (told new.second)

-- no fault of a disk was counted
pub record HaveCounts {D : Type 0} (count : D → ℕ) (old new : Disks D) : Type 0 where
  pub log : count new.log ≡ count old.log
  pub image : count new.image ≡ count old.image
  pub second : count new.second ≡ count old.second

-- what becomes of restarted disks, by the answer
abbrev pub RecoversBy : {D T : Type 0} → (D → Option Story) → (D → ℕ) → (D → Option Fate) → Owner → Result T NodeFault → Disks D → Disks D → Type 0
RecoversBy told count fate o (Ok x) old new = GoOn told count fate o old new
RecoversBy told count fate o (Err Disk) old new = OneHasFailed told count fate old new
RecoversBy told count fate o (Err (Damaged n place)) old new = AreUnfailed told count fate old new
RecoversBy told count fate o (Err Memory) old new = AreUnfailed told count fate old new
RecoversBy told count fate o (Err Outlet) old new = ⊥

-- ---- nothing is found on them, and the node is created

-- it made no turn
abbrev pub none_made : Result (Unit {0}) NodeFault → Result ℕ NodeFault
none_made (Ok x) = Ok 0
none_made (Err fault) = Err fault

-- a creation, which answers how many turns were made
pub record IsCreatedAnew {D : Type 0} (told : D → Option Story) (size count : D → ℕ) (fate : D → Option Fate) (g : Game) (v : ℕ) (result : Result ℕ NodeFault) (old : Disks D) (stage : Stage D) : Type 0 where
  pub answer : Result (Unit {0}) NodeFault
  pub is : result ≡ none_made answer
  pub creation : IsCreation told size count fate g v answer old stage

-- ---- its workers go on from a recovered state

-- the node is created, and its workers go on
pub record GoesOn {D : Type 0} (g : Game) (v : ℕ) (turns : List Effects) (store : Store D) (state : State) (records : List Record) (stage : Stage D) : Type 0 where
  pub handler : TurnWorker D
  pub patcher : PatchWorker D
  pub sender : SendWorker
  pub stage_is : stage ≡ Created handler patcher sender
  pub goes : GoOnFrom g v turns store state records handler patcher sender

-- the node isn't created, and has its parts still
pub record IsPutBack {D : Type 0} (x : Parts) (disks : Disks D) (stage : Stage D) : Type 0 where
  pub parts : Parts
  pub stage_is : stage ≡ Uncreated disks parts
  pub same : AreUnchanged x parts
