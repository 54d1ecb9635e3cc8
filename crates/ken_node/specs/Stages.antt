-- A node before it is created and after.
use Rattle.std.specs.Prelude.{◌≡◌, ℕ, ◌<◌, List, [], Option, None}
use Rattle.ken_disk.specs.Story.{Story}
use Rattle.ken_model.specs.declared.reports.Emission.{Emission}
use Rattle.ken_model.specs.declared.values.Value.{Value}
use Rattle.ken_model.specs.Game.{Game}
use Rattle.ken_model.specs.Layout.{StandsFor}
use Rattle.ken_model.specs.Limits.{IsWithinLimits}
use Rattle.ken_record.specs.declared.effects.Effects.{Effects}
use Rattle.ken_ship.specs.declared.worker.SendWorker.{SendWorker}
use Rattle.ken_ship.specs.Parts.{part_of}
use Rattle.ken_store.specs.declared.disks.Disks.{Disks}
use Rattle.ken_store.specs.declared.owner.Owner.{Owner}
use Rattle.ken_store.specs.Answers.{AreAtRest, AreUnformatted}
use Rattle.ken_store.specs.Apart.{disks_apart}
use Rattle.ken_work.specs.declared.parts.Parts.{Parts}
use Rattle.ken_work.specs.declared.patcher.PatchWorker.{PatchWorker}
use Rattle.ken_node.specs.declared.stage.Stage.{Stage}
use Rattle.ken_node.specs.declared.stage.Stage.TheVariants.{Uncreated, Created, Moved}
use Rattle.ken_work.specs.declared.worker.TurnWorker.{TurnWorker}
use Rattle.ken_work.specs.First.{AreFirst}

-- whose disks these parts tell
abbrev pub owner_in : Parts → Owner
owner_in x = record { node = x.node; nodes = x.nodes; pages = x.size }

-- or a handler
abbrev pub worker_owner : {D : Type 0} → TurnWorker D → Owner
worker_owner t = record { node = t.node; nodes = t.nodes; pages = t.side.owner.pages }

module _ {D : Type 0} where
  -- node v of a run, which isn't created yet, with these disks
  pub record IsUncreated (g : Game) (v : ℕ) (disks : Disks D) (stage : Stage D) : Type 0 where
    pub limits : IsWithinLimits g
    pub known : v < g.nodes
    pub parts : Parts
    pub stage_is : stage ≡ Uncreated disks parts
    pub first : AreFirst g v parts

  -- it may be created: nothing is pending on its disks, and no log is on them
  pub record MayBeCreated (told : D → Option Story) (stage : Stage D) : Type 0 where
    pub game : Game
    pub node : ℕ
    pub disks : Disks D
    pub uncreated : IsUncreated game node disks stage
    pub rests : AreAtRest told disks
    pub none : AreUnformatted told disks

  -- it was created, and has workers
  pub record IsCreated (stage : Stage D) : Type 0 where
    pub turns : TurnWorker D
    pub patches : PatchWorker D
    pub sends : SendWorker
    pub stage_is : stage ≡ Created turns patches sends

  -- its disks
  abbrev pub HasDisks : Disks D → Stage D → Type 0
  HasDisks disks (Uncreated d parts) = disks ≡ d
  HasDisks disks (Created t p s) = disks ≡ disks_apart t.side p.side
  HasDisks disks Moved = ⊥

  -- whose its disks are
  abbrev pub disk_owner : Stage D → Owner
  disk_owner (Uncreated disks parts) = owner_in parts
  disk_owner (Created t p s) = worker_owner t
  disk_owner Moved = record { node = 0; nodes = 0; pages = 0 }

  -- what the disk of its image tells
  abbrev pub image_told : (D → Option Story) → Stage D → Option Story
  image_told told (Uncreated disks parts) = told disks.image
  image_told told (Created t p s) = told p.side.image.disk
  image_told told Moved = None

  -- the value that its heap stands for
  abbrev pub HasValue : Value → Stage D → Type 0
  HasValue value (Uncreated disks parts) = ⊥
  HasValue value (Created t p s) = (value ≡ t.side.objects.value) × StandsFor t.side.objects.bytes value
  HasValue value Moved = ⊥

  -- its sealed turns, and what it emitted
  abbrev pub turns_in : Stage D → List Effects
  turns_in (Uncreated disks parts) = parts.turns.items
  turns_in (Created t p s) = t.turns.items
  turns_in Moved = []

  abbrev pub emissions_in : Stage D → List Emission
  emissions_in (Uncreated disks parts) = (part_of parts.sends).emissions
  emissions_in (Created t p s) = (part_of s).emissions
  emissions_in Moved = []

  -- how often the output that is due was refused, one time after the other
  abbrev pub refusals_in : Stage D → ℕ
  refusals_in (Uncreated disks parts) = (part_of parts.sends).refusals
  refusals_in (Created t p s) = (part_of s).refusals
  refusals_in Moved = 0
