-- Workers that made no turn, over a created store.
use Rattle.std.specs.Prelude.{◌≡◌, ℕ, [], Option, false}
use Rattle.ken_disk.specs.Story.{Story}
use Rattle.ken_model.specs.Game.{Game}
use Rattle.ken_model.specs.Handler.{Handler}
use Rattle.ken_model.specs.Layout.{first_heap}
use Rattle.ken_model.specs.Network.{empty_heap, inputs_for}
use Rattle.ken_cover.specs.Sides.{first_image_pages}
use Rattle.ken_core.specs.Nodes.{heap_pages}
use Rattle.ken_store.specs.declared.owner.Owner.{Owner}
use Rattle.ken_store.specs.declared.store.Store.{Store}
use Rattle.ken_store.specs.Creations.{IsNew}
use Rattle.ken_store.specs.Standing.{Standing}
use Rattle.ken_ship.specs.declared.worker.SendWorker.{SendWorker}
use Rattle.ken_ship.specs.Parts.{part_of}
use Rattle.ken_work.specs.declared.patcher.PatchWorker.{PatchWorker}
use Rattle.ken_work.specs.declared.worker.TurnWorker.{TurnWorker}
use Rattle.ken_work.specs.First.{IsNewRing, first_part}
use Rattle.ken_work.specs.Parts.{nothing_told}
use Rattle.ken_work.specs.Workers.{Working}

-- whose disks node v of a run has
abbrev pub owner_of : Game → ℕ → Owner
owner_of g v = record { node = v; nodes = g.nodes; pages = heap_pages g }

-- the workers of node v of a run that made no turn, over a store that stands and takes calls: nothing was handed over, and
-- no one was told of anything
pub record AreNew {D : Type 0} (told : D → Option Story) (size : D → ℕ) (g : Game) (v : ℕ) (t : TurnWorker D) (p : PatchWorker D) (s : SendWorker) : Type 0 where
  pub node : t.node ≡ v
  pub nodes : t.nodes ≡ g.nodes
  pub cap : t.cap ≡ g.turns
  pub inputs : t.inputs.items ≡ inputs_for g v
  pub sender : s.backlog.node ≡ v
  pub receivers : s.nodes ≡ g.nodes
  pub pages : IsNewRing t.pages p.pages
  pub settled : IsNewRing p.settled t.settled
  pub sealed : IsNewRing t.sealed s.sealed
  pub progress : IsNewRing s.told t.progress
  pub working : (h : Handler) → Working told size h t
  pub stands : let store : Store D = record { turns = t.side; patches = p.side } in Standing told size store (first_image_pages (first_heap (heap_pages g)))
  pub unspent : p.side.image.spent ≡ false
  pub new : IsNew (owner_of g v) t.side
  pub value : t.side.objects.value ≡ empty_heap g.size
  pub turns : t.turns.items ≡ []
  pub told_is : t.told ≡ nothing_told
  pub part : part_of s ≡ first_part
