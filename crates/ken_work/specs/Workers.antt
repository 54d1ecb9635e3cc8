-- What a contract sees of a node's handler.
use Rattle.std.specs.Prelude.{◌≡◌, ℕ, ◌*◌, length, Option, None}
use Rattle.ken_disk.specs.Story.{Story}
use Rattle.ken_model.specs.Handler.{Handler}
use Rattle.ken_app.specs.Limits.{ComesTo}
use Rattle.ken_links.specs.Rings.{SamePushEnd, SamePopEnd}
use Rattle.ken_store.specs.Turning.{Turning}
use Rattle.ken_work.specs.declared.worker.TurnWorker.{TurnWorker}
pub use Rattle.ken_work.specs.News.{IsInput, AreInputs, latest, progress_told, settled_by, told_by, turn_settled, TakesNews}

-- a worker that takes calls, with no turn begun: it goes on from the numbers of its log, and its heap is one that the handler comes to
pub record Working {D : Type 0} (told : D → Option Story) (size : D → ℕ) (h : Handler) (w : TurnWorker D) : Type 0 where
  pub side : Turning told size w.side
  pub idle : w.side.objects.begun ≡ None
  pub node : w.side.owner.node ≡ w.node
  pub nodes : w.side.owner.nodes ≡ w.nodes
  pub order : w.order ≡ record { nodes = w.nodes; stamp = w.side.numbers.stamp; consumed = w.side.numbers.consumed }
  pub count : length w.turns.items ≡ w.side.numbers.turns
  pub heap : ComesTo h w.node w.nodes (256 * w.side.owner.pages) w.side.objects.value

-- of one node, with the same ends of the same rings
pub record IsSameWorker {D : Type 0} (a b : TurnWorker D) : Type 0 where
  pub node : b.node ≡ a.node
  pub nodes : b.nodes ≡ a.nodes
  pub cap : b.cap ≡ a.cap
  pub inputs : b.inputs ≡ a.inputs
  pub pages : SamePushEnd a.pages b.pages
  pub sealed : SamePushEnd a.sealed b.sealed
  pub settled : SamePopEnd a.settled b.settled
  pub progress : SamePopEnd a.progress b.progress

-- the worker knows what it was told, but for what stands with more turns than it has made, and nothing else of it changed
pub record HearsNews {D : Type 0} (old new : TurnWorker D) : Type 0 where
  pub same : IsSameWorker old new
  pub rest : new ≡ record old { told = new.told; settled = new.settled; progress = new.progress }
  pub settled : TakesNews settled_by turn_settled (length old.turns.items) old.settled new.settled old.told.settled new.told.settled
  pub progress : TakesNews told_by progress_told (length old.turns.items) old.progress new.progress old.told.progress new.told.progress
