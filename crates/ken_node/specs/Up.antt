-- A node that is up, and takes calls.
use Rattle.std.specs.Prelude.{◌≡◌, ℕ, ◌<◌, Option, false}
use Rattle.ken_disk.specs.Story.{Story}
use Rattle.ken_model.specs.Game.{Game}
use Rattle.ken_model.specs.Handler.{Handler}
use Rattle.ken_model.specs.Limits.{IsWithinLimits}
use Rattle.ken_core.specs.Nodes.{Node}
use Rattle.ken_store.specs.Apart.{disks_apart}
use Rattle.ken_ship.specs.declared.worker.SendWorker.{SendWorker}
use Rattle.ken_work.specs.declared.patcher.PatchWorker.{PatchWorker}
use Rattle.ken_node.specs.declared.stage.Stage.{Stage}
use Rattle.ken_node.specs.declared.stage.Stage.TheVariants.{Created}
use Rattle.ken_work.specs.declared.worker.TurnWorker.{TurnWorker}
use Rattle.ken_node.specs.Down.{AreTold}
use Rattle.ken_work.specs.Meeting.{AreEmpty}
use Rattle.ken_whole.specs.Whole.{IsWhole}
use Rattle.ken_app.specs.Limits.{KeepsLimits}

module _ {D : Type 0} (told : D → Option Story) (size : D → ℕ) where
  -- node v of a run, which is up: its workers stand for this node of the core, with nothing on its way in their rings, and
  -- no call of its image's disk failed
  pub record IsUp (g : Game) (v : ℕ) (n : Node) (stage : Stage D) : Type 0 where
    pub limits : IsWithinLimits g
    pub known : v < g.nodes
    pub handler : TurnWorker D
    pub patcher : PatchWorker D
    pub sender : SendWorker
    pub stage_is : stage ≡ Created handler patcher sender
    pub whole : IsWhole told size g v n handler patcher sender
    pub empty : AreEmpty handler patcher sender
    pub unspent : patcher.side.image.spent ≡ false
    pub tell : AreTold told (disks_apart handler.side patcher.side)

  -- some node of a run is up, and takes calls
  pub record MayBeCalled (stage : Stage D) : Type 0 where
    pub game : Game
    pub node : ℕ
    pub stands_for : Node
    pub up : IsUp game node stands_for stage

  -- with its own end of the run's network, which is that of this node of so many
  pub record MayBeCalledOn (node nodes : ℕ) (stage : Stage D) : Type 0 where
    pub game : Game
    pub stands_for : Node
    pub up : IsUp game node stands_for stage
    pub count : nodes ≡ game.nodes

  -- and with the run's handler, which keeps the limits of a turn
  pub record MayTakeTurns (handler : Handler) (node nodes : ℕ) (stage : Stage D) : Type 0 where
    pub game : Game
    pub stands_for : Node
    pub up : IsUp game node stands_for stage
    pub count : nodes ≡ game.nodes
    pub of_run : handler ≡ game.handler
    pub keeps : KeepsLimits game.nodes game.size game.handler
