-- How far a node that is up has come, as its workers tell it.
use Rattle.std.proofs.Common.{◌≡◌, ℕ, Option, subst}
use Rattle.ken_disk.specs.Story.{Story}
use Rattle.ken_model.specs.Game.{Game}
use Rattle.ken_core.specs.Nodes.{Node}
use Rattle.ken_ship.specs.declared.worker.SendWorker.{SendWorker}
use Rattle.ken_work.specs.declared.patcher.PatchWorker.{PatchWorker}
use Rattle.ken_node.specs.declared.stage.Stage.{Stage}
use Rattle.ken_node.specs.declared.stage.Stage.TheVariants.{Created}
use Rattle.ken_work.specs.declared.worker.TurnWorker.{TurnWorker}
use Rattle.ken_node.specs.Up.{IsUp}
use Rattle.ken_whole.specs.Whole.{AreNumbersOf, IsWhole}
use Rattle.ken_node.proofs.Up.{are-up}

module _ {D : Type 0} (told : D → Option Story) (size : D → ℕ) (g : Game) (v : ℕ) (n : Node) (stage : Stage D) (t : TurnWorker D) (p : PatchWorker D) (s : SendWorker) (is : stage ≡ Created t p s) (up : IsUp told size g v n stage) where
  pub up_whole : IsWhole told size g v n t p s
  up_whole = (are-up told size g v n t p s (subst (IsUp told size g v n) is up)).whole

  pub up_numbers : AreNumbersOf v n.turning.turns t.side.numbers
  up_numbers = up_whole.workers.turns.counted
