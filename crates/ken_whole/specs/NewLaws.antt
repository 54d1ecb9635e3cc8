-- Workers that made no turn stand for a node at its start.
use Rattle.std.specs.Prelude.{ℕ, Option}
use Rattle.ken_disk.specs.Story.{Story}
use Rattle.ken_model.specs.Game.{Game}
use Rattle.ken_model.specs.Limits.{IsWithinLimits}
use Rattle.ken_core.specs.Nodes.{first_node}
use Rattle.ken_ship.specs.declared.worker.SendWorker.{SendWorker}
use Rattle.ken_work.specs.declared.patcher.PatchWorker.{PatchWorker}
use Rattle.ken_work.specs.declared.worker.TurnWorker.{TurnWorker}
use Rattle.ken_whole.specs.New.{AreNew}
use Rattle.ken_whole.specs.Whole.{IsWhole}

abbrev pub NewAreWhole : {D : Type 0} → (D → Option Story) → (D → ℕ) → Type 0
NewAreWhole {D} told size = (g : Game) (v : ℕ) (t : TurnWorker D) (p : PatchWorker D) (s : SendWorker) → IsWithinLimits g → AreNew told size g v t p s → IsWhole told size g v (first_node g) t p s
