use Rattle.std.proofs.Common.{◌≡◌, ℕ, ◌<◌}
use Rattle.ken_model.specs.Game.{Game}
use Rattle.ken_run.specs.Endings.{IsDone}
use Rattle.ken_run.specs.Running.{IsRunning}
use Rattle.ken_run.proofs.run.Run.has_ended.Given as goal

abbrev pub invariant-loop-node : goal.invariant-loop-node
invariant-loop-node g l = (game : Game) (made : ℕ) (is : IsRunning (λ w. g.D.Disk.told w.disk) (λ w. g.D.Disk.size w.disk) g.U.Outlet.took g.A.App.handler game made l.self) → made ≡ game.nodes → (v : ℕ) → v < l.node → IsDone game is.emissions is.nodes v
