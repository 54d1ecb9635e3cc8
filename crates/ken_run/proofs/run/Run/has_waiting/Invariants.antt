use Rattle.std.proofs.Common.{◌≡◌, ℕ, ◌<◌}
use Rattle.ken_model.specs.Game.{Game}
use Rattle.ken_flow.specs.Standstill.{waits_on}
use Rattle.ken_run.specs.Running.{IsRunning}
use Rattle.ken_run.proofs.run.Run.has_waiting.Given as goal

abbrev pub invariant-loop-from : goal.invariant-loop-from
invariant-loop-from g l = (game : Game) (made : ℕ) (is : IsRunning (λ w. g.D.Disk.told w.disk) (λ w. g.D.Disk.size w.disk) g.U.Outlet.took g.A.App.handler game made l.self) → l.node < made → (u : ℕ) → u < l.from → waits_on game is.nodes u l.node ≡ 0
