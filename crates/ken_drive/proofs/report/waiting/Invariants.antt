use Rattle.std.proofs.Common.{◌≡◌, sum_by}
use Rattle.std.specs.List.{range_with_len}
use Rattle.ken_model.specs.Game.{Game}
use Rattle.ken_drive.specs.Ended.{IsEnded, waits_for}
use Rattle.ken_drive.proofs.report.waiting.Given as goal

abbrev pub invariant-loop-node : goal.invariant-loop-node
invariant-loop-node g l = (game : Game) (e : IsEnded (λ w. g.D.Disk.told w.disk) (λ w. g.D.Disk.size w.disk) g.U.Outlet.took g.A.App.handler game l.run) → l.waiting ≡ sum_by (waits_for game e.running.nodes) (range_with_len 0 l.node)
