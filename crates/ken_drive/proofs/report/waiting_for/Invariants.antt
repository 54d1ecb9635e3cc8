use Rattle.std.proofs.Common.{◌≡◌, ◌+◌, sum_by}
use Rattle.std.specs.List.{range_with_len}
use Rattle.ken_model.specs.Game.{Game}
use Rattle.ken_model.specs.Network.{outside}
use Rattle.ken_flow.specs.Standstill.{waits_on}
use Rattle.ken_drive.specs.Ended.{IsEnded}
use Rattle.ken_drive.proofs.report.waiting_for.Given as goal

abbrev pub invariant-loop-sender : goal.invariant-loop-sender
invariant-loop-sender g l = (game : Game) (e : IsEnded (λ w. g.D.Disk.told w.disk) (λ w. g.D.Disk.size w.disk) g.U.Outlet.took g.A.App.handler game l.run) → l.waiting ≡ waits_on game e.running.nodes outside l.node + sum_by (λ u. waits_on game e.running.nodes u l.node) (range_with_len 0 l.sender)
