use Rattle.std.proofs.Common.{◌-◌}
use Rattle.ken_run.specs.StationClauses.{KeepsCounts}
use Rattle.ken_run.proofs.StartingNode.{IsDownStill, IsHeldStill}
use Rattle.ken_run.proofs.station.Station.raise.Given as goal

abbrev pub invariant-tries : goal.invariant-tries
invariant-tries g l =
    IsDownStill (λ w. g.D.Disk.told w.disk) l.fn.self l.self × IsHeldStill (λ w. g.D.Disk.told w.disk) (λ w. g.D.Disk.faults w.disk) (λ w. g.D.Disk.fate w.disk) g.O.Oracle.telling l.most l.fn.self l.self × KeepsCounts g.D.Disk l.fn.self l.self

abbrev pub decreases-tries : goal.decreases-tries
decreases-tries g l = l.most - l.self.restarts
