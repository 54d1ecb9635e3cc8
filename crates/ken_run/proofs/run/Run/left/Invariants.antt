use Rattle.std.proofs.Common.{◌≡◌, ◌*◌, ◌≤◌, ◌^◌, take}
use Rattle.std.specs.List.{sum_by}
use Rattle.ken_run.specs.Flowing.{work_at}
use Rattle.ken_run.proofs.run.Run.left.Given as goal

abbrev pub invariant-loop-station : goal.invariant-loop-station
invariant-loop-station g l = record {
  sum : l.left ≡ sum_by (work_at l.self.restarts) (take l.station-index l.self.stations.items);
  few : l.left ≤ l.station-index * 2 ^ 65;
}
