use Rattle.std.proofs.Common.{◌≡◌, ◌≤◌, length, vec_capacity}
use Rattle.ken_node.specs.contracts.watched.WatchedDisk.TheImpl as watched_disk
use Rattle.ken_rounds.specs.Lending.{HasCome}
use Rattle.ken_rounds.proofs.Taken.{AreMade, IsLeft}
use Rattle.ken_rounds.proofs.lending.bring_all_back.Given as goal

abbrev pub invariant-loop-crew : goal.invariant-loop-crew
invariant-loop-crew g l = record {
  crews : IsLeft (length l.stations.items) l.fn.crews.items l.crew-iterator.a.rest.items;
  tallies : IsLeft (length l.stations.items) l.fn.tallies.items l.crew-iterator.b.rest.items;
  told : length l.faults.items ≡ length l.stations.items;
  room : (length l.fn.crews.items ≤ vec_capacity l.stations) × (length l.fn.crews.items ≤ vec_capacity l.faults);
  come : AreMade (HasCome (watched_disk.ghosts g.row.D g.D.Disk g.D.Disk-dict)) (length l.stations.items) l.fn.crews.items l.fn.tallies.items l.stations.items l.faults.items;
}
