use Rattle.std.proofs.Common.{◌≡◌, ◌≤◌, length, vec_capacity}
use Rattle.std.specs.Vec.Iter.{into_iter_items}
use Rattle.ken_rounds.specs.Lending.{IsTallied, KeepOwn}
use Rattle.ken_rounds.specs.Manned.{IsMannedBy}
use Rattle.ken_rounds.proofs.Taken.{AreMade, IsLeft}
use Rattle.ken_rounds.proofs.lending.lend_all.Given as goal

abbrev pub invariant-loop-station : goal.invariant-loop-station
invariant-loop-station g l = record {
  stations : IsLeft (length l.crews.items) l.fn.stations.items (into_iter_items l.station-iterator);
  tallied : length l.tallies.items ≡ length l.crews.items;
  room : (length l.fn.stations.items ≤ vec_capacity l.crews) × (length l.fn.stations.items ≤ vec_capacity l.tallies);
  lent : AreMade (λ s _ c t. IsMannedBy c s × IsTallied t s × KeepOwn s) (length l.crews.items) l.fn.stations.items l.fn.stations.items l.crews.items l.tallies.items;
}
