-- What all nodes have left.
use Rattle.ken_run.proofs.Moves.{few-more, left-all, left-more}
use Rattle.ken_run.proofs.run.Run.left.Goals as goal

pub loop-station-preserved : goal.loop-station-preserved
loop-station-preserved g c = record {
  sum = left-more c.args.self.now.restarts c.args.self.now.stations.items c.deref-station-items.result.now c.loop-station.station-index c.loop-station.left c.left-left.result c.station-item.result c.deref-station-items.ensures.value c.loop-station-test.true c.station-item.is c.left-left.ensures.left c.loop-station.invariant.sum;
  few = few-more c.loop-station.station-index c.loop-station.left c.left-left.result c.loop-station.invariant.few c.left-left.ensures.few;
}

pub returns : goal.returns
returns g c = left-all c.args.self.now.restarts c.args.self.now.stations.items c.deref-station-items.result.now c.loop-station.station-index c.loop-station.left c.deref-station-items.ensures.value c.loop-station-test.false c.loop-station.invariant.sum
