use Rattle.std.proofs.Common.{◌≡◌, take}
use Rattle.ken_model.specs.Game.{game_of}
use Rattle.ken_core.specs.Clusters.{Goes}
use Rattle.ken_core.specs.Programs.{facts_of, cluster_of, IsSound}
use Rattle.ken_core.proofs.cluster.Cluster.run.Given as goal

abbrev pub invariant-loop-event : goal.invariant-loop-event
invariant-loop-event l = record {
  sound : IsSound l.start;
  goes : Goes (game_of (facts_of l.initial.start)) (cluster_of l.initial.start) (take l.event-index l.events) (cluster_of l.start);
  facts : facts_of l.start ≡ facts_of l.initial.start;
}
