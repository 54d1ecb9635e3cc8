use Rattle.ken_model.specs.Game.{game_of}
use Rattle.ken_core.specs.Clusters.{IsHistoryOf}
use Rattle.ken_core.specs.Laws.{IsPlayedBy}
use Rattle.ken_core.specs.Programs.{facts_of, cluster_of}
use Rattle.ken_core.proofs.Results.{then_so}
use Rattle.ken_core.proofs.cluster.Cluster.history.Goals as goal

pub returns-clause-played : goal.returns-clause-played
returns-clause-played c =
    then_so (IsHistoryOf (cluster_of c.args.self.now)) (IsPlayedBy (game_of (facts_of c.args.self.now)) (cluster_of c.args.self.now)) c.history.result
    (λ lines is. c.history_is_legal.ensures (game_of (facts_of c.args.self.now)) (cluster_of c.args.self.now) lines c.requires.accord is) c.history.ensures
