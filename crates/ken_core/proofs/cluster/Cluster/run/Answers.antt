use Rattle.std.proofs.Common.{List, subst, ◌∙◌}
use Rattle.std.proofs.lemmas.List.{take_all}
use Rattle.ken_model.specs.declared.facts.Facts.{Facts}
use Rattle.ken_model.specs.Game.{game_of}
use Rattle.ken_core.specs.declared.events.Event.{Event}
use Rattle.ken_core.specs.Clusters.{Goes}
use Rattle.ken_core.specs.Groups.{Plays}
use Rattle.ken_core.specs.Programs.{facts_of, cluster_of}
use Rattle.ken_core.proofs.Calls.{events_keep_accord}
use Rattle.ken_core.proofs.Going.{goes_more}
use Rattle.ken_core.proofs.cluster.Cluster.run.Goals as goal

pub loop-event-preserved : goal.loop-event-preserved
loop-event-preserved c =
    let plays = subst (λ (f : Facts). Plays (game_of f) (cluster_of c.loop-event.start) c.event-item.result (cluster_of c.step.new.self) c.in_ok-step.field-0) c.loop-event.invariant.facts c.in_ok-step.ensures.plays in
    record {
      sound = c.step.ensures.sound;
      goes = goes_more (game_of (facts_of c.args.start)) (cluster_of c.args.start) (cluster_of c.loop-event.start) (cluster_of c.step.new.self) c.args.events.now c.loop-event.event-index c.event-item.result c.in_ok-step.field-0 c.loop-event-test.true c.event-item.is c.loop-event.invariant.goes plays;
      facts = c.step.ensures.facts ∙ c.loop-event.invariant.facts;
    }

pub returns : goal.returns
returns c =
    let goes = subst (λ (es : List Event). Goes (game_of (facts_of c.args.start)) (cluster_of c.args.start) es (cluster_of c.loop-event.start)) (take_all c.loop-event.event-index c.args.events.now c.loop-event-test.false) c.loop-event.invariant.goes in
    record {
      sound = c.loop-event.invariant.sound;
      goes = goes;
      accord = λ accord. events_keep_accord (game_of (facts_of c.args.start)) (cluster_of c.args.start) c.args.events.now (cluster_of c.loop-event.start) accord goes;
      facts = c.loop-event.invariant.facts;
    }
