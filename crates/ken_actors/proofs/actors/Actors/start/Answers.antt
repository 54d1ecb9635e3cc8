use Rattle.std.proofs.Common.{map, arith}
use Rattle.std.proofs.lemmas.List.{length-map}
use Rattle.ken_actors.specs.Nodes.{held_of}
use Rattle.ken_actors.proofs.Started.{limits_of_facts, run_start, alike_start}
use Rattle.ken_actors.proofs.actors.Actors.start.Goals as goal

pub start-requires : goal.start-requires
start-requires g c = limits_of_facts _ c.args.facts.now c.requires.limits

pub invariant_of-result : goal.invariant_of-result
invariant_of-result g c = run_start c.args.player.now c.args.facts.now _ (map held_of c.in_ok-nodes.nodes.items) (limits_of_facts _ c.args.facts.now c.requires.limits) c.in_ok-heaps.ensures (omega (arith, length-map c.in_ok-nodes.nodes.items held_of, c.in_ok-nodes.ensures.long)) c.in_ok-nodes.ensures.given

pub returns-clause-start : goal.returns-clause-start
returns-clause-start g c = alike_start (g.P.Player.handler c.args.player.now) c.args.facts.now _ (map held_of c.in_ok-nodes.nodes.items) (limits_of_facts _ c.args.facts.now c.requires.limits) c.in_ok-heaps.ensures (omega (arith, length-map c.in_ok-nodes.nodes.items held_of, c.in_ok-nodes.ensures.long)) c.in_ok-nodes.ensures.given
