-- Whether a node has anything more to do.
use Rattle.ken_run.proofs.AtEnd.{full-done, idle-done, none-unemitted, unemitted-busy, waiting-busy}
use Rattle.ken_ship.specs.Last.{last_of}
use Rattle.ken_node.specs.Stages.{emissions_in}
use Rattle.ken_run.proofs.run.Run.is_busy.Goals as goal

pub returns-then-has_unemitted-clause-busy : goal.returns-then-has_unemitted-clause-busy
returns-then-has_unemitted-clause-busy g c = λ yes game made is low all.
    let up = c.node_at-end.ensures.up game made is low in
    unemitted-busy game is.emissions is.nodes c.args.node (last_of (emissions_in c.node_at-end.result.now.stage)) (c.node_at-end.ensures.emitted game made is low)
    ((c.has_unemitted.ensures game c.args.node (is.nodes c.args.node) up).0 c.if-has_unemitted.true)

pub returns-then-is_full-clause-done : goal.returns-then-is_full-clause-done
returns-then-is_full-clause-done g c = λ no game made is low all.
    let up = c.node_at-end.ensures.up game made is low in
    full-done game is.emissions is.nodes c.args.node
    (none-unemitted game is.emissions is.nodes c.args.node (last_of (emissions_in c.node_at-end.result.now.stage)) (c.node_at-end.ensures.emitted game made is low)
    (λ due. let yes = (c.has_unemitted.ensures game c.args.node (is.nodes c.args.node) up).1 due in let was = c.if-has_unemitted.false in absurd (cc)))
    ((c.is_full.ensures game c.args.node (is.nodes c.args.node) up).0 c.if-is_full.true)

pub returns-clause-busy : goal.returns-clause-busy
returns-clause-busy g c = λ yes game made is low all.
    let up = c.node_at-end.ensures.up game made is low in
    waiting-busy game is.emissions is.nodes c.args.node (λ full. let done = (c.is_full.ensures game c.args.node (is.nodes c.args.node) up).1 full in let was = c.if-is_full.false in absurd (cc)) (c.has_waiting.ensures.some yes game made is low all)

pub returns-clause-done : goal.returns-clause-done
returns-clause-done g c = λ no game made is low all.
    let up = c.node_at-end.ensures.up game made is low in
    idle-done game is.emissions is.nodes c.args.node
    (none-unemitted game is.emissions is.nodes c.args.node (last_of (emissions_in c.node_at-end.result.now.stage)) (c.node_at-end.ensures.emitted game made is low)
    (λ due. let yes = (c.has_unemitted.ensures game c.args.node (is.nodes c.args.node) up).1 due in let was = c.if-has_unemitted.false in absurd (cc)))
    (c.has_waiting.ensures.none no game made is low all)
