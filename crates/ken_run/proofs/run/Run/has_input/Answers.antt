-- Whether an input waits.
use Rattle.std.proofs.Common.{inr, refl}
use Rattle.ken_run.proofs.AtEnd.{input-waits, no-input}
use Rattle.ken_run.proofs.run.Run.has_input.Goals as goal

pub returns-clause-some : goal.returns-clause-some
returns-clause-some g c = λ less game made is low.
    let up = c.node_at-end.ensures.up game made is low in
    input-waits game is.nodes c.args.node c.consumed.result c.inputs.result (c.consumed.ensures game c.args.node (is.nodes c.args.node) up (inr refl)) (c.inputs.ensures game c.args.node (is.nodes c.args.node) up) less

pub returns-clause-none : goal.returns-clause-none
returns-clause-none g c = λ less game made is low.
    let up = c.node_at-end.ensures.up game made is low in
    no-input game is.nodes c.args.node c.consumed.result c.inputs.result (c.consumed.ensures game c.args.node (is.nodes c.args.node) up (inr refl)) (c.inputs.ensures game c.args.node (is.nodes c.args.node) up) less
