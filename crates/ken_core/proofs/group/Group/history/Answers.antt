use Rattle.std.proofs.Common.{List, map, refl, sym, subst, ◌∙◌}
use Rattle.ken_model.specs.declared.reports.TurnLine.{TurnLine}
use Rattle.ken_model.specs.Game.{game_of}
use Rattle.ken_core.specs.Turns.{effects_line}
use Rattle.ken_core.specs.Groups.{group_of, shown_at}
use Rattle.ken_core.specs.Timeline.{StampsRise}
use Rattle.ken_core.proofs.Rising.{turns_rise, lines_there, more_lines}
use Rattle.ken_core.proofs.group.Group.history.Goals as goal

pub add-requires-clause-rise : goal.add-requires-clause-rise
add-requires-clause-rise c =
    let g = game_of c.args.self.now.facts.now in
    let ms = c.args.self.now.machines.items in
    subst (λ (ls : List TurnLine). StampsRise 0 ls) (sym (lines_there g ms c.loop-node.node c.from.result c.index-machine.result.now c.as_slice.result.now (map (effects_line c.loop-node.node) c.as_slice.result.now) c.requires.kept c.from.ensures c.loop-node-test.true c.index-machine.ensures c.as_slice.ensures.value refl))
    (turns_rise g (group_of g ms c.args.self.now.emissions.items) c.loop-node.node c.requires.accord)

pub loop-node-preserved : goal.loop-node-preserved
loop-node-preserved c =
    let g = game_of c.args.self.now.facts.now in
    let ms = c.args.self.now.machines.items in
    let its = lines_there g ms c.loop-node.node c.from.result c.index-machine.result.now c.as_slice.result.now (map (effects_line c.loop-node.node) c.as_slice.result.now) c.requires.kept c.from.ensures c.loop-node-test.true c.index-machine.ensures c.as_slice.ensures.value refl in
    let both = more_lines (λ v. map (effects_line v) (shown_at g ms v).node.turning.turns) c.loop-node.timeline c.add.new.self c.loop-node.node c.loop-node.invariant.done c.loop-node.invariant.left (c.in_ok-add.ensures.its_lines ∙ its) c.in_ok-add.ensures.others in
    record { done = both.0; left = both.1 }
