-- The turns of a node are merged with the lines of before.
use Rattle.std.proofs.Common.{◌≡◌, List, map, sym, ap, subst, ◌∙◌, rules}
use Rattle.ken_model.specs.declared.reports.TurnLine.{TurnLine}
use Rattle.ken_model.specs.History.{lines_by, Rises}
use Rattle.ken_core.specs.Timeline.{merged}
use Rattle.ken_core.specs.Turns.{effects_line}
use Rattle.ken_core.proofs.Merged.{AreOf-turns, merged-its_lines, merged-others, merged-turns}
use Rattle.ken_core.proofs.timeline.Timeline.add.Goals as goal

all_lines : (c : goal.After-drop-self-inside) → c.in_ok-self-inside.field-0.items ≡ merged c.args.self.now (map (effects_line c.args.node) c.args.turns.now)
all_lines c =
    let before : c.replace-lines.result.items ≡ c.args.self.now = cc in
    c.in_ok-self-inside.ensures ∙ ap (λ (ls : List TurnLine). merged ls (map (effects_line c.args.node) c.args.turns.now)) before

pub invariant_of-self : goal.invariant_of-self
unfolding Rises
invariant_of-self c = search rules

pub invariant_of-self-2 : goal.invariant_of-self-2
invariant_of-self-2 c =
    let order : Rises 0 0 c.args.self.now = subst (Rises 0 0) c.self.view_is c.self.invariant in
    subst (Rises 0 0) (sym (all_lines c)) (merged-turns c.args.node c.args.self.now c.args.turns.now c.requires.fresh order c.requires.rise)

pub returns-clause-its_lines : goal.returns-clause-its_lines
returns-clause-its_lines c =
    let node = c.args.node in
    ap (lines_by node) (all_lines c) ∙ merged-its_lines node c.args.self.now (map (effects_line node) c.args.turns.now) c.requires.fresh (AreOf-turns node c.args.turns.now)

pub returns-clause-others : goal.returns-clause-others
returns-clause-others c = λ v apart.
    let node = c.args.node in
    ap (lines_by v) (all_lines c) ∙ merged-others node v c.args.self.now (map (effects_line node) c.args.turns.now) apart (AreOf-turns node c.args.turns.now)
