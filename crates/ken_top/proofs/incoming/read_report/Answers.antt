use Rattle.std.proofs.Common.{rules, refl}
use Rattle.ken_top.proofs.Coming.{judged_join, taken_join}
use Rattle.ken_top.proofs.incoming.read_report.Goals as goal

pub loop-taken-preserved : goal.loop-taken-preserved
loop-taken-preserved g c = record {
  few = search rules;
  under_way = c.in_ok-count.ensures.under_way;
  judged = judged_join _ (g.S.Source.left c.loop-taken.source) _ _ c.loop-taken.judging _ c.loop-taken.taken c.in_ok-count.count _ c.loop-taken.invariant.judged c.in_ok-count.ensures.judged refl;
  faults = search rules;
}

pub returns-in_err-count-clause-taken : goal.returns-in_err-count-clause-taken
returns-in_err-count-clause-taken g c = taken_join _ (g.S.Source.left c.loop-taken.source) _ _ c.loop-taken.judging c.loop-taken.taken c.args.room _ c.loop-taken.invariant.judged c.judge_piece.ensures.taken (search rules)

pub returns-then-count-eq0-clause-judged : goal.returns-then-count-eq0-clause-judged
returns-then-count-eq0-clause-judged g c = judged_join _ (g.S.Source.left c.loop-taken.source) _ _ c.loop-taken.judging _ c.loop-taken.taken c.in_ok-count.count _ c.loop-taken.invariant.judged c.in_ok-count.ensures.judged (search rules)

pub returns-then-count-eq0-clause-taken : goal.returns-then-count-eq0-clause-taken
returns-then-count-eq0-clause-taken g c = taken_join _ (g.S.Source.left c.loop-taken.source) _ _ c.loop-taken.judging c.loop-taken.taken c.args.room _ c.loop-taken.invariant.judged c.judge_piece.ensures.taken (search rules)
