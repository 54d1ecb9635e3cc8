use Rattle.std.proofs.Common.{rules, refl}
use Rattle.ken_top.proofs.Coming.{come_more}
use Rattle.ken_top.proofs.incoming.let_go.Goals as goal

pub loop-taken-preserved : goal.loop-taken-preserved
loop-taken-preserved g c = record {
  few = search rules;
  come = come_more _ (g.S.Source.left c.loop-taken.source) _ c.loop-taken.taken c.in_ok-count.count _ c.read.new.buf c.loop-taken.invariant.come c.in_ok-count.ensures.bytes.0 (search rules) refl;
  faults = search rules;
}
