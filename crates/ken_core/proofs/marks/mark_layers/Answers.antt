use Rattle.std.proofs.Common.{◌∙◌}
use Rattle.ken_core.proofs.Fits.{marked_more}
use Rattle.ken_core.proofs.marks.mark_layers.Goals as goal

pub loop-layer-preserved : goal.loop-layer-preserved
loop-layer-preserved c = record {
  width = c.mark_changes.ensures.width ∙ c.loop-layer.invariant.width;
  all = λ k. marked_more k _ _ _ c.args.layers.now c.loop-layer.layer-index c.layer-item.result c.as_slice.result.now c.loop-layer-test.true c.layer-item.is c.as_slice.ensures (c.mark_changes.ensures.all k) (c.loop-layer.invariant.all k);
}
