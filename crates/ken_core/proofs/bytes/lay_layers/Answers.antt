use Rattle.ken_core.proofs.Fits.{laid_more}
use Rattle.ken_core.proofs.bytes.lay_layers.Goals as goal

pub loop-layer-preserved : goal.loop-layer-preserved
loop-layer-preserved c = laid_more c.loop-layer.bytes c.lay_changes.new.bytes _ c.args.layers.now c.loop-layer.layer-index c.layer-item.result c.as_slice.result.now c.loop-layer-test.true c.layer-item.is c.as_slice.ensures c.lay_changes.ensures c.loop-layer.invariant
