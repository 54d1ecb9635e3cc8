use Rattle.std.proofs.Common.{◌∙◌, ap}
use Rattle.ken_cover.specs.Overlay.{overlay}
use Rattle.ken_store.proofs.Heaps.{piled_more}
use Rattle.ken_store.proofs.heap.lay_records.Goals as goal

pub loop-record-preserved : goal.loop-record-preserved
loop-record-preserved c =
    piled_more c.args.count c.args.records.now c.args.heap.now c.loop-record.heap c.lay_over.new.heap c.loop-record.record-index c.record-item.result c.loop-record.invariant c.loop-record-test.true c.record-item.is
    (c.in_ok-lay_over.ensures.bytes ∙ ap (overlay c.loop-record.heap.bytes) c.as_slice.ensures) c.lay_over.ensures.idle c.lay_over.ensures.size
