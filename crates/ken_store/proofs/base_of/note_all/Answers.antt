use Rattle.std.proofs.Common.{None, slice_index_or, map}
use Rattle.std.specs.List.{zip}
use Rattle.ken_store.specs.Turning.{changed_in}
use Rattle.ken_store.proofs.Lasts.{noted_all_more}
use Rattle.ken_store.proofs.base_of.note_all.Goals as goal

pub loop-item-preserved : goal.loop-item-preserved
loop-item-preserved c = λ p.
    noted_all_more p (slice_index_or c.note_pages.new.last p None) (slice_index_or c.loop-item.last p None) (slice_index_or c.args.last.now p None) (map changed_in (zip c.args.turns.now c.args.base.now)) c.args.records.now c.loop-item.item-index c.item-item.result c.pages.result.now c.loop-item-test.true c.item-item.is c.pages.ensures (rw c.turn.ensures at (c.note_pages.ensures p)) (c.loop-item.invariant p)
