use Rattle.ken_store.proofs.Heaps.{laid_more}
use Rattle.ken_store.proofs.heap.lay_over.Goals as goal

pub loop-page-preserved : goal.loop-page-preserved
loop-page-preserved c =
    laid_more c.args.count c.args.pages.now c.args.heap.now c.loop-page.heap c.load.new.self c.loop-page.page-index c.page-item.result c.loop-page.invariant c.requires.within c.loop-page-test.true c.page-item.is
    (rw (c.fill.ensures, c.as_slice.ensures) at c.in_ok-load.ensures.bytes) c.in_ok-load.ensures.begun
