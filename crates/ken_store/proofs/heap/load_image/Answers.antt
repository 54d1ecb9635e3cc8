use Rattle.std.proofs.Common.{◌+◌, ◌*◌, ◌≤◌, ◌∙◌, length, take, ap, sym, arith}
use Rattle.ken_store.proofs.Heaps.{loaded_more, length-written}
use Rattle.ken_store.proofs.Reading.{same_on, load_ok}
use Rattle.ken_store.proofs.heap.load_image.Goals as goal

pub loop-page-preserved : goal.loop-page-preserved
loop-page-preserved g c =
    let whole = ap length (sym c.as_slice.ensures.same) ∙ c.as_slice.ensures.whole in
    let next = c.loop-page.invariant in
    let less : c.loop-page.page + 1 ≤ c.args.image.now.pages = omega (arith, c.loop-page-test.true, c.pages-page-end.ensures) in
    let inside : 256 * c.loop-page.page + 256 ≤ length c.loop-page.heap.bytes = omega (arith, less, next.long) in
    let bytes = c.in_ok-load-2.ensures.bytes in
    record {
      bytes = λ h told. ap (take (256 * (c.loop-page.page + 1))) bytes ∙ loaded_more c.loop-page.page c.loop-page.heap.bytes h.now.seen c.load.new.frame inside (c.in_ok-load.ensures.read h (next.same.story ∙ told)) whole (next.bytes h told);
      idle = c.in_ok-load-2.ensures.begun;
      long = ap length bytes ∙ length-written c.loop-page.heap.bytes c.load.new.frame (256 * c.loop-page.page) (omega (arith, inside, whole)) ∙ next.long;
      whole = c.in_ok-load.ensures.whole;
      pages = c.in_ok-load.ensures.count ∙ next.pages;
      same = same_on g.D.Disk.told g.D.Disk.faults g.D.Disk.fate _ _ _ next.same (load_ok g.D.Disk.told g.D.Disk.faults g.D.Disk.fate _ _ {T = Unit {0}} tt c.in_ok-load.ensures.story c.in_ok-load.ensures.cause c.in_ok-load.ensures.fate);
    }
