use Rattle.std.proofs.Common.{◌≡◌, ◌*◌, length, replicate, false}
use Rattle.ken_pages.specs.Layout.{ArePages, now_bytes, kept_pages}
use Rattle.ken_pages.proofs.heap.PageHeap.new.Given as goal

abbrev pub invariant-loop-page : goal.invariant-loop-page
invariant-loop-page l = record {
  many : length l.all.items ≡ l._page;
  whole : ArePages l.all.items;
  zeros : now_bytes l.all.items ≡ replicate (256 * l._page) 0;
  kept : kept_pages l.all.items ≡ replicate l._page false;
}
