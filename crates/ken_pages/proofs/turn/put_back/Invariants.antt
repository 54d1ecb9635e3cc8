use Rattle.std.proofs.Common.{◌≡◌, ◌+◌, ◌≤◌, length, drop, map}
use Rattle.ken_pages.specs.Paged.{own_count}
use Rattle.ken_pages.specs.Layout.{ArePages, Lists, was_of, own_pages, kept_pages}
use Rattle.ken_pages.proofs.turn.put_back.Given as goal

abbrev pub invariant-loop-page : goal.invariant-loop-page
invariant-loop-page l = record {
  whole : ArePages l.pages;
  listed : Lists (drop l.page-index l.first) (kept_pages l.pages);
  was : map was_of l.pages ≡ map was_of l.initial.pages;
  spare : length l.shelf + own_count (own_pages l.pages) ≡ length l.initial.shelf + own_count (own_pages l.initial.pages);
  few : length l.shelf ≤ length l.initial.shelf + l.page-index;
}
