use Rattle.std.proofs.Common.{◌≡◌, ◌+◌, ◌≤◌, length, drop, map}
use Rattle.ken_pages.specs.Layout.{ArePages, Lists, now_of, kept_pages}
use Rattle.ken_pages.proofs.turn.keep.Given as goal

abbrev pub invariant-loop-page : goal.invariant-loop-page
invariant-loop-page l = record {
  whole : ArePages l.pages;
  listed : Lists (drop l.page-index l.first) (kept_pages l.pages);
  now : map now_of l.pages ≡ map now_of l.initial.pages;
  least : length l.initial.shelf ≤ length l.shelf;
  few : length l.shelf ≤ length l.initial.shelf + l.page-index;
}
