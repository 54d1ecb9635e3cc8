use Rattle.std.proofs.Common.{◌≡◌, ◌+◌, ◌-◌, ◌≤◌, length, map, vec_len, vec_capacity}
use Rattle.ken_pages.specs.Paged.{with_own, lacking}
use Rattle.ken_pages.specs.Layout.{ArePages, Lists, now_of, was_of, own_pages, kept_pages}
use Rattle.ken_pages.proofs.turn.take_all.Given as goal

abbrev pub invariant-loop-page : goal.invariant-loop-page
invariant-loop-page l = record {
  past : l.from ≤ l.page;
  whole : ArePages l.pages;
  now : map now_of l.pages ≡ map now_of l.initial.pages;
  was : map was_of l.pages ≡ map was_of l.initial.pages;
  own : own_pages l.pages ≡ with_own l.from (l.page - l.from) (own_pages l.initial.pages);
  spare : length l.shelf + lacking l.from (l.page - l.from) (own_pages l.initial.pages) ≡ length l.initial.shelf;
  listed : Lists l.first.items (kept_pages l.pages);
  room : vec_len l.first + length l.shelf ≤ vec_capacity l.first;
}
