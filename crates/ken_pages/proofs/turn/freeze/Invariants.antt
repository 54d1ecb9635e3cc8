use Rattle.std.proofs.Common.{◌≡◌, ◌≤◌, length, vec_len, vec_capacity, map, take}
use Rattle.std.specs.List.{filter}
use Rattle.ken_pages.specs.Paged.{with_bytes, shared_pages, without_own}
use Rattle.ken_pages.specs.Layout.{ArePages, now_of, was_of, now_bytes, differs_at, own_pages, kept_pages}
use Rattle.ken_pages.proofs.turn.freeze.Given as goal

abbrev pub invariant-loop-page : goal.invariant-loop-page
invariant-loop-page l = record {
  len : vec_len l.frozen ≤ l.page-index;
  room : length l.first ≤ vec_capacity l.frozen;
  whole : ArePages l.pages;
  shares : shared_pages l.frozen.items ≡ map (with_bytes (now_bytes l.initial.pages)) (filter (differs_at l.initial.pages) (take l.page-index l.first));
  now : map now_of l.pages ≡ map now_of l.initial.pages;
  was : map was_of l.pages ≡ map was_of l.initial.pages;
  kept : kept_pages l.pages ≡ kept_pages l.initial.pages;
  own : own_pages l.pages ≡ without_own (filter (differs_at l.initial.pages) (take l.page-index l.first)) (own_pages l.initial.pages);
}
