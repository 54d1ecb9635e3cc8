use Rattle.std.proofs.Common.{◌≡◌, ◌-◌, ◌≤◌}
use Rattle.ken_pages.specs.Paged.{lacking}
use Rattle.ken_pages.specs.Layout.{own_pages}
use Rattle.ken_pages.proofs.turn.lacking.Given as goal

abbrev pub invariant-loop-page : goal.invariant-loop-page
invariant-loop-page l = record {
  past : l.from ≤ l.page;
  so_far : l.count ≡ lacking l.from (l.page - l.from) (own_pages l.pages);
}
