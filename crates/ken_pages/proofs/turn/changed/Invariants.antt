use Rattle.std.proofs.Common.{◌≡◌, take}
use Rattle.std.specs.List.{filter}
use Rattle.ken_pages.specs.Layout.{differs_at}
use Rattle.ken_pages.proofs.turn.changed.Given as goal

abbrev pub invariant-loop-page : goal.invariant-loop-page
invariant-loop-page l = l.changed.items ≡ filter (differs_at l.pages) (take l.page-index l.first)
