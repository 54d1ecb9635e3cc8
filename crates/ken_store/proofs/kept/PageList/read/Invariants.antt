use Rattle.std.proofs.Common.{◌≡◌, take}
use Rattle.ken_store.proofs.kept.PageList.read.Given as goal

abbrev pub invariant-loop-page : goal.invariant-loop-page
invariant-loop-page l = l.kept.items ≡ take l.page-index l.pages
