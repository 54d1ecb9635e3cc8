use Rattle.std.proofs.Common.{◌≡◌, drop}
use Rattle.ken_record.specs.Grammar.{rise_from, page_rank}
use Rattle.ken_core.proofs.bytes.rise.Given as goal

abbrev pub invariant-loop-page : goal.invariant-loop-page
invariant-loop-page l = rise_from page_rank l.low (drop l.page-index l.pages) ≡ rise_from page_rank 0 l.pages
