use Rattle.std.proofs.Common.{◌≡◌, ◌-◌, length}
use Rattle.ken_model.specs.Reading.{value_of}
use Rattle.ken_alloc.specs.Walk.{fit_from, page_rest}
use Rattle.ken_alloc.proofs.Walks.{IsSearch}
use Rattle.ken_alloc.proofs.walk.first_fit.Given as goal

abbrev pub invariant-loop-at : goal.invariant-loop-at
invariant-loop-at l = record {
  search : IsSearch l.pages.bytes l.len l.at (fit_from 16 (length l.pages.bytes) (value_of l.pages.bytes).blocks l.len);
  rest : l.rest ≡ page_rest l.at l.pages.bytes;
}

abbrev pub decreases-loop-at : goal.decreases-loop-at
decreases-loop-at l = length l.pages.bytes - l.at
