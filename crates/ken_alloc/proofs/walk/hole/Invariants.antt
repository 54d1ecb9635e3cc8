use Rattle.std.proofs.Common.{◌≡◌, ◌-◌, length}
use Rattle.ken_model.specs.Reading.{value_of}
use Rattle.ken_alloc.specs.Walk.{hole_from, page_rest}
use Rattle.ken_alloc.proofs.Walks.{IsHunt}
use Rattle.ken_alloc.proofs.walk.hole.Given as goal

abbrev pub invariant-loop-at : goal.invariant-loop-at
invariant-loop-at l = record {
  hunt : IsHunt l.pages.bytes l.place l.from l.at (hole_from 16 (length l.pages.bytes) l.place (value_of l.pages.bytes).blocks);
  rest : l.rest ≡ page_rest l.at l.pages.bytes;
}

abbrev pub decreases-loop-at : goal.decreases-loop-at
decreases-loop-at l = length l.pages.bytes - l.at
