use Rattle.std.proofs.Common.{◌≡◌, ◌-◌, length}
use Rattle.ken_model.specs.Reading.{value_of}
use Rattle.ken_alloc.specs.Objects.{place_of_front}
use Rattle.ken_alloc.specs.Walk.{page_rest}
use Rattle.ken_alloc.proofs.Walks.{IsQuest}
use Rattle.ken_alloc.proofs.fronts.find.Given as goal

abbrev pub invariant-loop-at : goal.invariant-loop-at
invariant-loop-at l = record {
  quest : IsQuest l.pages.bytes l.key l.behind l.at (place_of_front l.key l.behind (value_of l.pages.bytes).blocks);
  rest : l.rest ≡ page_rest l.at l.pages.bytes;
}

abbrev pub decreases-loop-at : goal.decreases-loop-at
decreases-loop-at l = length l.pages.bytes - l.at
