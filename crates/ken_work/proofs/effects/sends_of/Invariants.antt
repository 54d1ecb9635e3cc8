use Rattle.std.proofs.Common.{◌≡◌, ℕ, ◌+◌, ◌<◌, ◌^◌, ◌++◌, length, slice_index}
use Rattle.std.specs.List.{AllByRecursion}
use Rattle.std.specs.Vec.Iter.{into_iter_items}
use Rattle.ken_work.proofs.Numbering.{sents}
use Rattle.ken_work.proofs.effects.sends_of.Given as goal

-- what is numbered, and what numbering the rest would add, are what numbering all would give
abbrev pub invariant-loop-send : goal.invariant-loop-send
invariant-loop-send l = record {
  made : (v stamp : ℕ) → l.numbered ++ sents v stamp l.sent (into_iter_items l.send-iterator) ≡ sents v stamp l.fn.sent l.fn.sends.items;
  width : length l.sent ≡ 8;
  known : AllByRecursion (λ s. s.to < 8) (into_iter_items l.send-iterator);
  room : (w : ℕ) → slice_index l.sent w + length (into_iter_items l.send-iterator) < 2 ^ 64;
}
