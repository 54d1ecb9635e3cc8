use Rattle.std.proofs.Common.{◌≡◌, ◌+◌, ◌<◌, ◌≤◌, ℕ, length}
use Rattle.std.specs.Prelude.{slice_index_or}
use Rattle.ken_wire.specs.declared.take_end.TakeEnd.{TakeEnd}
use Rattle.ken_wire.specs.Ends.{taker_of, made_of}
use Rattle.ken_wire.specs.Nets.{AreFrom}
use Rattle.ken_wire.specs.Rounds.{IsSeated, AtEach}
use Rattle.ken_wire.proofs.rounds.hand_out.Given as goal

abbrev pub invariant-loop-place : goal.invariant-loop-place
invariant-loop-place l = record {
  count : length l.ends.items ≡ l.place;
  next : (k : ℕ) (d : TakeEnd) → k < l.place → (taker_of (slice_index_or l.takes k d) ≡ k) × (made_of (slice_index_or l.takes k d) ≡ l.node + 1);
  own : AreFrom l.node l.ends.items;
  seated : AtEach IsSeated l.initial.takes l.takes l.ends.items;
  others : (k : ℕ) (d : TakeEnd) → l.place ≤ k → k < length l.takes → slice_index_or l.takes k d ≡ slice_index_or l.initial.takes k d;
}
