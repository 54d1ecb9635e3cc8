use Rattle.std.proofs.Common.{◌≡◌, ◌<◌, ◌≤◌, ℕ, length}
use Rattle.std.specs.Prelude.{slice_index_or}
use Rattle.ken_wire.specs.declared.take_end.TakeEnd.{TakeEnd}
use Rattle.ken_wire.specs.declared.send_end.SendEnd.{SendEnd}
use Rattle.ken_wire.specs.Rounds.{IsBackAt}
use Rattle.ken_wire.proofs.rounds.take_back.Given as goal

abbrev pub invariant-loop-end : goal.invariant-loop-end
invariant-loop-end l = record {
  count : length l.ends.items ≤ length l.takes;
  ends : (k : ℕ) (e : SendEnd) → k < length l.ends.items → slice_index_or l.ends.items k e ≡ slice_index_or l.initial.ends.items k e;
  others : (k : ℕ) (d : TakeEnd) → k < length l.ends.items → slice_index_or l.takes k d ≡ slice_index_or l.initial.takes k d;
  back : (k : ℕ) (d : TakeEnd) (e : SendEnd) → length l.ends.items ≤ k → k < length l.initial.ends.items → IsBackAt (slice_index_or l.initial.takes k d) (slice_index_or l.takes k d) (slice_index_or l.initial.ends.items k e);
}

abbrev pub decreases-loop-end : goal.decreases-loop-end
decreases-loop-end l = length l.ends.items
