use Rattle.std.proofs.Common.{◌≡◌, ◌≤◌, ◌<◌, ℕ, max, slice_index}
use Rattle.ken_core.proofs.turnovers.raise.Given as goal

abbrev pub invariant-loop-place : goal.invariant-loop-place
invariant-loop-place l = record {
  raised : (x : ℕ) → x < l.place → slice_index l.numbers x ≡ max (slice_index l.initial.numbers x) (slice_index l.told x);
  left : (x : ℕ) → l.place ≤ x → slice_index l.numbers x ≡ slice_index l.initial.numbers x;
}
