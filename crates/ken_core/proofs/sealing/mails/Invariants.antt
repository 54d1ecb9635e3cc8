use Rattle.std.proofs.Common.{◌≡◌, ◌+◌, ◌-◌, ◌^◌, ◌<◌, ◌++◌, ℕ, drop, length, slice_index}
use Rattle.ken_model.specs.Posted.{posted_after}
use Rattle.ken_core.proofs.sealing.mails.Given as goal

-- what is numbered, and what numbering the rest would add, are what numbering all would give
abbrev pub invariant-loop-send : goal.invariant-loop-send
invariant-loop-send l = record {
  made : l.mails.items ++ posted_after l.node l.stamp (λ w. slice_index l.counts.items w) (drop l.send-index l.sends) ≡ posted_after l.node l.stamp (λ w. slice_index l.initial.counts.items w) l.sends;
  width : length l.counts.items ≡ length l.initial.counts.items;
  room : (w : ℕ) → slice_index l.counts.items w + (length l.sends - l.send-index) < 2 ^ 64;
}
