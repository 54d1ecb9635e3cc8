use Rattle.std.proofs.Common.{◌≡◌, ◌+◌, ◌≤◌, ℕ, drop, length}
use Rattle.std.specs.Ordering.{nat_cmp}
use Rattle.std.specs.BTreeMap.{get}
use Rattle.ken_memdisk.specs.Calls.{by_call, first_pick}
use Rattle.ken_memdisk.proofs.cuts.by_call.Given as goal

-- the cuts from here on are by their calls
abbrev pub invariant-loop-place : goal.invariant-loop-place
invariant-loop-place l = record {
  entries : l.picks.entries ≡ by_call (drop l.place l.cuts);
  first : (call : ℕ) → get nat_cmp l.picks call ≡ first_pick (drop l.place l.cuts) call;
  few : l.place + length l.picks.entries ≤ length l.cuts;
}
