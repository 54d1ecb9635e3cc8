use Rattle.std.proofs.Common.{◌≡◌, ◌*◌, ◌^◌, ◌≤◌, map}
use Rattle.std.specs.List.{range_with_len}
use Rattle.ken_gen.specs.Summary.{all_roots, all_turns, total_by}
use Rattle.ken_gen.proofs.walks.follow_all.Given as goal

-- the nodes so far, whose sums are small
abbrev pub invariant-loop-place : goal.invariant-loop-place
invariant-loop-place l = record {
  totals : l.totals.items ≡ map (total_by l.nodes l.inputs) (range_with_len 0 l.place);
  few : all_turns l.totals.items ≤ l.place * 300000;
  small : all_roots l.totals.items ≤ l.place * 10 ^ 13;
}
