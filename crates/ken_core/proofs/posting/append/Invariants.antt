use Rattle.std.proofs.Common.{◌≡◌, ◌+◌, ◌≤◌, ◌++◌, length, vec_len, vec_capacity}
use Rattle.std.specs.Vec.Iter.{into_iter_items}
use Rattle.ken_core.proofs.posting.append.Given as goal

abbrev pub invariant-loop-out : goal.invariant-loop-out
invariant-loop-out l = record {
  outs : l.outs.items ++ into_iter_items l.out-iterator ≡ l.fn.outs.items ++ l.fn.more.items;
  room : vec_len l.outs + length (into_iter_items l.out-iterator) ≤ vec_capacity l.outs;
}
