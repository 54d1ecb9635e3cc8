use Rattle.std.proofs.Common.{◌≡◌, ◌≤◌, ◌+◌, ◌++◌, length}
use Rattle.std.specs.VecDeque.{deque_len, deque_capacity}
use Rattle.std.specs.Vec.Iter.{into_iter_items}
use Rattle.ken_outbox.proofs.outbox.push_outs.Given as goal

abbrev pub invariant-loop-out : goal.invariant-loop-out
invariant-loop-out l = record {
  room : deque_len l.queue + length (into_iter_items l.out-iterator) ≤ deque_capacity l.queue;
  whole : l.queue.items ++ into_iter_items l.out-iterator ≡ l.fn.queue.items ++ l.fn.outs.items;
}
