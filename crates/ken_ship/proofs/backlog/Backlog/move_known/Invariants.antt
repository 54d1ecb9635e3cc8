use Rattle.std.proofs.Common.{◌≡◌, ◌+◌, ◌≤◌, ◌++◌, length}
use Rattle.std.specs.VecDeque.{deque_len, deque_capacity}
use Rattle.ken_links.specs.Rings.{popped, known, nones, SamePopEnd}
use Rattle.ken_ship.specs.Handing.{CountsTurns, Received}
use Rattle.ken_ship.specs.Parts.{due_in}
use Rattle.ken_ship.proofs.backlog.Backlog.move_known.Given as goal

abbrev pub invariant-loop-moved : goal.invariant-loop-moved
invariant-loop-moved l = record {
  node : l.self.node ≡ l.fn.self.node;
  ring : SamePopEnd l.fn.ring l.ring;
  count : nones l.ring ≡ nones l.fn.ring;
  received : Received l.fn.self.node (popped l.fn.ring) (popped l.ring) (due_in l.fn.self) (due_in l.self);
  number : CountsTurns (popped l.fn.ring) (popped l.ring) l.fn.self.handed l.self.handed;
  all : popped l.ring ++ known l.ring ≡ popped l.fn.ring ++ known l.fn.ring;
  left : length (known l.ring) + l._moved ≡ length (known l.fn.ring);
  room : deque_len l.self.turns + length (known l.ring) ≤ deque_capacity l.self.turns;
}
