use Rattle.std.proofs.Common.{◌≡◌, ◌+◌, ◌≤◌}
use Rattle.std.specs.VecDeque.{deque_len, deque_capacity}
use Rattle.ken_links.specs.declared.push_end.TheConstants.{SLOTS}
use Rattle.ken_links.specs.Rings.{popped, nones, SamePopEnd}
use Rattle.ken_ship.specs.Handing.{CountsTurns}
use Rattle.ken_ship.specs.Parts.{due_in}
use Rattle.ken_ship.proofs.Handed.{HandedSoFar}
use Rattle.ken_ship.proofs.backlog.Backlog.pop_from.Given as goal

abbrev pub invariant-loop-given : goal.invariant-loop-given
invariant-loop-given l = record {
  node : l.self.node ≡ l.fn.self.node;
  ring : SamePopEnd l.fn.ring l.ring;
  count : nones l.ring ≡ nones l.fn.ring;
  handed : HandedSoFar l.fn.self.node l._given (popped l.fn.ring) (popped l.ring) (due_in l.fn.self) (due_in l.self);
  number : CountsTurns (popped l.fn.ring) (popped l.ring) l.fn.self.handed l.self.handed;
  room : deque_len l.self.turns + SLOTS ≤ deque_capacity l.self.turns + l._given;
}
