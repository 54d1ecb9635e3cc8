use Rattle.std.proofs.Common.{◌≡◌, ◌+◌, ◌≤◌, ◌++◌, length}
use Rattle.std.specs.VecDeque.{deque_len, deque_capacity}
use Rattle.ken_links.specs.Rings.{popped, known, nones, SamePopEnd}
use Rattle.ken_work.proofs.TakenOver.{PoppedSoFar}
use Rattle.ken_work.proofs.patcher.PatchWorker.hand_known.Given as goal

abbrev pub invariant-loop-moved : goal.invariant-loop-moved
invariant-loop-moved g l = record {
  ring : SamePopEnd l.fn.self.pages l.self.pages;
  settled : l.self.settled ≡ l.fn.self.settled;
  count : nones l.self.pages ≡ nones l.fn.self.pages;
  so_far : PoppedSoFar g.D.Disk.told g.D.Disk.size (popped l.fn.self.pages) (popped l.self.pages) l.fn.self.side l.self.side l._moved;
  all : popped l.self.pages ++ known l.self.pages ≡ popped l.fn.self.pages ++ known l.fn.self.pages;
  left : length (known l.self.pages) + l._moved ≡ length (known l.fn.self.pages);
  room : deque_len l.self.side.ahead + length (known l.self.pages) ≤ deque_capacity l.self.side.ahead;
}
