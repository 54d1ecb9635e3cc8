use Rattle.std.proofs.Common.{◌≡◌, ◌+◌, ◌≤◌}
use Rattle.std.specs.VecDeque.{deque_len, deque_capacity}
use Rattle.ken_links.specs.declared.push_end.TheConstants.{SLOTS}
use Rattle.ken_links.specs.Rings.{popped, nones, SamePopEnd}
use Rattle.ken_work.proofs.TakenOver.{PoppedSoFar}
use Rattle.ken_work.proofs.patcher.PatchWorker.take_over.Given as goal

abbrev pub invariant-loop-given : goal.invariant-loop-given
invariant-loop-given g l = record {
  ring : SamePopEnd l.fn.self.pages l.self.pages;
  settled : l.self.settled ≡ l.fn.self.settled;
  count : nones l.self.pages ≡ nones l.fn.self.pages;
  so_far : PoppedSoFar g.D.Disk.told g.D.Disk.size (popped l.fn.self.pages) (popped l.self.pages) l.fn.self.side l.self.side l._given;
  room : deque_len l.self.side.ahead + SLOTS ≤ deque_capacity l.self.side.ahead + l._given;
}
