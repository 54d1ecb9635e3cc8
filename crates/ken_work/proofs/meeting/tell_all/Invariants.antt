use Rattle.std.proofs.Common.{◌≡◌, ◌+◌, ◌++◌, length}
use Rattle.ken_links.specs.Rings.{pushed, popped, known, nones, SamePopEnd}
use Rattle.ken_work.specs.Meeting.{WasTold}
use Rattle.ken_work.proofs.meeting.tell_all.Given as goal

abbrev pub invariant-loop-item : goal.invariant-loop-item
invariant-loop-item g l = record {
  end : SamePopEnd l.initial.pop l.pop;
  count : nones l.pop ≡ nones l.initial.pop;
  told : WasTold g.A.News.says (popped l.fn.pop) (popped l.pop) l.fn.known l.known;
  all : popped l.pop ++ known l.pop ≡ pushed l.push;
  left : length (known l.pop) + l._item ≡ length (known l.initial.pop);
}
