use Rattle.std.proofs.Common.{◌≡◌}
use Rattle.ken_links.specs.Rings.{popped, nones, SamePopEnd}
use Rattle.ken_work.proofs.TakenNews.{ToldSoFar}
use Rattle.ken_work.proofs.worker.take_news.Given as goal

abbrev pub invariant-loop-given : goal.invariant-loop-given
invariant-loop-given g l = record {
  ring : SamePopEnd l.fn.ring l.ring;
  count : nones l.ring ≡ nones l.fn.ring;
  told : ToldSoFar g.A.News.stands_with g.A.News.says l.made l._given (popped l.fn.ring) (popped l.ring) l.fn.known l.known;
}
