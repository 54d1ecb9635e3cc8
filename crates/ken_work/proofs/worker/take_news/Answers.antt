use Rattle.std.proofs.Common.{◌≡◌, ◌∷◌, ◌++◌, [], refl, ap, ◌∙◌, arith, rules}
use Rattle.ken_links.specs.Rings.{popped, known}
use Rattle.ken_work.proofs.TakenNews.{first_is, told_more}
use Rattle.ken_work.proofs.worker.take_news.Goals as goal

pub loop-given-preserved : goal.loop-given-preserved
loop-given-preserved g c =
    let inv = c.loop-given.invariant in
    let x = c.pop_known.result in
    let first : c.first_known.result.now ≡ x = first_is c.first_known.result.now x (known c.look.new.self) (known c.pop_known.new.self) c.first_known.ensures c.pop_known.ensures.known in
    let by : c.by.result ≡ g.A.News.stands_with x = c.by.ensures ∙ ap g.A.News.stands_with first in
    record {
      ring = search (rules, inv.ring, c.look.ensures.ring, c.pop_known.ensures.ring);
      count = c.pop_known.ensures.nones ∙ c.if-not-look.ensures.counted.0 refl ∙ inv.count;
      told = told_more g.A.News.stands_with g.A.News.says c.args.made c.loop-given._given (popped c.args.ring.now) (popped c.loop-given.ring) (popped c.pop_known.new.self) c.args.known.now c.loop-given.known c.fact.result x inv.told
          (c.pop_known.ensures.popped ∙ ap (λ xs. xs ++ x ∷ []) c.look.ensures.popped) (omega (arith, c.if-by-made.false, by)) c.fact.ensures;
    }
