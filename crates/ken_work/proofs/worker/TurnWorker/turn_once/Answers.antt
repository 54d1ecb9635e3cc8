use Rattle.std.proofs.Common.{refl}
use Rattle.ken_work.proofs.worker.TurnWorker.turn_once.Goals as goal

pub returns-then-is_capped-clause-takes : goal.returns-then-is_capped-clause-takes
returns-then-is_capped-clause-takes g c =
    let net = c.args.net.now in
    (c.hear_news.new.self, c.hear_news.ensures, record { capped = c.is_capped.ensures.0 c.if-is_capped.true; same = refl; given = g.met.N.Net.given_still net; none = g.met.N.Net.put_still net })
