use Rattle.std.proofs.Common.{sym, ◌∙◌}
use Rattle.ken_work.proofs.TakenNews.{latest_last}
use Rattle.ken_work.proofs.worker.take_last.Goals as goal

pub returns-in-Some : goal.returns-in-Some
returns-in-Some g c = c.fact.ensures ∙ sym (latest_last g.A.News.says c.args.known.now c.args.told.now c.in-Some.last.now (sym c.in-Some.ensures.value))
