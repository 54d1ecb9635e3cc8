use Rattle.std.proofs.Common.{sym, ◌∙◌}
use Rattle.ken_store.proofs.Places.{resumed_more}
use Rattle.ken_store.proofs.resume.resume.Goals as goal

pub loop-index-preserved : goal.loop-index-preserved
loop-index-preserved c =
    let yes_next = sym c.take.ensures.follows ∙ c.if-not-take.false in
    rw (c.take.ensures.taken c.if-not-take.false) (resumed_more c.args.owner.now c.args.start c.args.records.now c.loop-index.index c.loop-index.numbers c.loop-index.invariant c.index-records-index.result c.loop-index-test.true c.index-records-index.is yes_next)
