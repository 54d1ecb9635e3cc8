use Rattle.std.proofs.Common.{◌<◌, length, ap, arith}
use Rattle.std.proofs.lemmas.List.Elements.{All-from_recursion}
use Rattle.ken_cover.specs.declared.layers.Change.{Change}
use Rattle.ken_core.proofs.Lasts.{noted_more}
use Rattle.ken_core.proofs.bases.note_turns.Goals as goal

pub loop-change-preserved : goal.loop-change-preserved
loop-change-preserved c = λ p.
    let at = All-from_recursion (λ (x : Change). x.page.page < length c.args.last.now) c.args.changes.now c.requires c.loop-change.change-index c.change-item.result c.loop-change-test.true in
    let same = ap (λ (x : Change). x.page.page) c.change-item.is in
    let long = c.loop-change.auto.last in
    noted_more p c.loop-change.last _ c.args.changes.now c.loop-change.change-index c.change-item.result c.loop-change-test.true c.change-item.is (omega arith) (c.loop-change.invariant p)
