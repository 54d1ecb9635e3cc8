use Rattle.std.proofs.Common.{All, refl, subst}
use Rattle.std.proofs.lemmas.List.{take_all}
use Rattle.std.proofs.lemmas.List.Elements.{All-more}
use Rattle.ken_core.specs.Enabled.{IsChanged}
use Rattle.ken_core.proofs.bytes.all_changed.Goals as goal

pub loop-page-preserved : goal.loop-page-preserved
loop-page-preserved c =
    let changed : IsChanged c.args.heap.now c.page-item.result = c.is_changed.ensures.0 c.if-not-is_changed.false in
    All-more (IsChanged c.args.heap.now) c.args.pages.now c.loop-page.page-index c.page-item.result c.loop-page-test.true c.loop-page.invariant
    (subst (IsChanged c.args.heap.now) c.page-item.is changed)

pub returns : goal.returns
returns c =
    let whole : All (IsChanged c.args.heap.now) c.args.pages.now = subst (All (IsChanged c.args.heap.now)) (take_all c.loop-page.page-index c.args.pages.now c.loop-page-test.false) c.loop-page.invariant in
    ((λ yes. whole), (λ all. refl))
