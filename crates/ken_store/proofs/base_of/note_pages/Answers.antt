use Rattle.std.proofs.Common.{◌≡◌, ◌<◌, length, get_or, ap, sym, ◌∙◌, arith}
use Rattle.std.proofs.lemmas.List.Elements.{All-from_recursion}
use Rattle.ken_record.specs.declared.page.Page.{Page}
use Rattle.ken_cover.specs.declared.layers.Change.{Change}
use Rattle.ken_cover.specs.Sides.{changes_at}
use Rattle.ken_store.proofs.Lasts.{noted_more, change_at, length-changes_at}
use Rattle.ken_store.proofs.base_of.note_pages.Goals as goal

pub loop-page-preserved : goal.loop-page-preserved
loop-page-preserved c = λ p.
    let e : Page = c.page-item.result in
    let x : Change = record { turn = c.args.turn; page = e } in
    let at = All-from_recursion (λ (q : Page). q.page < length c.args.last.now) c.args.pages.now c.requires c.loop-page.page-index e c.loop-page-test.true in
    let same = ap (λ (q : Page). q.page) c.page-item.is in
    let long = c.loop-page.auto.last in
    let here : x ≡ get_or (changes_at c.args.turn c.args.pages.now) c.loop-page.page-index x = ap (λ (q : Page). let r : Change = record { turn = c.args.turn; page = q } in r) c.page-item.is ∙ sym (change_at c.args.turn c.args.pages.now c.loop-page.page-index e x c.loop-page-test.true) in
    rw c.number.ensures (noted_more p c.loop-page.last _ (changes_at c.args.turn c.args.pages.now) c.loop-page.page-index x (omega (arith, length-changes_at c.args.turn c.args.pages.now, c.loop-page-test.true)) here (omega (arith, at, same, long)) (c.loop-page.invariant p))
