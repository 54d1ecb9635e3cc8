use Rattle.std.proofs.Common.{◌≡◌, ◌∙◌, ◌<◌, ◌++◌, List, length, get_or, take, sym, ap, subst}
use Rattle.std.specs.List.{flat_map}
use Rattle.std.proofs.lemmas.List.{get_or-map, length-map, take-map}
use Rattle.std.proofs.lemmas.Result.{err_from_is_err_and}
use Rattle.ken_record.specs.declared.page.Page.{Page}
use Rattle.ken_record.specs.Spelling.{page}
use Rattle.ken_record.specs.Turns.{as_page, turn_pages}
use Rattle.ken_record.proofs.Appended.{front_item}
use Rattle.ken_record.proofs.turn.put_each.Goals as goal

pub returns-in_err-put_page-clause-err : goal.returns-in_err-put_page-clause-err
returns-in_err-put_page-clause-err c =
    let p = err_from_is_err_and c.from_residual.result c.from_residual.ensures.1 in
    let es = c.args.pages.now in
    let i = c.loop-number.number-index in
    let e = c.loop-number-item.result in
    let x : Page = as_page e in
    let within : i < length (turn_pages es) = subst (λ n. i < n) (sym (length-map es as_page)) c.loop-number-test.true in
    let is : x ≡ get_or (turn_pages es) i x = ap as_page c.loop-number-item.is ∙ sym (get_or-map as_page es i e x c.loop-number-test.true) in
    let so : c.loop-number.out.items ≡ c.args.out.now.items ++ flat_map page (take i (turn_pages es)) = c.loop-number.invariant ∙ ap (λ (l : List Page). c.args.out.now.items ++ flat_map page l) (sym (take-map as_page i es)) in
    let spelled = rw (c.as_slice.ensures.same, c.deref.ensures) at c.in_err-put_page.ensures.err in
    rw p.1 (front_item page (turn_pages es) i x c.args.out.now.items c.loop-number.out.items c.put_page.new.out.items within is so spelled)
