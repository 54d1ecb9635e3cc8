use Rattle.std.proofs.lemmas.List.{length-map}
use Rattle.std.proofs.lemmas.Result.{err_from_is_err_and, on_err_weaker}
use Rattle.ken_record.specs.Turns.{as_page}
use Rattle.ken_record.proofs.Appended.{front_first, front_then}
use Rattle.ken_record.proofs.turn.put_pages.Goals as goal

pub returns-in_err-put_2-clause-err : goal.returns-in_err-put_2-clause-err
returns-in_err-put_2-clause-err c =
    let p = err_from_is_err_and c.from_residual.result c.from_residual.ensures.1 in
    rw (p.1, length-map c.args.pages.now as_page) (front_first _ _ _ _ c.in_err-put_2.ensures.err)

pub returns-clause-err : goal.returns-clause-err
returns-clause-err c =
    rw (length-map c.args.pages.now as_page) (on_err_weaker c.put_each.result (λ h. front_then _ _ _ _ _ c.in_ok-put_2.ensures.ok h) c.put_each.ensures.err)
