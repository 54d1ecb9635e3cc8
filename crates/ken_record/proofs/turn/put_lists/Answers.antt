use Rattle.std.proofs.lemmas.Result.{err_from_is_err_and, on_err_weaker}
use Rattle.ken_record.proofs.Appended.{front_first, front_then}
use Rattle.ken_record.proofs.turn.put_lists.Goals as goal

pub returns-in_err-put_few-3-clause-err : goal.returns-in_err-put_few-3-clause-err
returns-in_err-put_few-3-clause-err c =
    let p = err_from_is_err_and c.from_residual-in_err-put_few-3.result c.from_residual-in_err-put_few-3.ensures.1 in
    let draws = rw c.as_slice.ensures at c.in_ok-put_few.ensures.ok in
    let sends = rw c.as_slice-2.ensures at c.in_ok-put_few-2.ensures.ok in
    let outs = rw c.as_slice-3.ensures at c.in_err-put_few-3.ensures.err in
    rw p.1 (front_then _ _ _ _ _ draws (front_then _ _ _ _ _ sends (front_first _ _ _ _ outs)))

pub returns-clause-err : goal.returns-clause-err
returns-clause-err c =
    let draws = rw c.as_slice.ensures at c.in_ok-put_few.ensures.ok in
    let sends = rw c.as_slice-2.ensures at c.in_ok-put_few-2.ensures.ok in
    let outs = rw c.as_slice-3.ensures at c.in_ok-put_few-3.ensures.ok in
    on_err_weaker c.put_pages.result (λ h. front_then _ _ _ _ _ draws (front_then _ _ _ _ _ sends (front_then _ _ _ _ _ outs h))) c.put_pages.ensures.err
