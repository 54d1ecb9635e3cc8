use Rattle.std.proofs.Common.{◌≡◌, ◌∙◌, sym}
use Rattle.std.proofs.lemmas.Result.{err_from_is_err_and}
use Rattle.ken_record.specs.declared.faults.RecordFault.TheVariants.{Bad}
use Rattle.ken_store.proofs.Reading.{found_front, wrong_front}
use Rattle.ken_store.proofs.heads.header_front.Goals as goal

pub returns-in_err-item-clause-bad : goal.returns-in_err-item-clause-bad
returns-in_err-item-clause-bad c = λ bad.
    let p = err_from_is_err_and c.from_residual.result c.from_residual.ensures.1 in
    let same : p.0 ≡ Bad = cc (p.1, bad) in
    wrong_front c.args.bytes.now c.in_err-item.field-0.0 c.in_err-item.ensures.exact (sym p.2 ∙ same)

pub returns-in-Header-clause-found : goal.returns-in-Header-clause-found
returns-in-Header-clause-found c = found_front c.args.bytes.now c.in-Header.header _ (rw c.in-Header.is at c.in_ok-item.ensures.exact)
