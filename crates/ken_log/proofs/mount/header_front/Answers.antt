use Rattle.std.proofs.lemmas.Result.{err_from_is_err_and}
use Rattle.ken_log.proofs.Taken.{header_fails}
use Rattle.ken_log.proofs.mount.header_front.Goals as goal

pub returns-in_err-item-clause-bad : goal.returns-in_err-item-clause-bad
returns-in_err-item-clause-bad c =
    let p = err_from_is_err_and c.from_residual.result c.from_residual.ensures.1 in
    rw (p.1, p.2) (header_fails c.args.bytes.now c.in_err-item.field-0.0 c.in_err-item.ensures.exact)
