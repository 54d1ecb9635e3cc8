use Rattle.std.proofs.lemmas.Result.{err_from_is_err_and}
use Rattle.ken_log.proofs.Formatted.{begin_stops, begin_goes_on}
use Rattle.ken_log.proofs.beginning.begin.Goals as goal

pub returns-in_err-close_first_gate-clause-calls : goal.returns-in_err-close_first_gate-clause-calls
returns-in_err-close_first_gate-clause-calls g c =
    let p = err_from_is_err_and c.from_residual.result c.from_residual.ensures.1 in
    rw (p.1, p.2) (begin_stops c.args.body.now (Unit {0}) _ _ _ c.in_err-close_first_gate.ensures.calls)

pub returns-clause-calls : goal.returns-clause-calls
returns-clause-calls g c =
    begin_goes_on c.args.body.now c.in_ok-close_first_gate.field-0 _ _ _ _ c.in_ok-close_first_gate.ensures.calls c.open_gate.ensures.calls
