use Rattle.std.proofs.Common.{◌+◌, [], ◌∷◌}
use Rattle.std.proofs.lemmas.Result.{err_from_is_err_and}
use Rattle.ken_disk.proofs.Made.{told_more, told_no_more}
use Rattle.ken_log.proofs.opening.open_gate.Goals as goal

pub returns-in_err-write_through-clause-calls : goal.returns-in_err-write_through-clause-calls
returns-in_err-write_through-clause-calls g c =
    let p = err_from_is_err_and c.from_residual.result c.from_residual.ensures.1 in
    rw (p.1, p.2) (told_no_more ((c.args.at + 1, c.args.body.now) ∷ []) ((c.args.at, 165 ∷ []) ∷ []) (Unit {0}) (Unit {0}) _ _ _ c.in_err-write_through.ensures.calls)

pub returns-clause-calls : goal.returns-clause-calls
returns-clause-calls g c =
    told_more ((c.args.at + 1, c.args.body.now) ∷ []) ((c.args.at, 165 ∷ []) ∷ []) _ _ _ c.in_ok-write_through.field-0 _ c.in_ok-write_through.ensures.calls c.write_through-2.ensures.calls
