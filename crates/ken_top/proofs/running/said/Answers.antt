use Rattle.std.proofs.lemmas.Result.{err_from_is_err_and}
use Rattle.ken_top.proofs.Reported.{script_by, unsaid_by}
use Rattle.ken_top.proofs.running.said.Goals as goal

pub returns-in_err-plain-clause-unsaid : goal.returns-in_err-plain-clause-unsaid
returns-in_err-plain-clause-unsaid g c =
    let p = err_from_is_err_and c.from_residual-in_err-plain.result c.from_residual-in_err-plain.ensures.1 in
    rw (p.1, p.2) (unsaid_by c.args.seed (g.C.Cast.program c.args.cast.now) (g.S.Source.left c.args.source.now) c.in_ok-bytes.bytes c.in_err-plain.field-0.0 c.in_ok-bytes.ensures.bytes (rw c.as_slice.ensures at c.in_err-plain.ensures.breaks))

pub returns-clause-said : goal.returns-clause-said
returns-clause-said g c = script_by c.args.seed (g.C.Cast.program c.args.cast.now) (g.S.Source.left c.args.source.now) c.in_ok-bytes.bytes c.in_ok-plain.plain c.in_ok-script.script c.in_ok-bytes.ensures.bytes (rw c.as_slice.ensures at c.in_ok-plain.ensures.says) c.in_ok-script.ensures.drawn
