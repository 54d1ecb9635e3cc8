use Rattle.std.proofs.Common.{[], ◌∷◌, arith}
use Rattle.std.proofs.lemmas.Result.{err_from_is_err_and}
use Rattle.ken_log.proofs.Formatted.{closes_not, closes_by, closing_none, closing_some}
use Rattle.ken_log.proofs.beginning.close_first_gate.Goals as goal

pub returns-in_err-first_gate_is_closed-clause-calls : goal.returns-in_err-first_gate_is_closed-clause-calls
returns-in_err-first_gate_is_closed-clause-calls g c =
    let p = err_from_is_err_and c.from_residual.result c.from_residual.ensures.1 in
    rw (p.1, p.2) (closes_not (Unit {0}) _ _ _ c.first_gate_is_closed.ensures.story)

pub returns-then-branch-clause-calls : goal.returns-then-branch-clause-calls
returns-then-branch-clause-calls g c =
    closes_by [] _ _ _ _ c.first_gate_is_closed.ensures.story (λ h told.
    let size = g.met.D.Disk.sized _ h told in
    let there = c.in_ok-first_gate_is_closed.ensures.there c.if-branch.true in
    closing_none h.now.seen (omega (arith, size, there)) (c.in_ok-first_gate_is_closed.ensures.closed c.if-branch.true h told))
    c.write_through.ensures.calls

pub returns-else-branch-clause-calls : goal.returns-else-branch-clause-calls
returns-else-branch-clause-calls g c =
    closes_by (0 ∷ []) _ _ _ _ c.first_gate_is_closed.ensures.story (λ h told. closing_some h.now.seen (c.in_ok-first_gate_is_closed.ensures.open c.if-branch.false h told))
    c.write_through-else-branch.ensures.calls
