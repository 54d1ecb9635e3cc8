use Rattle.std.proofs.Common.{sym, ◌∙◌, eqb-true}
use Rattle.std.proofs.lemmas.Slice.Eq.{bytes_eq-Decides}
use Rattle.ken_check.proofs.Wording.{same_line}
use Rattle.ken_check.proofs.checker.is_line.Goals as goal

pub returns-then-last-eq10 : goal.returns-then-last-eq10
returns-then-last-eq10 c =
    let parts = c.in-Some.ensures.cases.0 in
    let last = c.if-last-eq10.true in
    let front = bytes_eq-Decides c.in-Some.front.now c.args.text.now in
    (λ is. (let same = front.0 (sym c.eq.ensures ∙ is) in cc), λ is. c.eq.ensures ∙ front.1 (same_line _ _ _ _ parts is).0)

pub returns-else-last-eq10 : goal.returns-else-last-eq10
returns-else-last-eq10 c =
    let parts = c.in-Some.ensures.cases.0 in
    (λ is. absurd (c.if-last-eq10.false (eqb-true c.in-Some.last.now 10 is)), λ is. absurd (c.if-last-eq10.false (same_line _ _ _ _ parts is).1))
