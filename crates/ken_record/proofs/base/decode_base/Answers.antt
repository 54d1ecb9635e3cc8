use Rattle.std.proofs.Common.{ℕ, List, Some, sym, ap, ◌∙◌, arith}
use Rattle.std.proofs.lemmas.Result.{err_from_is_err_and}
use Rattle.ken_record.specs.Versions.{One}
use Rattle.ken_record.proofs.Fronts.{base_taken, base_missed}
use Rattle.ken_record.proofs.base.decode_base.Goals as goal

pub returns-in_err-base-clause-bad : goal.returns-in_err-base-clause-bad
returns-in_err-base-clause-bad c = λ bad base rest is long parts.
    let p = err_from_is_err_and c.from_residual.result c.from_residual.ensures.1 in
    base_missed One c.in_err-base.field-0.0 c.args.len c.args.bytes.now base rest c.in_err-base.ensures (cc (p.1, p.2, bad)) is long parts

pub returns-clause-fits : goal.returns-clause-fits
returns-clause-fits c =
    (base_taken One c.args.len c.args.bytes.now c.in_ok-base.base _ (λ i. omega (arith, c.type_inv.bytes i)) c.in_ok-base.ensures).fits

pub returns-clause-found : goal.returns-clause-found
returns-clause-found c =
    (base_taken One c.args.len c.args.bytes.now c.in_ok-base.base _ (λ i. omega (arith, c.type_inv.bytes i)) c.in_ok-base.ensures).parts

pub returns-clause-length : goal.returns-clause-length
returns-clause-length c =
    (base_taken One c.args.len c.args.bytes.now c.in_ok-base.base _ (λ i. omega (arith, c.type_inv.bytes i)) c.in_ok-base.ensures).long

pub returns-clause-exact : goal.returns-clause-exact
returns-clause-exact c =
    let all = base_taken One c.args.len c.args.bytes.now c.in_ok-base.base _ (λ i. omega (arith, c.type_inv.bytes i)) c.in_ok-base.ensures in
    c.in_ok-base.ensures ∙ ap (λ (rest : List ℕ). Some (c.in_ok-base.base, rest)) (sym all.rest_is)
