-- The script of a service, and why a text says none.
use Rattle.std.proofs.Common.{sym, subst}
use Rattle.std.proofs.lemmas.Result.{IfErr-weaker, err_from_is_err_and}
use Rattle.serde_json.specs.View.{view}
use Rattle.ken_script.specs.Faults.{IsFaultIn}
use Rattle.ken_script.proofs.Objects.{foreign_of_text, service_fault_of_none, service_fault_of_text}
use Rattle.ken_script.proofs.service.read_service.Goals as goal

pub returns-in_err-object-clause-breaks : goal.returns-in_err-object-clause-breaks
returns-in_err-object-clause-breaks c =
    let p = err_from_is_err_and c.from_residual.result c.from_residual.ensures.1 in
    rw (p.1, p.2) (service_fault_of_none c.args.bytes.now c.in_err-object.field-0.0 c.in_err-object.ensures.err)

pub returns-in-Some-clause-breaks : goal.returns-in-Some-clause-breaks
returns-in-Some-clause-breaks c =
    rw c.at.ensures (foreign_of_text c.args.bytes.now (view c.in_ok-object.object) c.in-Some.place c.in_ok-object.ensures.ok (sym c.in-Some.ensures))

pub returns-clause-breaks : goal.returns-clause-breaks
returns-clause-breaks c =
    let d = view c.in_ok-object.object in
    IfErr-weaker c.read_value.result _ _ (λ fault e. service_fault_of_text c.args.bytes.now d fault c.in_ok-object.ensures.ok (sym c.in_default.ensures) (subst (λ x. IsFaultIn x fault) c.in_ok-object-2.ensures e)) c.read_value.ensures.breaks
