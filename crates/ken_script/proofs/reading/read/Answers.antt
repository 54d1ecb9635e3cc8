use Rattle.std.proofs.lemmas.Result.{IfErr-weaker, err_from_is_err_and}
use Rattle.serde_json.specs.View.{view}
use Rattle.ken_script.proofs.Objects.{fault_of_none, fault_of_text}
use Rattle.ken_script.proofs.reading.read.Goals as goal

pub returns-in_err-object-clause-breaks : goal.returns-in_err-object-clause-breaks
returns-in_err-object-clause-breaks c =
    let p = err_from_is_err_and c.from_residual.result c.from_residual.ensures.1 in
    rw (p.1, p.2) (fault_of_none c.args.bytes.now c.in_err-object.field-0.0 c.in_err-object.ensures.err)

pub returns-clause-breaks : goal.returns-clause-breaks
returns-clause-breaks c =
    let d = view c.in_ok-object.object in
    IfErr-weaker c.read_value.result _ _ (λ fault e. fault_of_text c.args.bytes.now d fault c.in_ok-object.ensures.ok e) c.read_value.ensures.breaks
