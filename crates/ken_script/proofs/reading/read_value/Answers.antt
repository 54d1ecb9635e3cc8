use Rattle.std.proofs.lemmas.Result.{IfOk-weaker}
use Rattle.serde_json.specs.View.{view}
use Rattle.ken_script.proofs.Within.{keeps_rules}
use Rattle.ken_script.proofs.reading.read_value.Goals as goal

pub returns-clause-keeps : goal.returns-clause-keeps
returns-clause-keeps c = IfOk-weaker c.script_in.result _ _ (λ s states. keeps_rules (view c.args.object.now) s states) c.script_in.ensures.ok
