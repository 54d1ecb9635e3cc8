use Rattle.ken_core.proofs.History.{history_is_legal}
use Rattle.ken_core.proofs.laws.history_is_legal.Goals as goal

pub returns : goal.returns
returns c = history_is_legal c.agreement_is_legal.ensures
