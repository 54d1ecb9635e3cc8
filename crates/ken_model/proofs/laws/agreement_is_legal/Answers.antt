use Rattle.ken_model.proofs.Agreement.{agreement_is_legal}
use Rattle.ken_model.proofs.laws.agreement_is_legal.Goals as goal

pub returns : goal.returns
returns c = agreement_is_legal
