use Rattle.ken_ledger.proofs.Drawn.{ledger_is_decided}
use Rattle.ken_ledger.proofs.laws.ledger_is_decided.Goals as goal

pub returns : goal.returns
returns c = ledger_is_decided
