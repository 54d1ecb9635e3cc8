use Rattle.ken_ledger.proofs.Payments.{no_payment_is_lost}
use Rattle.ken_ledger.proofs.laws.no_payment_is_lost.Goals as goal

pub returns : goal.returns
returns c = no_payment_is_lost
