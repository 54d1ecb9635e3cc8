use Rattle.ken_leases.proofs.Decided.{leases_are_decided}
use Rattle.ken_leases.proofs.laws.leases_are_decided.Goals as goal

pub returns : goal.returns
returns c = leases_are_decided
