use Rattle.ken_leases.proofs.Terms.{leases_never_overlap}
use Rattle.ken_leases.proofs.laws.leases_never_overlap.Goals as goal

pub returns : goal.returns
returns c = leases_never_overlap
