use Rattle.ken_ship.proofs.Emissions.{nothing_is_due_first, others_keep_due, handed_over_is_due}
use Rattle.ken_ship.proofs.Resumed.{resumed_is_due}
use Rattle.ken_ship.proofs.laws.what_is_handed_over_is_due.Goals as goal

pub returns-clause-first : goal.returns-clause-first
returns-clause-first c = nothing_is_due_first

pub returns-clause-others : goal.returns-clause-others
returns-clause-others c = others_keep_due

pub returns-clause-more : goal.returns-clause-more
returns-clause-more c = handed_over_is_due

pub returns-clause-resumed : goal.returns-clause-resumed
returns-clause-resumed c = resumed_is_due
