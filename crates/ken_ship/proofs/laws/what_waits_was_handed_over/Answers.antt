use Rattle.ken_ship.proofs.Waits.{numbers_rise, numbers_were_told, waited_before, was_handed_over}
use Rattle.ken_ship.proofs.laws.what_waits_was_handed_over.Goals as goal

pub returns-clause-rise : goal.returns-clause-rise
returns-clause-rise c = numbers_rise

pub returns-clause-told : goal.returns-clause-told
returns-clause-told c = numbers_were_told

pub returns-clause-before : goal.returns-clause-before
returns-clause-before c = waited_before

pub returns-clause-handed : goal.returns-clause-handed
returns-clause-handed c = was_handed_over
