use Rattle.ken_ship.proofs.Acks.{acks_are_events, all_are_taken}
use Rattle.ken_ship.proofs.laws.acks_are_events.Goals as goal

pub returns-clause-taken : goal.returns-clause-taken
returns-clause-taken c = acks_are_events

pub returns-clause-all : goal.returns-clause-all
returns-clause-all c = all_are_taken
