use Rattle.ken_ship.proofs.Dues.{sends_are_events, some_sends_are_events}
use Rattle.ken_ship.proofs.laws.sends_are_events.Goals as goal

pub returns-clause-all : goal.returns-clause-all
returns-clause-all c = sends_are_events

pub returns-clause-some : goal.returns-clause-some
returns-clause-some c = some_sends_are_events
