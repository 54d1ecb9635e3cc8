use Rattle.ken_ship.proofs.Emissions.{emission_is_event}
use Rattle.ken_ship.proofs.laws.an_emission_is_an_event.Goals as goal

pub returns : goal.returns
returns c = emission_is_event
