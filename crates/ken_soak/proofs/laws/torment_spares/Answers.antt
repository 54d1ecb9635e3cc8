use Rattle.ken_soak.proofs.Tormented.{spares}
use Rattle.ken_soak.proofs.laws.torment_spares.Goals as goal

pub returns : goal.returns
returns c = spares c.torment_adds_few.ensures
