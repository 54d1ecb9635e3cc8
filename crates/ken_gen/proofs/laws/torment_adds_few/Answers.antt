use Rattle.ken_gen.proofs.Tormented.{adds_few}
use Rattle.ken_gen.proofs.laws.torment_adds_few.Goals as goal

pub returns : goal.returns
returns c = adds_few
