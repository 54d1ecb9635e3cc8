use Rattle.ken_wire.proofs.Counted.{all_put}
use Rattle.ken_wire.proofs.laws.no_loss_is_uncounted.Goals as goal

pub returns : goal.returns
returns c = all_put
