use Rattle.std.proofs.Common.{refl}
use Rattle.ken_apps.proofs.pairs.delete.Goals as goal

pub free-requires-clause-block : goal.free-requires-clause-block
free-requires-clause-block c = rw c.in-Some.ensures.pair.stands refl
