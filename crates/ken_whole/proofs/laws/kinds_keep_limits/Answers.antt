use Rattle.ken_whole.proofs.ShortKinds.{kinds_keep_limits}
use Rattle.ken_whole.proofs.laws.kinds_keep_limits.Goals as goal

pub returns : goal.returns
returns c = kinds_keep_limits
