use Rattle.ken_app.proofs.Within.{limited_keeps_limits}
use Rattle.ken_app.proofs.service.limited_keeps_limits.Goals as goal

pub returns : goal.returns
returns c = limited_keeps_limits
