use Rattle.ken_beside.proofs.Calm.{calm_emits_in_order}
use Rattle.ken_beside.proofs.laws.calm_events_emit_in_order.Goals as goal

pub returns : goal.returns
returns g c = calm_emits_in_order g.T.Taking.takes
