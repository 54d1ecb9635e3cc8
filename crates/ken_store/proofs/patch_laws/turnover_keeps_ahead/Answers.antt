use Rattle.ken_store.proofs.AheadLaws.{turnover_keeps_ahead}
use Rattle.ken_store.proofs.patch_laws.turnover_keeps_ahead.Goals as goal

pub returns : goal.returns
returns c = turnover_keeps_ahead
