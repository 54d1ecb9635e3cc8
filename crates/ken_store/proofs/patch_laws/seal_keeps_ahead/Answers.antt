use Rattle.ken_store.proofs.AheadLaws.{seal_keeps_ahead}
use Rattle.ken_store.proofs.patch_laws.seal_keeps_ahead.Goals as goal

pub returns : goal.returns
returns c = seal_keeps_ahead
