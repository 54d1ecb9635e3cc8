use Rattle.ken_store.proofs.AheadLaws.{start_is_ahead}
use Rattle.ken_store.proofs.patch_laws.start_is_ahead.Goals as goal

pub returns : goal.returns
returns c = start_is_ahead
