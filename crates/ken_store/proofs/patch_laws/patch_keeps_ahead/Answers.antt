use Rattle.ken_store.proofs.AheadLaws.{patch_keeps_ahead}
use Rattle.ken_store.proofs.patch_laws.patch_keeps_ahead.Goals as goal

pub returns : goal.returns
returns c = patch_keeps_ahead
