use Rattle.ken_store.proofs.AheadLaws.{sync_keeps_settled}
use Rattle.ken_store.proofs.patch_laws.sync_keeps_settled.Goals as goal

pub returns : goal.returns
returns c = sync_keeps_settled
