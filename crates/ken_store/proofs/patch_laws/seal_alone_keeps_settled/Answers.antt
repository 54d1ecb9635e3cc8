use Rattle.ken_store.proofs.AheadLaws.{seal_alone_keeps_settled}
use Rattle.ken_store.proofs.patch_laws.seal_alone_keeps_settled.Goals as goal

pub returns : goal.returns
returns c = seal_alone_keeps_settled
