use Rattle.ken_store.proofs.AheadLaws.{hand_keeps_settled}
use Rattle.ken_store.proofs.patch_laws.hand_keeps_settled.Goals as goal

pub returns : goal.returns
returns c = hand_keeps_settled
