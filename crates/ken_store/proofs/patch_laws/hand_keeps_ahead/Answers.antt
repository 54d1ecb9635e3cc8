use Rattle.ken_store.proofs.AheadLaws.{hand_keeps_ahead}
use Rattle.ken_store.proofs.patch_laws.hand_keeps_ahead.Goals as goal

pub returns : goal.returns
returns c = hand_keeps_ahead
