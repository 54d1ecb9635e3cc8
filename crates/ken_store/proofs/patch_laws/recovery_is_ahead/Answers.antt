use Rattle.ken_store.proofs.AheadLaws.{recovery_is_ahead}
use Rattle.ken_store.proofs.patch_laws.recovery_is_ahead.Goals as goal

pub returns : goal.returns
returns c = recovery_is_ahead
