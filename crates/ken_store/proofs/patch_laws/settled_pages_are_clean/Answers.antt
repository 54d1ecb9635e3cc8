use Rattle.ken_store.proofs.PatchLaws.{settled_clean}
use Rattle.ken_store.proofs.patch_laws.settled_pages_are_clean.Goals as goal

pub returns : goal.returns
returns c = settled_clean
