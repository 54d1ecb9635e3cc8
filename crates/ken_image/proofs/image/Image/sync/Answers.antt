use Rattle.std.proofs.Common.{[], ◌∷◌}
use Rattle.ken_disk.specs.Story.{IsImage}
use Rattle.ken_image.specs.Calls.{Sync}
use Rattle.ken_image.proofs.Kept.{images-made_safe}
use Rattle.ken_image.proofs.Called.{synced, through_sync, told_fault}
use Rattle.ken_image.proofs.image.Image.sync.Goals as goal

pub returns-in-Err-clause-calls : goal.returns-in-Err-clause-calls
returns-in-Err-clause-calls g c =
    rw (c.failed.ensures.fault, c.failed.ensures.disk) (told_fault (Sync ∷ []) (Unit {0}) (Unit {0}) _ _ _ _ c.in-Err.is (synced _ _ _ c.sync.ensures.story))

pub returns-in-Err-clause-any_moment : goal.returns-in-Err-clause-any_moment
returns-in-Err-clause-any_moment g c =
    rw c.failed.ensures.disk (through_sync (λ h. IsImage h.now) _ _ _ c.sync.ensures.story (λ h told image is. is) (λ h told. images-made_safe h.now (c.requires.stands.keeps h told).seen))

pub returns-in-Ok-clause-any_moment : goal.returns-in-Ok-clause-any_moment
returns-in-Ok-clause-any_moment g c =
    through_sync (λ h. IsImage h.now) _ _ _ c.sync.ensures.story (λ h told image is. is) (λ h told. images-made_safe h.now (c.requires.stands.keeps h told).seen)
