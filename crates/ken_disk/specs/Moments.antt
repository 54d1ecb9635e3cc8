-- What a crash may leave at the moments from one story of a disk to a later one.
use Rattle.std.specs.Prelude.{◌≡◌, ℕ, List, ◌∷◌, ◌++◌}
use Rattle.ken_disk.specs.Story.{DiskState, Story, IsImage}

-- the disk went on from one story to another
pub record WentOn (old new : Story) : Type 0 where
  pub steps : List DiskState
  pub grown : new.now ∷ new.past ≡ steps ++ old.now ∷ old.past

-- a crash at some moment from old to new, during a call or between two, may leave this image
pub record MayLeave (old new : Story) (image : List ℕ) : Type 0 where
  pub moment : Story
  pub since : WentOn old moment
  pub until : WentOn moment new
  pub is : IsImage moment.now image

-- whatever a crash at any moment from old to new leaves has P
pub record Through (P : List ℕ → Type 0) (old new : Story) : Type 0 where
  pub on : WentOn old new
  pub each : (image : List ℕ) → MayLeave old new image → P image
