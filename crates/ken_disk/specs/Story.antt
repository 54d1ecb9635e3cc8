-- What a disk holds now, what a crash may leave of it, and all that it held before.
use Rattle.std.specs.Prelude.{◌≡◌, ℕ, ◌<◌, ◌≤◌, List, [], length, get_or, Option, Some, None}
use Rattle.ken_disk.specs.Bytes.{IsIn, furthest}

-- a disk between two calls
pub record DiskState : Type 0 where
  -- what a read gives
  pub seen : List ℕ
  -- what the last sync that answered Ok, or the last restart, made safe
  pub synced : List ℕ
  -- the start and length of each range written since then, newest first
  pub pending : List (ℕ × ℕ)
  -- how many syncs have answered Ok
  pub syncs : ℕ

-- a disk with no bytes
abbrev pub empty : DiskState
empty = record { seen = []; synced = []; pending = []; syncs = 0 }

-- what a crash may leave: any bytes in the ranges written since the last sync, the synced bytes elsewhere, and an end
-- anywhere from the synced one to the furthest written one
pub record IsImage (s : DiskState) (image : List ℕ) : Type 0 where
  pub no_shorter : length s.synced ≤ length image
  pub no_longer : length image ≤ furthest (length s.synced) s.pending
  pub same : (place : ℕ) → place < length s.synced → (IsIn place s.pending → ⊥) → get_or image place 0 ≡ get_or s.synced place 0

-- whatever a crash leaves has P
abbrev pub Leaves : (List ℕ → Type 0) → DiskState → Type 0
Leaves P s = (image : List ℕ) → IsImage s image → P image

-- nothing is pending, though there may have been writes of no bytes
pub record IsAtRest (s : DiskState) : Type 0 where
  pub safe : s.synced ≡ s.seen
  pub none : (place : ℕ) → IsIn place s.pending → ⊥
  pub within : furthest (length s.synced) s.pending ≤ length s.synced

-- a disk now, and all that it was before, newest first
pub record Story : Type 0 where
  pub now : DiskState
  pub past : List DiskState

-- a disk that was always empty
abbrev pub blank : Story
blank = record { now = empty; past = [] }

-- P holds of what is told, where it is told
abbrev pub Tells : {X : Type 0} → Option X → (X → Type 0) → Type 0
Tells {X} told P = (x : X) → told ≡ Some x → P x

-- where something was told, it is told still, and R holds of the old and the new; where nothing was told, nothing is
abbrev pub Follows : {X : Type 0} → (X → X → Type 0) → Option X → Option X → Type 0
Follows {X} R (Some old) told = (new : X) × (told ≡ Some new) × R old new
Follows R None told = told ≡ None
