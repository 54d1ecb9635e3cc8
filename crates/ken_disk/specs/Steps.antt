-- What each call of a disk makes of it.
use Rattle.std.specs.Prelude.{◌≡◌, ℕ, ◌+◌, max, List, [], ◌∷◌, length, Option, Some, None, Result, Ok, Err}
use Rattle.ken_disk.specs.declared.faults.DiskFault.{DiskFault}
use Rattle.ken_disk.specs.declared.faults.DiskFault.TheVariants.{Failed, Memory}
use Rattle.ken_disk.specs.Bytes.{IsBytes, overwrite}
use Rattle.ken_disk.specs.Story.{DiskState, Story, IsImage}

-- bytes are written
abbrev pub written : ℕ → List ℕ → DiskState → DiskState
written at bytes s = record s { seen = overwrite at bytes s.seen; pending = (at, length bytes) ∷ s.pending }

-- all that a read gives is safe
abbrev pub made_safe : DiskState → DiskState
made_safe s = record s { synced = s.seen; pending = []; syncs = s.syncs + 1 }

-- a crash left this image
abbrev pub restarted : List ℕ → DiskState → DiskState
restarted image s = record s { seen = image; synced = image; pending = [] }

-- the story goes on
abbrev pub goes_to : DiskState → Story → Story
goes_to s h = record { now = s; past = h.now ∷ h.past }

abbrev pub after_writing : ℕ → List ℕ → Story → Story
after_writing at bytes h = goes_to (written at bytes h.now) h

abbrev pub after_syncing : Story → Story
after_syncing h = goes_to (made_safe h.now) h

-- the story as told, after a step
abbrev pub went : (Story → Story) → Option Story → Option Story
went f (Some h) = Some (f h)
went f None = None

-- after a write; one that fails counts as written, and one that wants memory wrote nothing
abbrev pub after_write : {T : Type 0} → ℕ → List ℕ → Result T DiskFault → Story → Story
after_write at bytes (Ok _) h = after_writing at bytes h
after_write at bytes (Err Failed) h = after_writing at bytes h
after_write at bytes (Err Memory) h = h

-- after a sync; one that doesn't answer Ok makes nothing safe
abbrev pub after_sync : {T : Type 0} → Result T DiskFault → Story → Story
after_sync (Ok _) h = after_syncing h
after_sync (Err _) h = h

-- the disk came up with one of its possible images, and nothing is pending
pub record WentDown (old new : Story) : Type 0 where
  pub image : List ℕ
  pub is : IsImage old.now image
  pub bytes : IsBytes image
  pub left : new ≡ goes_to (restarted image old.now) old

-- how long the disk is after a write; of one that failed nothing is said
abbrev pub SizeAfter : {T : Type 0} → ℕ → ℕ → Result T DiskFault → ℕ → ℕ → Type 0
SizeAfter at n (Ok _) old new = new ≡ max old (at + n)
SizeAfter at n (Err Memory) old new = new ≡ old
SizeAfter at n (Err Failed) old new = Unit {0}
