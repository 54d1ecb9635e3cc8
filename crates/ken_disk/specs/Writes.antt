-- Writes, each with its sync, one after the other and none after an error: what the answer says of the disk's story.
use Rattle.std.specs.Prelude.{◌≡◌, ℕ, List, [], ◌∷◌, ◌++◌, Result, Ok, Err}
use Rattle.ken_disk.specs.declared.faults.DiskFault.{DiskFault}
use Rattle.ken_disk.specs.declared.faults.DiskFault.TheVariants.{Failed, Memory}
use Rattle.ken_disk.specs.Story.{Story}
use Rattle.ken_disk.specs.Steps.{after_writing, after_syncing}

-- each is a place and the bytes from there on; all of them, and their syncs, answered Ok
abbrev pub after_writes : List (ℕ × List ℕ) → Story → Story
after_writes [] h = h
after_writes (write ∷ writes) h = after_writes writes (after_syncing (after_writing write.0 write.1 h))

-- some of the writes came through, and then one didn't
pub record Front (writes : List (ℕ × List ℕ)) : Type 0 where
  pub done : List (ℕ × List ℕ)
  pub next : ℕ × List ℕ
  pub left : List (ℕ × List ℕ)
  pub parts : writes ≡ done ++ next ∷ left

-- after Ok all came through. After Failed and after Memory a front of them did; of the next one the write or its sync
-- failed, so that it counts as written, or nothing was written for want of memory
abbrev pub Made : {T : Type 0} → Result T DiskFault → List (ℕ × List ℕ) → Story → Story → Type 0
Made (Ok _) writes old new = new ≡ after_writes writes old
Made (Err Failed) writes old new = (front : Front writes) × (new ≡ after_writing front.next.0 front.next.1 (after_writes front.done old))
Made (Err Memory) writes old new = (front : Front writes) × (new ≡ after_writes front.done old)
