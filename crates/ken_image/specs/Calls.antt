-- Calls that change a disk, one after the other and none after an error: what the answer says of the disk's story.
use Rattle.std.specs.Prelude.{◌≡◌, ℕ, List, [], ◌∷◌, ◌++◌, Result, Ok, Err}
use Rattle.ken_disk.specs.declared.faults.DiskFault.{DiskFault}
use Rattle.ken_disk.specs.declared.faults.DiskFault.TheVariants.{Failed, Memory}
use Rattle.ken_disk.specs.Story.{Story}
use Rattle.ken_disk.specs.Steps.{after_writing, after_syncing}

pub data Call : Type 0 where
  -- bytes are written from a place on
  Write : ℕ → List ℕ → Call
  Sync : Call

-- a call that answered Ok
abbrev pub after_call : Call → Story → Story
after_call (Write at bytes) h = after_writing at bytes h
after_call Sync h = after_syncing h

-- one that failed: a write counts as written, and a sync made nothing safe
abbrev pub after_failure : Call → Story → Story
after_failure (Write at bytes) h = after_writing at bytes h
after_failure Sync h = h

-- all of these answered Ok
abbrev pub after_calls : List Call → Story → Story
after_calls [] h = h
after_calls (call ∷ calls) h = after_calls calls (after_call call h)

-- some of the calls came through, and then one didn't
pub record Stop (calls : List Call) : Type 0 where
  pub done : List Call
  pub next : Call
  pub left : List Call
  pub parts : calls ≡ done ++ next ∷ left

-- after Ok all came through. After Failed and after Memory a front of them did, and then one failed, or did nothing for want
-- of memory
abbrev pub Called : {T : Type 0} → Result T DiskFault → List Call → Story → Story → Type 0
Called (Ok _) calls old new = new ≡ after_calls calls old
Called (Err Failed) calls old new = (stop : Stop calls) × (new ≡ after_failure stop.next (after_calls stop.done old))
Called (Err Memory) calls old new = (stop : Stop calls) × (new ≡ after_calls stop.done old)
