-- A log takes the place of what a disk held: by a format, or by a turnover.
use Rattle.std.specs.Prelude.{◌≡◌, ℕ, ◌+◌, ◌⊎◌, List, length, Result, Ok, Err, OnOk, IsErrOf}
use Rattle.ken_disk.specs.Story.{DiskState, Story, IsImage, Leaves}
use Rattle.ken_disk.specs.Moments.{Through}
use Rattle.ken_record.specs.declared.header.Header.{Header}
use Rattle.ken_record.specs.declared.base.Base.{Base}
use Rattle.ken_record.specs.Versions.{version_of}
use Rattle.ken_record.specs.Spelling.{base_bytes}
use Rattle.ken_log.specs.declared.faults.SealFault.{SealFault}
use Rattle.ken_log.specs.declared.faults.SealFault.TheVariants.{Disk, Memory}
use Rattle.ken_log.specs.declared.log.Log.{Log}
use Rattle.ken_log.specs.Mounts.{Mounted, Unformatted, mount_of}
use Rattle.ken_log.specs.Seals.{MountsAs, MountsAsEither}

-- the disk of a format is in the log, or beside the fault
abbrev pub disk_of : {D F : Type 0} → Result (Log D) (F × D) → D
disk_of (Ok log) = log.disk
disk_of (Err fault) = fault.1

abbrev pub answer_of : {D F : Type 0} → Result (Log D) (F × D) → Result (Log D) F
answer_of (Ok log) = Ok log
answer_of (Err fault) = Err fault.0

-- of the two disks after a turnover the one that was written, and the one that wasn't: they changed places after Ok alone
abbrev pub written_disk : {T D F : Type 0} → Result T F → Log D → D → D
written_disk (Ok _) log other = log.disk
written_disk (Err _) log other = other

abbrev pub old_disk : {T D F : Type 0} → Result T F → Log D → D → D
old_disk (Ok _) log other = other
old_disk (Err _) log other = log.disk

-- the header of the log after this one, with this base
abbrev pub next_header : {D : Type 0} → Log D → Base → Header
next_header log base = record log.header {
  generation = log.header.generation + 1;
  turns = log.header.turns + log.records;
  base_len = length (base_bytes (version_of log.header) base);
}

-- an image is one that a crash may have left before, byte for byte, or it mounts as no log
abbrev pub IsOldOrNone : DiskState → List ℕ → Type 0
IsOldOrNone before image = IsImage before image ⊎ (mount_of image ≡ Unformatted)

-- or it mounts as after
abbrev pub IsOldNoneOrNew : DiskState → Mounted → List ℕ → Type 0
IsOldNoneOrNew before after image = IsImage before image ⊎ MountsAsEither Unformatted after image

-- three writes: the first closes the first gate, so that there is no log, and the last opens it on another
pub record Replaces {T : Type 0} (after : Mounted) (result : Result T SealFault) (old new : Story) : Type 0 where
  -- a crash at any moment of the call leaves what it may have left before the call, no log, or what mounts as after
  pub any_moment : Through (IsOldNoneOrNew old.now after) old new
  -- then it leaves only what mounts as after
  pub ok : OnOk result (Leaves (MountsAs after) new.now)
  -- after Memory nothing that a crash leaves, or left since the call began, is of the last kind
  pub memory : IsErrOf result Memory → Through (IsOldOrNone old.now) old new
  -- after Disk neither; or the last write is in doubt, all syncs but its own have answered Ok, and nothing is as before
  pub in_doubt : IsErrOf result Disk → Through (IsOldOrNone old.now) old new ⊎ (Leaves (MountsAsEither Unformatted after) new.now × (new.now.syncs + 1 ≡ old.now.syncs + 3))
