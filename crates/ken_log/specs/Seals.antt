-- What a seal makes of a log's disk, at each moment and in the end.
use Rattle.std.specs.Prelude.{◌≡◌, ℕ, ◌+◌, ◌≤◌, ◌⊎◌, List, Result, Ok, Err, OnOk, IsErrOf}
use Rattle.ken_disk.specs.declared.faults.DiskFault.{DiskFault}
use Rattle.ken_disk.specs.declared.faults.DiskFault.TheVariants as disk
use Rattle.ken_disk.specs.Causes.{Rose}
use Rattle.ken_disk.specs.Story.{Story, Leaves}
use Rattle.ken_disk.specs.Moments.{Through}
use Rattle.ken_log.specs.declared.faults.SealFault.{SealFault}
use Rattle.ken_log.specs.declared.faults.SealFault.TheVariants.{Disk, Memory}
use Rattle.ken_log.specs.Mounts.{Mounted, mount_of}

-- the fault of a log for that of its disk, and back
abbrev pub as_fault : DiskFault → SealFault
as_fault disk.Failed = Disk
as_fault disk.Memory = Memory

abbrev pub as_seal : {T : Type 0} → Result T DiskFault → Result T SealFault
as_seal (Ok x) = Ok x
as_seal (Err e) = Err (as_fault e)

abbrev pub as_disk : {T : Type 0} → Result T SealFault → Result T DiskFault
as_disk (Ok x) = Ok x
as_disk (Err Disk) = Err disk.Failed
as_disk (Err Memory) = Err disk.Memory

-- a fault of the disk was counted; no other answer counts one
abbrev pub HasLogCause : {T : Type 0} → ℕ → ℕ → Result T SealFault → Type 0
HasLogCause before now (Ok _) = now ≡ before
HasLogCause before now (Err Memory) = now ≡ before
HasLogCause before now (Err Disk) = (before ≤ now) × Rose before now

-- an image mounts so
abbrev pub MountsAs : Mounted → List ℕ → Type 0
MountsAs mounted image = mount_of image ≡ mounted

-- an image mounts as one or as the other
abbrev pub MountsAsEither : Mounted → Mounted → List ℕ → Type 0
MountsAsEither before after image = (mount_of image ≡ before) ⊎ (mount_of image ≡ after)

-- a call of several writes, the last of which changes what the disk mounts as, from before to after
pub record Changes {T : Type 0} (before after : Mounted) (count : ℕ) (result : Result T SealFault) (old new : Story) : Type 0 where
  -- a crash at any moment of the call leaves what mounts as before or after
  pub any_moment : Through (MountsAsEither before after) old new
  -- then it leaves only what mounts as after
  pub ok : OnOk result (Leaves (MountsAs after) new.now)
  -- after Memory nothing that a crash leaves, or left since the call began, mounts as after
  pub memory : IsErrOf result Memory → Through (MountsAs before) old new
  -- where the last of so many writes is in doubt, all syncs but its own have answered Ok
  pub in_doubt : IsErrOf result Disk → Through (MountsAs before) old new ⊎ (new.now.syncs + 1 ≡ old.now.syncs + count)
