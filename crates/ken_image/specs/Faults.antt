-- The faults of an image, and those of its disk.
use Rattle.std.specs.Prelude.{◌≡◌, ℕ, ◌≤◌, Result, Ok, Err}
use Rattle.ken_disk.specs.declared.faults.DiskFault.{DiskFault}
use Rattle.ken_disk.specs.declared.faults.DiskFault.TheVariants as disk
use Rattle.ken_disk.specs.Causes.{Rose}
use Rattle.ken_image.specs.declared.faults.ImageFault.{ImageFault}
use Rattle.ken_image.specs.declared.faults.ImageFault.TheVariants.{Disk, Memory}
use Rattle.ken_image.specs.declared.image.Image.{Image}

-- the fault of an image for that of its disk, and back
abbrev pub as_fault : DiskFault → ImageFault
as_fault disk.Failed = Disk
as_fault disk.Memory = Memory

abbrev pub as_disk : {T : Type 0} → Result T ImageFault → Result T DiskFault
as_disk (Ok x) = Ok x
as_disk (Err Disk) = Err disk.Failed
as_disk (Err Memory) = Err disk.Memory

-- a fault of the disk was counted; no other answer counts one
abbrev pub HasImageCause : {T : Type 0} → ℕ → ℕ → Result T ImageFault → Type 0
HasImageCause before now (Ok _) = now ≡ before
HasImageCause before now (Err Memory) = now ≡ before
HasImageCause before now (Err Disk) = (before ≤ now) × Rose before now

-- the disk of a format is in the image, or beside the fault
abbrev pub disk_of : {D F : Type 0} → Result (Image D) (F × D) → D
disk_of (Ok image) = image.disk
disk_of (Err fault) = fault.1

abbrev pub answer_of : {D F : Type 0} → Result (Image D) (F × D) → Result (Image D) F
answer_of (Ok image) = Ok image
answer_of (Err fault) = Err fault.0
