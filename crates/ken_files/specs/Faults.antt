-- The fault of one thing for that of another.
use Rattle.ken_disk.specs.declared.faults.DiskFault.{DiskFault}
use Rattle.ken_disk.specs.declared.faults.DiskFault.TheVariants as disk
use Rattle.ken_files.specs.declared.faults.OpenFault.{OpenFault}
use Rattle.ken_files.specs.declared.faults.OpenFault.TheVariants as opening
use Rattle.ken_files.specs.declared.faults.CopyFault.{CopyFault}
use Rattle.ken_files.specs.declared.faults.CopyFault.TheVariants as copying
use Rattle.ken_files.specs.declared.faults.SaveFault.{SaveFault}
use Rattle.ken_files.specs.declared.faults.SaveFault.TheVariants as saving

-- of a copy, for that of the disk that is read
abbrev pub of_disk : DiskFault → CopyFault
of_disk disk.Failed = copying.Kept
of_disk disk.Memory = copying.Memory

-- of a copy, for that of the file that is written
abbrev pub of_file : DiskFault → CopyFault
of_file disk.Failed = copying.File
of_file disk.Memory = copying.Memory

-- of a disk that is saved
abbrev pub of_open : OpenFault → SaveFault
of_open opening.Failed = saving.Open
of_open opening.Memory = saving.Memory

abbrev pub of_copy : CopyFault → SaveFault
of_copy copying.Kept = saving.Kept
of_copy copying.File = saving.File
of_copy copying.Memory = saving.Memory
