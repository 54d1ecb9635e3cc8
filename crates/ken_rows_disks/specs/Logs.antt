-- Logs over disks in memory.
use Rattle.std.specs.Prelude.{length, Some}
use Rattle.ken_memdisk.specs.declared.mem_disk.MemDisk.{MemDisk}
use Rattle.ken_log.specs.declared.log.Log.{Log}
use Rattle.ken_log.specs.Settled.{IsSettled}

-- a log that takes seals
abbrev pub TakesSeals : Log MemDisk → Type 0
TakesSeals log = IsSettled (λ (d : MemDisk). Some d.held.story) (λ (d : MemDisk). length d.held.story.now.seen) log
