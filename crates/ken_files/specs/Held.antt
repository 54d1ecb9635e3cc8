-- How the bytes of a file in memory are kept.
use Rattle.std.specs.Prelude.{◌≡◌, ℕ, ◌≤◌, List, length}
use Rattle.ken_disk.specs.declared.disk.TheConstants.{MAX_LEN}
use Rattle.ken_memdisk.specs.Disks.{InMemory}

-- these bytes are what a read of the disk gives, and no more than a disk may have
pub record HasBytes (bytes : List ℕ) (disk : InMemory) : Type 0 where
  pub same : bytes ≡ disk.held.story.now.seen
  pub bound : length bytes ≤ MAX_LEN
