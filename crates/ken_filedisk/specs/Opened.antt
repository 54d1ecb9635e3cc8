-- A file that was opened.
use Rattle.std.specs.Prelude.{◌≡◌}
use Rattle.ken_disk.specs.Story.{IsAtRest}
use Rattle.ken_filedisk.specs.declared.file_disk.FileDisk.{FileDisk}

-- nothing is pending in it, and no call of it failed
pub record IsOpen (disk : FileDisk) : Type 0 where
  pub rests : IsAtRest disk.copy.held.story.now
  pub none : disk.faults ≡ 0
