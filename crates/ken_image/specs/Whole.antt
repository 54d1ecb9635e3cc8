-- What stands of an image, and an image that takes calls.
use Rattle.std.specs.Prelude.{◌≡◌, ℕ, ◌≤◌, length, Option, false}
use Rattle.ken_disk.specs.Story.{DiskState, Story, IsImage, Tells}
use Rattle.ken_image.specs.declared.image.Image.{Image}
use Rattle.ken_image.specs.Pages.{place_of}

-- a crash leaves so many pages at least, and may leave what a read gives
pub record Keeps (pages : ℕ) (s : DiskState) : Type 0 where
  pub long : place_of pages ≤ length s.synced
  pub seen : IsImage s s.seen

-- the disk has all pages of the image, and after a crash too
pub record HasAllPages {D : Type 0} (told : D → Option Story) (size : D → ℕ) (image : Image D) : Type 0 where
  pub room : place_of image.pages ≤ size image.disk
  pub keeps : Tells (told image.disk) (λ h. Keeps image.pages h.now)

-- an image that takes calls: it has them, and no call of its disk failed
pub record IsWhole {D : Type 0} (told : D → Option Story) (size : D → ℕ) (image : Image D) : Type 0 where
  pub stands : HasAllPages told size image
  pub unspent : image.spent ≡ false
