-- Each event keeps coverage.
use Rattle.std.specs.Prelude.{◌≡◌, ℕ, ◌*◌, List, length, Bool, true, false}
use Rattle.ken_record.specs.declared.page.Page.{Page}
use Rattle.ken_cover.specs.Overlay.{overlay, AreWithin}
use Rattle.ken_cover.specs.declared.layers.Change.{Change}
use Rattle.ken_cover.specs.declared.layers.Layer.{Layer}
use Rattle.ken_cover.specs.Sides.{TurnPages, ImagePages, pages_of, first_turn_pages, first_image_pages, sealed_pages, handed_pages, IsPatch, patched_page, synced_pages, turned_pages, crashed_pages, recovered_turn_pages, recovered_image_pages}
use Rattle.ken_cover.specs.Covers.{IsPossible, Covers, AreTorn, MayLeaveOut}

-- a node whose image holds its first heap
abbrev pub StartIsCovered : Type 0
StartIsCovered = (n : ℕ) (heap : List ℕ) → length heap ≡ 256 * n → Covers n true (first_turn_pages heap) (first_image_pages heap)

-- a seal, and one that was cut and landed: then the node is down
abbrev pub SealKeepsCoverage : Type 0
SealKeepsCoverage = (n : ℕ) (up : Bool) (t : TurnPages) (i : ImagePages) (turn : ℕ) (pages : List Page) → AreWithin n pages → Covers n true t i → Covers n up (sealed_pages turn pages t) (handed_pages turn pages i)

-- the node went down, and nothing else changed: a seal or a turnover that was cut and didn't land
abbrev pub DownKeepsCoverage : Type 0
DownKeepsCoverage = (n : ℕ) (up : Bool) (t : TurnPages) (i : ImagePages) → Covers n up t i → Covers n false t i

abbrev pub PatchKeepsCoverage : Type 0
PatchKeepsCoverage = (n : ℕ) (t : TurnPages) (i : ImagePages) (p : ℕ) (first : Layer) (rest : List Layer) (c : Change) → IsPatch i p first rest c → Covers n true t i → Covers n true t (patched_page first rest c i)

abbrev pub SyncKeepsCoverage : Type 0
SyncKeepsCoverage = (n : ℕ) (t : TurnPages) (i : ImagePages) → Covers n true t i → Covers n true t (synced_pages i)

-- a turnover, and one that was cut and landed
abbrev pub TurnoverKeepsCoverage : Type 0
TurnoverKeepsCoverage = (n : ℕ) (up : Bool) (t : TurnPages) (i : ImagePages) (settled turn : ℕ) → MayLeaveOut settled t i → Covers n true t i → Covers n up (turned_pages n settled turn t) i

abbrev pub CrashKeepsCoverage : Type 0
CrashKeepsCoverage = (n : ℕ) (up : Bool) (t : TurnPages) (i : ImagePages) (pages : List Page) → AreTorn i pages → Covers n up t i → Covers n false t (crashed_pages pages i)

-- the live records, laid over any possible image, are the heap
abbrev pub ImagesRecover : Type 0
ImagesRecover = (n : ℕ) (up : Bool) (t : TurnPages) (i : ImagePages) (image : List ℕ) → Covers n up t i → IsPossible i image → overlay image (pages_of t.live) ≡ t.heap

-- so a recovery gives the heap back, and what is clean then is what lies outside the cover
pub record Recovers (n : ℕ) (t : TurnPages) (i : ImagePages) : Type 0 where
  pub heap : (recovered_turn_pages i.image t).heap ≡ t.heap
  pub covers : Covers n true (recovered_turn_pages i.image t) (recovered_image_pages t.live i)

abbrev pub RecoveryKeepsCoverage : Type 0
RecoveryKeepsCoverage = (n : ℕ) (up : Bool) (t : TurnPages) (i : ImagePages) → Covers n up t i → Recovers n t i

-- each image that a crash may leave is one that some bytes on the open pages make: a crash that leaves them
pub record IsLeft (i : ImagePages) (image : List ℕ) : Type 0 where
  pub pages : List Page
  pub torn : AreTorn i pages
  pub leaves : overlay i.image pages ≡ image

abbrev pub ImagesAreLeft : Type 0
ImagesAreLeft = (n : ℕ) (up : Bool) (t : TurnPages) (i : ImagePages) (image : List ℕ) → Covers n up t i → IsPossible i image → IsLeft i image

-- and each crash leaves one of those
abbrev pub CrashLeavesImage : Type 0
CrashLeavesImage = (n : ℕ) (up : Bool) (t : TurnPages) (i : ImagePages) (pages : List Page) → Covers n up t i → AreTorn i pages → IsPossible i (overlay i.image pages)
