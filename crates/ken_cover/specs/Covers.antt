-- Coverage: what keeps a node's heap recoverable at any moment.
use Rattle.std.specs.Prelude.{◌≡◌, ℕ, ◌*◌, List, length, Bool, true, false, IsTrue, Some}
use Rattle.std.specs.List.{AllByRecursion}
use Rattle.ken_pages.specs.Paged.{page_of}
use Rattle.ken_record.specs.declared.page.Page.{Page}
use Rattle.ken_record.specs.Grammar.{rise_from, page_rank}
use Rattle.ken_cover.specs.Overlay.{overlay, numbers, among, AreWithin}
use Rattle.ken_cover.specs.declared.layers.Change.{Change}
use Rattle.ken_cover.specs.Sides.{TurnPages, ImagePages, pages_of, last_change, stays}

-- what a crash may leave of the image: its bytes outside the open pages, and any bytes in them
pub record IsPossible (i : ImagePages) (image : List ℕ) : Type 0 where
  pub size : length image ≡ length i.image
  pub same : (p : ℕ) → i.«open» p ≡ false → page_of image p ≡ page_of i.image p

-- coverage of a node with n pages, by its pages alone
pub record Covers (n : ℕ) (up : Bool) (t : TurnPages) (i : ImagePages) : Type 0 where
  pub heap_size : length t.heap ≡ 256 * n
  pub image_size : length i.image ≡ 256 * n
  -- what is live or to patch lies within the heap
  pub live_within : AreWithin n (pages_of t.live)
  pub ahead_within : AreWithin n (pages_of i.ahead)
  -- the live records, laid over the heap, change nothing of it
  pub stands : overlay t.heap (pages_of t.live) ≡ t.heap
  -- a page that isn't clean is in the cover of the live records
  pub covered : (p : ℕ) → i.unclean p ≡ true → among (numbers (pages_of t.live)) p ≡ true
  -- a clean page has its bytes in every possible image
  pub safe : (image : List ℕ) → IsPossible i image → (p : ℕ) → i.unclean p ≡ false → page_of image p ≡ page_of t.heap p
  -- writes that are open or still to come are to pages that aren't clean
  pub opened : (p : ℕ) → i.«open» p ≡ true → i.unclean p ≡ true
  pub coming : (p : ℕ) → among (numbers (pages_of i.ahead)) p ≡ true → i.unclean p ≡ true
  -- while the node is up, what is to patch makes the image the heap
  pub goal : IsTrue up → overlay i.image (pages_of i.ahead) ≡ t.heap

-- the pages are whole, and they are exactly the open ones, rising strictly
pub record AreTorn (i : ImagePages) (pages : List Page) : Type 0 where
  pub whole : AllByRecursion (λ (e : Page). length e.bytes ≡ 256) pages
  pub rising : IsTrue (rise_from page_rank 0 pages)
  pub exactly : (p : ℕ) → among (numbers pages) p ≡ i.«open» p

-- each live page that a base with this settled turn leaves out is clean
abbrev pub MayLeaveOut : ℕ → TurnPages → ImagePages → Type 0
MayLeaveOut settled t i = (p : ℕ) (c : Change) → last_change p t.live ≡ Some c → stays settled c.turn ≡ false → i.unclean p ≡ false
