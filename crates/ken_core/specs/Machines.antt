-- A node as the code keeps it.
use Rattle.std.specs.Prelude.{◌≡◌, ℕ, List, length, Bool}
use Rattle.ken_cover.specs.declared.layers.Change.{Change}
use Rattle.ken_cover.specs.declared.layers.Layer.{Layer}
use Rattle.ken_cover.specs.Sides.{TurnPages, ImagePages, IsPatch, patched_page}
use Rattle.ken_cover.specs.Covers.{Covers}
use Rattle.ken_core.specs.declared.pages.Pages.{Pages}
use Rattle.ken_core.specs.Sets.{has}

abbrev pub turn_pages : Pages → TurnPages
turn_pages p = record { heap = p.heap; live = p.live.items }

abbrev pub image_pages : Pages → ImagePages
image_pages p = record { ahead = p.ahead.items; unclean = has p.unclean; image = p.image.items; «open» = has p.opened }

-- the pages of a heap of n pages, with a bit for each in the sets
pub record ArePages (n : ℕ) (up : Bool) (p : Pages) : Type 0 where
  pub covers : Covers n up (turn_pages p) (image_pages p)
  pub unclean : length p.unclean ≡ n
  pub opened : length p.opened ≡ n

abbrev pub IsPaged : Pages → Type 0
IsPaged p = (n : ℕ) × ((up : Bool) × ArePages n up p)

-- a change of the oldest record to patch was written
abbrev pub Writes : ℕ → ImagePages → ImagePages → Type 0
Writes page i i2 = (first : Layer) × ((rest : List Layer) × ((c : Change) × (IsPatch i page first rest c × (i2 ≡ patched_page first rest c i))))

-- no page of that number is to be written next
abbrev pub IsWritten : ℕ → ImagePages → Type 0
IsWritten page i = (first : Layer) (rest : List Layer) (c : Change) → IsPatch i page first rest c → ⊥

-- the sets have as much room as before
abbrev pub KeepsWidths : Pages → Pages → Type 0
KeepsWidths p p2 = (length p2.unclean ≡ length p.unclean) × (length p2.opened ≡ length p.opened)
