-- The frames that a change takes: one for each page that it writes in and that the turn has no frame of its own for.
use Rattle.std.specs.Prelude.{◌≡◌, ℕ, ◌+◌, ◌-◌, ◌/◌, ◌≤◌, List, Bool, ◌==◌, if◌then◌else◌, Option, Some, None}
use Rattle.ken_pages.specs.Paged.{Paged, touched, with_own, lacking, own_count}
use Rattle.ken_model.specs.declared.values.Value.{Value}
use Rattle.ken_model.specs.Heap.{rounded}
use Rattle.ken_alloc.specs.Objects.{FramedHeap}
use Rattle.ken_alloc.specs.Changes.{room_end}

-- how many frames are spare, and for each page whether the turn has one of its own
pub record Frames : Type 0 where
  pub spare : ℕ
  pub own : List Bool

abbrev pub frames_of : Paged → Frames
frames_of p = record { spare = p.spare; own = p.own }

abbrev pub frames_in : FramedHeap → Frames
frames_in h = record { spare = h.spare; own = h.own }

-- how many the turn lacks for the pages that n bytes from a place on touch
abbrev pub lacks : ℕ → ℕ → Frames → ℕ
lacks at n f = lacking (at / 256) (touched at n) f.own

-- after those bytes were written: the turn has frames of its own for these pages, and took the spare ones first
abbrev pub taken : ℕ → ℕ → Frames → Frames
taken at n f = record { spare = f.spare - lacks at n f; own = with_own (at / 256) (touched at n) f.own }

-- the turn has no other frames of its own, and no fewer are spare
pub record HasMoreSpare (old new : Frames) : Type 0 where
  pub own : new.own ≡ old.own
  pub more : old.spare ≤ new.spare

-- of frames that are spare or the turn's own none is lost
abbrev pub LosesNone : Frames → Frames → Type 0
LosesNone old new = old.spare + own_count old.own ≤ new.spare + own_count new.own

-- how many bytes the head of a gap between two places has: none where they are one
abbrev pub gap_head : ℕ → ℕ → ℕ
gap_head from to = if from == to then 0 else 16

-- how many bytes there are from the head of a block of n bytes to the block's end, or, where a gap is left behind it in a
-- room that ends at `to`, to the end of that gap's head
abbrev pub alloc_len : ℕ → ℕ → ℕ → ℕ
alloc_len place n to = if place + rounded n == to then 16 + n else 32 + rounded n

-- how many frames the turn lacks for these pages, where `alloc` answers a place, or none
abbrev pub alloc_lacks : Option ℕ → ℕ → Value → Frames → ℕ
alloc_lacks None n v f = 0
alloc_lacks (Some place) n v f = lacks (place - 16) (alloc_len place n (room_end v place)) f

-- the frames after it
abbrev pub alloc_taken : Option ℕ → ℕ → Value → Frames → Frames
alloc_taken None n v f = f
alloc_taken (Some place) n v f = taken (place - 16) (alloc_len place n (room_end v place)) f
