-- A heap of pages, as its callers see it.
use Rattle.std.specs.Prelude.{ℕ, zero, suc, ◌+◌, ◌-◌, ◌*◌, ◌/◌, List, [], ◌∷◌, length, take, drop, map, Option, Bool, true, false, not, ◌==◌, if◌then◌else◌, slice_set}
use Rattle.std.specs.List.{filter, range_with_len}
use Rattle.std.specs.Str.{bytes_eq}
use Rattle.std.specs.declared.sync.Arc.{Arc}
use Rattle.std.specs.Arc.{arc_value}

-- the bytes now, those at `begin` where a turn is begun, how many frames are spare, and for each page whether the turn has a
-- frame of its own for it
pub record Paged : Type 0 where
  pub bytes : List ℕ
  pub begun : Option (List ℕ)
  pub spare : ℕ
  pub own : List Bool

-- how many pages the n bytes from a place on touch
abbrev pub touched : ℕ → ℕ → ℕ
touched at n = if n == 0 then 0 else (at + n - 1) / 256 + 1 - at / 256

-- with the turn's own frames for n pages from the page `from` on
abbrev pub with_own : ℕ → ℕ → List Bool → List Bool
with_own from n [] = []
with_own zero zero (b ∷ bs) = b ∷ bs
with_own zero (suc n) (b ∷ bs) = true ∷ with_own zero n bs
with_own (suc from) n (b ∷ bs) = b ∷ with_own from n bs

-- one for a page that the turn has no frame of its own for
abbrev pub missing : Bool → ℕ
missing true = 0
missing false = 1

-- how many frames are missing for n pages from the page `from` on
abbrev pub lacking : ℕ → ℕ → List Bool → ℕ
lacking from n [] = 0
lacking zero zero (b ∷ bs) = 0
lacking zero (suc n) (b ∷ bs) = missing b + lacking zero n bs
lacking (suc from) n (b ∷ bs) = lacking from n bs

-- how many frames of its own the turn has
abbrev pub own_count : List Bool → ℕ
own_count [] = 0
own_count (b ∷ bs) = 1 - missing b + own_count bs

-- without the turn's own frames for these pages
abbrev pub without_own : List ℕ → List Bool → List Bool
without_own [] own = own
without_own (p ∷ ps) own = without_own ps (slice_set own p false)

-- page p of the bytes
abbrev pub page_of : List ℕ → ℕ → List ℕ
page_of bytes p = take 256 (drop (256 * p) bytes)

-- page p is not as it was
abbrev pub page_differs : List ℕ → List ℕ → ℕ → Bool
page_differs before now p = not (bytes_eq (page_of before p) (page_of now p))

-- the pages that are not as they were, in rising order
abbrev pub dirty_pages : List ℕ → List ℕ → List ℕ
dirty_pages before now = filter (page_differs before now) (range_with_len 0 (length now / 256))

-- page p with its bytes
abbrev pub with_bytes : List ℕ → ℕ → ℕ × List ℕ
with_bytes now p = (p, page_of now p)

-- the pages that are not as they were, with their bytes now
abbrev pub frozen_pages : List ℕ → List ℕ → List (ℕ × List ℕ)
frozen_pages before now = map (with_bytes now) (dirty_pages before now)

-- a page with the bytes of the frame that is shared
abbrev pub shared_page : {Z : Type 0} → ℕ × Arc (List ℕ) Z → ℕ × List ℕ
shared_page e = (e.0, arc_value e.1)

abbrev pub shared_pages : {Z : Type 0} → List (ℕ × Arc (List ℕ) Z) → List (ℕ × List ℕ)
shared_pages es = map shared_page es
