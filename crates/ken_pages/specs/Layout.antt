-- How a heap of pages is laid out.
use Rattle.std.specs.Prelude.{◌≡◌, ℕ, ◌+◌, ◌≤◌, List, [], ◌∷◌, length, map, Option, Some, None, is_some, Bool, true, false, ◌&&◌, ◌==◌, if◌then◌else◌, slice_index_or, not}
use Rattle.std.specs.Str.{bytes_eq}
use Rattle.std.specs.List.{concat}
use Rattle.std.specs.Arc.{arc_value}
use Rattle.ken_pages.specs.Paged.{Paged}
use Rattle.ken_pages.specs.declared.page.Held.{Held}
use Rattle.ken_pages.specs.declared.page.Held.TheVariants.{Own, Shared}
use Rattle.ken_pages.specs.declared.page.Page.{Page}

-- the bytes that are held
abbrev pub bytes_in : Held → List ℕ
bytes_in (Own frame) = frame
bytes_in (Shared frame) = arc_value frame

-- nobody shares the frame
abbrev pub is_frame_own : Held → Bool
is_frame_own (Own frame) = true
is_frame_own (Shared frame) = false

-- a page's bytes now, and those when the turn began
abbrev pub now_of : Page → List ℕ
now_of p = bytes_in p.held

abbrev pub first_of : Option Held → Held → Held
first_of (Some before) held = before
first_of None held = held

abbrev pub was_of : Page → List ℕ
was_of p = bytes_in (first_of p.before p.held)

-- the turn wrote it
abbrev pub is_kept : Page → Bool
is_kept p = is_some p.before

-- the turn has a frame of its own for it
abbrev pub is_own : Page → Bool
is_own p = is_some p.before && is_frame_own p.held

-- those of all pages, one after the other
abbrev pub now_bytes : List Page → List ℕ
now_bytes ps = concat (map now_of ps)

abbrev pub was_bytes : List Page → List ℕ
was_bytes ps = concat (map was_of ps)

abbrev pub own_pages : List Page → List Bool
own_pages ps = map is_own ps

abbrev pub kept_pages : List Page → List Bool
kept_pages ps = map is_kept ps

-- a page's bytes are not as they were
abbrev pub differs : Page → Bool
differs p = not (bytes_eq (was_of p) (now_of p))

abbrev pub differs_at : List Page → ℕ → Bool
differs_at ps p = slice_index_or (map differs ps) p false

-- each has its 256 bytes
abbrev pub AreWhole : List (List ℕ) → Type 0
AreWhole [] = Unit {0}
AreWhole (f ∷ fs) = (length f ≡ 256) × AreWhole fs

pub record ArePages (ps : List Page) : Type 0 where
  pub now : AreWhole (map now_of ps)
  pub was : AreWhole (map was_of ps)

-- a turn's own frames and its bytes at `begin` are as before
pub record SameTurn (old new : List Page) : Type 0 where
  pub own : own_pages new ≡ own_pages old
  pub kept : kept_pages new ≡ kept_pages old
  pub was : map was_of new ≡ map was_of old

-- how often a page is in a list
abbrev pub times : ℕ → List ℕ → ℕ
times p [] = 0
times p (q ∷ qs) = (if p == q then 1 else 0) + times p qs

-- once where it is so, and never where not
abbrev pub once : Bool → ℕ
once true = 1
once false = 0

-- the list has each page that the turn wrote, once, and no other
abbrev pub Lists : List ℕ → List Bool → Type 0
Lists first kept = (p : ℕ) → times p first ≡ once (slice_index_or kept p false)

-- the bytes at `begin`, where a turn is begun
abbrev pub begun_at : Bool → List ℕ → Option (List ℕ)
begun_at true bytes = Some bytes
begun_at false bytes = None

-- what the pages and the spare frames stand for
abbrev pub paged_of : Bool → List Page → List (List ℕ) → Paged
paged_of begun ps shelf = record { bytes = now_bytes ps; begun = begun_at begun (was_bytes ps); spare = length shelf; own = own_pages ps }

-- the pages, those that the turn wrote, and the spare frames of a heap; the list of the pages has room for as many as frames
pub record IsHeap (begun : Bool) (ps : List Page) (first : List ℕ) (places : ℕ) (shelf : List (List ℕ)) : Type 0 where
  pub some : 1 ≤ length ps
  pub most : length ps ≤ 4096
  pub whole : ArePages ps
  pub listed : Lists first (kept_pages ps)
  pub room : length first + length shelf ≤ places
  pub idle : begun ≡ false → first ≡ []
