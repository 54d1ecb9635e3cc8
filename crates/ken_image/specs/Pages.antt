-- The pages of an image, each of 256 bytes.
use Rattle.std.specs.Prelude.{◌≡◌, ℕ, ◌*◌, List, [], ◌∷◌, ◌++◌, map, length, take, drop, replicate, ◌==◌, if◌then◌else◌}
use Rattle.std.specs.List.{flat_map, range_with_len}
use Rattle.ken_disk.specs.Story.{DiskState, IsImage}
use Rattle.ken_disk.specs.Through.{Torn}
use Rattle.ken_image.specs.Calls.{Call, Write, Sync}

-- where the bytes of a page stand; so many pages end there
abbrev pub place_of : ℕ → ℕ
place_of page = 256 * page

-- the bytes of a page
abbrev pub page_in : ℕ → List ℕ → List ℕ
page_in page bytes = take 256 (drop (place_of page) bytes)

-- a page of a first image
abbrev pub first_page : List ℕ → ℕ → List ℕ
first_page first page = if page == 0 then first else replicate 256 0

-- a first image of so many pages
abbrev pub first_image : ℕ → List ℕ → List ℕ
first_image pages first = flat_map (first_page first) (range_with_len 0 pages)

-- what makes one: each page is written, rising, and then all is synced
abbrev pub page_write : List ℕ → ℕ → Call
page_write first page = Write (place_of page) (first_page first page)

abbrev pub format_calls : ℕ → List ℕ → List Call
format_calls pages first = map (page_write first) (range_with_len 0 pages) ++ Sync ∷ []

-- one page has these bytes now, and all others are as before
pub record ChangesPage (page : ℕ) (bytes old new : List ℕ) : Type 0 where
  pub here : page_in page new ≡ bytes
  pub elsewhere : (other : ℕ) → (other ≡ page → ⊥) → page_in other new ≡ page_in other old
  pub size : length new ≡ length old

-- what a crash might have left before, but for any bytes in this page
pub record IsTornPage (page : ℕ) (s : DiskState) (image : List ℕ) : Type 0 where
  pub before : List ℕ
  pub is : IsImage s before
  pub torn : Torn (place_of page) 256 before image
