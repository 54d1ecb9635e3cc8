-- Pages with their bytes, laid over the bytes of a heap or an image.
use Rattle.std.specs.Prelude.{◌≡◌, ℕ, ◌*◌, ◌<◌, List, [], ◌∷◌, map, length, Bool, ◌==◌, if◌then◌else◌, Option, Some, None}
use Rattle.std.specs.List.{AllByRecursion, list_any}
use Rattle.std.specs.Option.{option_or}
use Rattle.ken_disk.specs.Bytes.{overwrite}
use Rattle.ken_record.specs.declared.page.Page.{Page}

-- where the bytes of a page stand
abbrev pub place_of : Page → ℕ
place_of e = 256 * e.page

-- the bytes with a page over them
abbrev pub with_page : List ℕ → Page → List ℕ
with_page bytes e = overwrite (place_of e) e.bytes bytes

-- the bytes with pages over them, one after the other
abbrev pub overlay : List ℕ → List Page → List ℕ
overlay bytes [] = bytes
overlay bytes (e ∷ es) = overlay (with_page bytes e) es

-- the numbers of pages
abbrev pub numbers : List Page → List ℕ
numbers es = map (λ (e : Page). e.page) es

-- whether a page is one of those
abbrev pub among : List ℕ → ℕ → Bool
among ps p = list_any (λ q. q == p) ps

-- the last of the entries whose page is p
abbrev pub newest_by : {A : Type 0} → (A → Page) → ℕ → List A → Option A
newest_by page p [] = None
newest_by page p (x ∷ xs) = option_or (newest_by page p xs) (if (page x).page == p then Some x else None)

abbrev pub newest : ℕ → List Page → Option Page
newest p es = newest_by (λ (e : Page). e) p es

-- a whole page of a heap of n pages
abbrev pub IsWithin : ℕ → Page → Type 0
IsWithin n e = (e.page < n) × (length e.bytes ≡ 256)

abbrev pub AreWithin : ℕ → List Page → Type 0
AreWithin n es = AllByRecursion (IsWithin n) es
