-- What one node keeps of its pages, and what each event makes of that. The handler's side has the heap and the live records;
-- the patcher's side has what is still to be written to the image.
use Rattle.std.specs.Prelude.{◌≡◌, ℕ, List, [], ◌∷◌, ◌++◌, map, filter, not, Bool, false, nat_lt, ◌==◌, ◌||◌, if◌then◌else◌, Option, Some, None}
use Rattle.std.specs.List.{flat_map, range_with_len}
use Rattle.ken_pages.specs.Paged.{page_of}
use Rattle.ken_record.specs.declared.page.Page.{Page}
use Rattle.ken_cover.specs.declared.layers.Change.{Change}
use Rattle.ken_cover.specs.declared.layers.Layer.{Layer}
use Rattle.ken_cover.specs.Overlay.{with_page, overlay, numbers, among, newest_by}

-- the handler's side: the heap after the sealed turns, and the live records, oldest first. A base is the oldest
pub record TurnPages : Type 0 where
  pub heap : List ℕ
  pub live : List Layer

-- the patcher's side: the records that are to patch, oldest first, each with its pages that aren't written yet; the pages
-- that aren't clean; the image's bytes; and its open pages, those written since the last sync
pub record ImagePages : Type 0 where
  pub ahead : List Layer
  pub unclean : ℕ → Bool
  pub image : List ℕ
  pub «open» : ℕ → Bool

abbrev pub changes_of : List Layer → List Change
changes_of layers = flat_map (λ (l : Layer). l.changes) layers

-- the pages of layers, oldest first: their numbers are the layers' cover
abbrev pub pages_of : List Layer → List Page
pages_of layers = map (λ (c : Change). c.page) (changes_of layers)

-- pages that a turn changed
abbrev pub changes_at : ℕ → List Page → List Change
changes_at turn pages = map (λ (e : Page). record { turn = turn; page = e }) pages

-- a layer before others, unless it has no page
abbrev pub onto : ℕ → List Change → List Layer → List Layer
onto turn [] layers = layers
onto turn (c ∷ cs) layers = record { turn = turn; changes = c ∷ cs } ∷ layers

-- before the first turn, the image holds the heap
abbrev pub first_turn_pages : List ℕ → TurnPages
first_turn_pages heap = record { heap = heap; live = [] }

abbrev pub first_image_pages : List ℕ → ImagePages
first_image_pages heap = record { ahead = []; unclean = λ p. false; image = heap; «open» = λ p. false }

-- a turn was sealed with these pages
abbrev pub sealed_pages : ℕ → List Page → TurnPages → TurnPages
sealed_pages turn pages t = record { heap = overlay t.heap pages; live = t.live ++ record { turn = turn; changes = changes_at turn pages } ∷ [] }

-- and its record is to patch
abbrev pub handed_pages : ℕ → List Page → ImagePages → ImagePages
handed_pages turn pages i = record i { ahead = i.ahead ++ onto turn (changes_at turn pages) []; unclean = λ p. among (numbers pages) p || i.unclean p }

-- the changes of other pages
abbrev pub without_page : ℕ → List Change → List Change
without_page p cs = filter (λ (c : Change). not (c.page.page == p)) cs

-- a change of the oldest record to patch was written; `rest` are the records after that one
abbrev pub patched_page : Layer → List Layer → Change → ImagePages → ImagePages
patched_page first rest c i = record {
  ahead = onto first.turn (without_page c.page.page first.changes) rest;
  unclean = i.unclean;
  image = with_page i.image c.page;
  «open» = λ p. (c.page.page == p) || i.«open» p;
}

-- the change of a page that is written: the page's newest one of the oldest record to patch
pub record IsPatch (i : ImagePages) (p : ℕ) (first : Layer) (rest : List Layer) (c : Change) : Type 0 where
  pub oldest : i.ahead ≡ first ∷ rest
  pub page : newest_by (λ (c : Change). c.page) p first.changes ≡ Some c

-- the image was synced: all pages are clean but those waiting to be patched
abbrev pub synced_pages : ImagePages → ImagePages
synced_pages i = record i { unclean = λ p. among (numbers (pages_of i.ahead)) p; «open» = λ p. false }

-- the last change of a page
abbrev pub last_change : ℕ → List Layer → Option Change
last_change p layers = newest_by (λ (c : Change). c.page) p (changes_of layers)

-- whether a page that last changed in a turn goes into a base, by the turn that is told as settled; 0 tells none
abbrev pub stays : ℕ → ℕ → Bool
stays settled turn = settled == 0 || nat_lt settled turn

-- a page of a base, as it is now: it keeps the turn that last changed it
abbrev pub base_change : ℕ → List ℕ → ℕ → Option Change → List Change
base_change settled heap p None = []
base_change settled heap p (Some c) = if stays settled c.turn then record { turn = c.turn; page = record { page = p; bytes = page_of heap p } } ∷ [] else []

-- the base's pages, rising: each live page that last changed after the settled turn
abbrev pub base_changes : ℕ → ℕ → TurnPages → List Change
base_changes n settled t = flat_map (λ p. base_change settled t.heap p (last_change p t.live)) (range_with_len 0 n)

-- a base took the place of the live records
abbrev pub turned_pages : ℕ → ℕ → ℕ → TurnPages → TurnPages
turned_pages n settled turn t = record t { live = record { turn = turn; changes = base_changes n settled t } ∷ [] }

-- a crash left these bytes on the open pages
abbrev pub crashed_pages : List Page → ImagePages → ImagePages
crashed_pages pages i = record i { image = overlay i.image pages; «open» = λ p. false }

-- after a recovery each page counts as changed by the last turn of its layer
abbrev pub recounted : Layer → Layer
recounted l = record l { changes = map (λ (c : Change). record c { turn = l.turn }) l.changes }

-- the layers that have a page
abbrev pub with_pages : List Layer → List Layer
with_pages [] = []
with_pages (l ∷ ls) = onto l.turn l.changes (with_pages ls)

-- a recovery lays the live records over the image
abbrev pub recovered_turn_pages : List ℕ → TurnPages → TurnPages
recovered_turn_pages image t = record { heap = overlay image (pages_of t.live); live = map recounted t.live }

-- and they are all to patch again
abbrev pub recovered_image_pages : List Layer → ImagePages → ImagePages
recovered_image_pages live i = record i { ahead = with_pages (map recounted live); unclean = λ p. among (numbers (pages_of live)) p }
