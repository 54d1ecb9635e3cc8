-- What is to patch, as layers of pages.
use Rattle.std.specs.Prelude.{◌≡◌, ℕ, ◌≤◌, List, [], ◌∷◌, map, IsTrue}
use Rattle.std.specs.List.{AllByRecursion, flat_map}
use Rattle.std.specs.declared.sync.Arc.{Arc}
use Rattle.std.specs.Arc.{arc_value}
use Rattle.ken_record.specs.declared.page.Page.{Page}
use Rattle.ken_record.specs.declared.record.Record as records
use Rattle.ken_record.specs.Grammar.{rise_from, page_rank}
use Rattle.ken_cover.specs.declared.layers.Layer.{Layer}
use Rattle.ken_cover.specs.Sides.{changes_at, onto}
use Rattle.ken_store.specs.declared.patching.Ahead.{Ahead}
use Rattle.ken_store.specs.declared.patching.Origin.{Origin}
use Rattle.ken_store.specs.declared.patching.Origin.TheVariants.{Base, Record}

-- a page that is shared, as one of a record
abbrev pub frame_page : {Z : Type 0} → ℕ × Arc (List ℕ) Z → Page
frame_page e = record { page = e.0; bytes = arc_value e.1 }

abbrev pub frame_pages : {Z : Type 0} → List (ℕ × Arc (List ℕ) Z) → List Page
frame_pages es = map frame_page es

-- only the first may be a base
abbrev pub IsRecordAhead : Ahead → Type 0
IsRecordAhead a = a.origin ≡ Record

abbrev pub FollowOneBase : List Ahead → Type 0
FollowOneBase [] = Unit {0}
FollowOneBase (a ∷ rest) = AllByRecursion IsRecordAhead rest

-- what is ahead
abbrev pub ahead_layer : Ahead → Layer
ahead_layer a = record { turn = a.turn; changes = changes_at a.turn (frame_pages a.pages.items) }

abbrev pub ahead_layers : List Ahead → List Layer
ahead_layers items = map ahead_layer items

-- there are pages to patch, in rising order, and a record's turn is from 1 on
pub record IsToPatch (a : Ahead) : Type 0 where
  pub some : a.pages.items ≡ [] → ⊥
  pub rising : IsTrue (rise_from page_rank 0 (frame_pages a.pages.items))
  pub turn : a.origin ≡ Record → 1 ≤ a.turn

-- what a recovery finds to patch: the base first, and nothing without a page
pub record AreFound (items : List Ahead) : Type 0 where
  pub base : FollowOneBase items
  pub each : AllByRecursion IsToPatch items

-- a base may come first, and a record behind what was found
abbrev pub MayAdd : Origin → ℕ → List Ahead → Type 0
MayAdd Base turn items = items ≡ []
MayAdd Record turn items = (1 ≤ turn) × AreFound items

-- the pages of a turn as a layer, if there are some
abbrev pub page_layers : ℕ → List Page → List Layer
page_layers turn pages = onto turn (changes_at turn pages) []

-- those of records
abbrev pub record_layers : List records.Record → List Layer
record_layers rs = flat_map (λ (r : records.Record). page_layers r.turn r.pages) rs

-- whose pages they are: the base's come first, exactly where it has some, and then each record's that has some
abbrev pub origins : List Ahead → List Origin
origins items = map (λ (a : Ahead). a.origin) items

abbrev pub page_origins : Origin → List Page → List Origin
page_origins origin [] = []
page_origins origin (e ∷ es) = origin ∷ []

abbrev pub record_origins : List records.Record → List Origin
record_origins rs = flat_map (λ (r : records.Record). page_origins Record r.pages) rs
