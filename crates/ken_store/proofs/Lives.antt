-- The live records of a log, as layers.
use Rattle.std.proofs.Common.{◌≡◌, ℕ, List, [], ◌∷◌, ◌++◌, length, map, replicate, refl, sym, ap, ◌∙◌, Option, Some, None}
use Rattle.std.specs.List.{flat_map, zip}
use Rattle.std.proofs.lemmas.List.Concat.{flat_map-cons}
use Rattle.ken_record.specs.declared.page.Page.{Page}
use Rattle.ken_record.specs.declared.header.Header.{Header}
use Rattle.ken_record.specs.declared.base.Base.{Base}
use Rattle.ken_record.specs.declared.record.Record.{Record}
use Rattle.ken_cover.specs.declared.layers.Change.{Change}
use Rattle.ken_cover.specs.declared.layers.Layer.{Layer}
use Rattle.ken_cover.specs.Sides.{pages_of, changes_at, onto, recounted, with_pages}
use Rattle.ken_cover.proofs.Bases.{page_in, pages_of-first, pages-changes_at}
use Rattle.ken_store.specs.Ahead.{page_layers, record_layers}
use Rattle.ken_store.specs.Kept.{base_pages, record_pages, pages_in}
use Rattle.ken_store.specs.Turning.{changed_in, record_layer, live_layers}

zipped : (turns : List ℕ) (pages : List Page) → length turns ≡ length pages → map page_in (map changed_in (zip turns pages)) ≡ pages
zipped [] [] is = refl
zipped [] (e ∷ es) is = absurd (let none : ⊥ = cc is in none)
zipped (t ∷ ts) [] is = absurd (let none : ⊥ = cc is in none)
zipped (t ∷ ts) (e ∷ es) is = ap (λ l. e ∷ l) (zipped ts es (cc is))

records_pages : (records : List Record) → pages_of (map record_layer records) ≡ flat_map record_pages records
records_pages [] = refl
records_pages (r ∷ rs) =
    pages_of-first (record_layer r) (map record_layer rs)
    ∙ ap (λ l. l ++ pages_of (map record_layer rs)) (pages-changes_at r.turn r.pages)
    ∙ ap (λ l. r.pages ++ l) (records_pages rs)
    ∙ sym (flat_map-cons record_pages r rs)

-- the pages of the live records are those that the log tells
pub live_pages : (head : Header) (base : Option Base) (turns : List ℕ) (records : List Record) → length turns ≡ length (base_pages base) → pages_of (live_layers head base turns records) ≡ pages_in base records
live_pages head None turns records is = records_pages records
live_pages head (Some b) turns records is =
    pages_of-first (record { turn = head.turns; changes = map changed_in (zip turns b.pages) }) (map record_layer records)
    ∙ ap (λ l. l ++ pages_of (map record_layer records)) (zipped turns b.pages is)
    ∙ ap (λ l. b.pages ++ l) (records_pages records)

-- ---- after a recovery

recount_at : (turn : ℕ) (pages : List Page) → map (λ (c : Change). record c { turn = turn }) (changes_at turn pages) ≡ changes_at turn pages
recount_at turn [] = refl
recount_at turn (e ∷ es) = ap (λ l. record { turn = turn; page = e } ∷ l) (recount_at turn es)

at_zip : (turn : ℕ) (pages : List Page) → map changed_in (zip (replicate (length pages) turn) pages) ≡ changes_at turn pages
at_zip turn [] = refl
at_zip turn (e ∷ es) = ap (λ l. record { turn = turn; page = e } ∷ l) (at_zip turn es)

recount_records : (records : List Record) → map recounted (map record_layer records) ≡ map record_layer records
recount_records [] = refl
recount_records (r ∷ rs) =
    ap (λ cs. record { turn = r.turn; changes = cs } ∷ map recounted (map record_layer rs)) (recount_at r.turn r.pages)
    ∙ ap (λ l. record_layer r ∷ l) (recount_records rs)

module _ (head : Header) (records : List Record) where
  -- each page counts as changed by the last turn of its layer already
  pub live_recounted : (base : Option Base) → map recounted (live_layers head base (replicate (length (base_pages base)) head.turns) records) ≡ live_layers head base (replicate (length (base_pages base)) head.turns) records
  live_recounted None = recount_records records
  live_recounted (Some b) =
      let at = at_zip head.turns b.pages in
      let again = ap (map (λ (c : Change). record c { turn = head.turns })) at ∙ recount_at head.turns b.pages ∙ sym at in
      ap (λ cs. record { turn = head.turns; changes = cs } ∷ map recounted (map record_layer records)) again
      ∙ ap (λ l. record { turn = head.turns; changes = map changed_in (zip (replicate (length b.pages) head.turns) b.pages) } ∷ l) (recount_records records)

onto_more : (turn : ℕ) (cs : List Change) (ls : List Layer) → onto turn cs ls ≡ onto turn cs [] ++ ls
onto_more turn [] ls = refl
onto_more turn (c ∷ cs) ls = refl

with_records : (records : List Record) → with_pages (map record_layer records) ≡ record_layers records
with_records [] = refl
with_records (r ∷ rs) =
    onto_more r.turn (changes_at r.turn r.pages) (with_pages (map record_layer rs))
    ∙ ap (λ l. page_layers r.turn r.pages ++ l) (with_records rs)
    ∙ sym (flat_map-cons (λ (r : Record). page_layers r.turn r.pages) r rs)

-- those that have pages are what a recovery finds to patch
pub live_ahead : (head : Header) (base : Option Base) (records : List Record) → with_pages (live_layers head base (replicate (length (base_pages base)) head.turns) records) ≡ page_layers head.turns (base_pages base) ++ record_layers records
live_ahead head None records = with_records records
live_ahead head (Some b) records =
    ap (λ cs. onto head.turns cs (with_pages (map record_layer records))) (at_zip head.turns b.pages)
    ∙ onto_more head.turns (changes_at head.turns b.pages) (with_pages (map record_layer records))
    ∙ ap (λ l. page_layers head.turns b.pages ++ l) (with_records records)
