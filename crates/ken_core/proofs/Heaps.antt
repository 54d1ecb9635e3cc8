-- A heap with pages laid over it and taken off again, and the value that is kept beside it.
use Rattle.std.proofs.Common.{◌≡◌, ℕ, ◌*◌, List, [], ◌∷◌, length, Bool, true, false, ◌==◌, if◌then◌else◌, Option, Some, None, refl, ap, ◌∙◌}
use Rattle.std.specs.List.{AllByRecursion}
use Rattle.std.specs.Option.{option_or}
use Rattle.std.proofs.lemmas.Bool.{eqb-true}
use Rattle.ken_model.specs.declared.values.Value.{Value}
use Rattle.ken_model.specs.Heap.{IsHeap}
use Rattle.ken_model.specs.Reading.{read_value}
use Rattle.ken_model.proofs.Valid.{IsHeap-stands}
use Rattle.ken_model.proofs.ReadBack.{reads_what_stands}
use Rattle.ken_record.specs.declared.page.Page.{Page}
use Rattle.ken_pages.specs.Paged.{page_of}
use Rattle.ken_cover.specs.Overlay.{overlay, newest, AreWithin}
use Rattle.ken_cover.proofs.Bytes.{same_pages}
use Rattle.ken_cover.proofs.Newest.{bytes_or, length-overlay, page_of-overlay}
use Rattle.ken_cover.proofs.Bases.{length-page_of}
use Rattle.ken_core.specs.Enabled.{IsChanged}
use Rattle.ken_core.specs.Pages.{IsFit}
use Rattle.ken_core.specs.Heaps.{pages_before}

pub changed_fit : (heap : List ℕ) (pages : List Page) → AllByRecursion (IsChanged heap) pages → AllByRecursion (IsFit (length heap)) pages
changed_fit heap [] all = tt
changed_fit heap (e ∷ es) all = ((all.0.within, all.0.bytes), changed_fit heap es all.1)

pub before_within : (n : ℕ) (heap : List ℕ) (pages : List Page) → length heap ≡ 256 * n → AreWithin n pages → AreWithin n (pages_before heap pages)
before_within n heap [] size all = tt
before_within n heap (e ∷ es) size all = ((all.0.0, length-page_of n e.page heap size all.0.0), before_within n heap es size all.1)

-- a page that was laid, and what was there before
abbrev pub IsUndone : List ℕ → Option Page → Option Page → Type 0
IsUndone x None None = Unit {0}
IsUndone x (Some e) (Some f) = f.bytes ≡ x
IsUndone x None (Some f) = ⊥
IsUndone x (Some e) None = ⊥

undone_one : (x : List ℕ) (n o : Option Page) (b : Bool) (e f : Page) → IsUndone x n o → (b ≡ true → f.bytes ≡ x) → IsUndone x (option_or n (if b then Some e else None)) (option_or o (if b then Some f else None))
undone_one x None None true e f rest own = own refl
undone_one x None None false e f rest own = tt
undone_one x (Some n) (Some o) b e f rest own = rest
undone_one x None (Some o) b e f rest own = absurd rest
undone_one x (Some n) None b e f rest own = absurd rest

undone_at : (heap : List ℕ) (p : ℕ) (pages : List Page) → IsUndone (page_of heap p) (newest p pages) (newest p (pages_before heap pages))
undone_at heap p [] = tt
undone_at heap p (e ∷ es) =
    undone_one (page_of heap p) (newest p es) (newest p (pages_before heap es)) (e.page == p) e (record { page = e.page; bytes = page_of heap e.page }) (undone_at heap p es) (λ same. ap (page_of heap) (eqb-true e.page p same))

undone_is : (x : List ℕ) (n o : Option Page) → IsUndone x n o → bytes_or (bytes_or x n) o ≡ x
undone_is x None None is = refl
undone_is x (Some e) (Some f) is = is
undone_is x None (Some f) is = absurd is
undone_is x (Some e) None is = absurd is

-- the old pages, laid over a heap where pages were laid, give it back
pub laid_back : (n : ℕ) (heap : List ℕ) (pages : List Page) → length heap ≡ 256 * n → AreWithin n pages → overlay (overlay heap pages) (pages_before heap pages) ≡ heap
laid_back n heap pages size all =
    let within = before_within n heap pages size all in
    let laid = length-overlay n heap pages size all in
    same_pages n (overlay (overlay heap pages) (pages_before heap pages)) heap (length-overlay n (overlay heap pages) (pages_before heap pages) laid within) size
    (λ p lt. page_of-overlay n (overlay heap pages) (pages_before heap pages) p laid within
    ∙ ap (λ x. bytes_or x (newest p (pages_before heap pages))) (page_of-overlay n heap pages p size all)
    ∙ undone_is (page_of heap p) (newest p pages) (newest p (pages_before heap pages)) (undone_at heap p pages))

-- a value that is read is a heap
pub read_heap : (bytes : List ℕ) (v : Value) → read_value bytes ≡ Some v → IsHeap v
read_heap bytes v is = IsHeap-stands bytes v ((reads_what_stands bytes v).0 is)
