-- Heaps that an image is read into, and that pages are laid over.
use Rattle.std.proofs.Common.{◌≡◌, ℕ, ◌+◌, ◌*◌, ◌<◌, ◌≤◌, List, ◌∷◌, ◌++◌, length, take, drop, get_or, sym, ap, subst, ◌∙◌, append_assoc, length-append, arith, Option, None}
use Rattle.std.specs.List.{flat_map}
use Rattle.std.proofs.Math.Seq.{take-add}
use Rattle.std.proofs.lemmas.List.Concat.{flat_map-cons}
use Rattle.std.proofs.lemmas.List.{drop_more, take_at, length-take-le}
use Rattle.ken_disk.specs.Fates.{Fate}
use Rattle.ken_disk.specs.Story.{Story, Tells}
use Rattle.ken_disk.proofs.Overwrites.{length-overwrite}
use Rattle.ken_frame.specs.Written.{written}
use Rattle.ken_pages.specs.Paged.{Paged}
use Rattle.ken_record.specs.declared.page.Page.{Page}
use Rattle.ken_record.specs.declared.record.Record.{Record}
use Rattle.ken_cover.specs.Overlay.{overlay, with_page, IsWithin, AreWithin}
use Rattle.ken_cover.proofs.Bytes.{length-with_page}
use Rattle.ken_cover.proofs.Newest.{overlay-append}
use Rattle.ken_image.specs.declared.image.Image.{Image}
use Rattle.ken_image.specs.Whole.{IsWhole}
use Rattle.ken_store.specs.Kept.{record_pages}
use Rattle.ken_store.specs.Reads.{IsSame}
use Rattle.ken_store.proofs.Places.{AllByRecursion-at}

-- so many pages of an image are in a heap
pub record Loaded {D : Type 0} (told : D → Option Story) (size faults : D → ℕ) (fate : D → Option Fate) (old : Image D) (count : ℕ) (now : Image D) (heap : Paged) : Type 0 where
  pub bytes : Tells (told old.disk) (λ h. take (256 * count) heap.bytes ≡ take (256 * count) h.now.seen)
  pub idle : heap.begun ≡ None
  pub long : length heap.bytes ≡ 256 * old.pages
  pub whole : IsWhole told size now
  pub pages : now.pages ≡ old.pages
  pub same : IsSame told faults fate old.disk now.disk

-- pages up to an index lie over a heap
pub record Laid (count : ℕ) (pages : List Page) (old : Paged) (index : ℕ) (now : Paged) : Type 0 where
  pub bytes : overlay old.bytes pages ≡ overlay now.bytes (drop index pages)
  pub idle : now.begun ≡ None
  pub long : length now.bytes ≡ 256 * count

-- one page more lies over a heap
pub laid_more : (count : ℕ) (pages : List Page) (old now new : Paged) (index : ℕ) (e : Page) → Laid count pages old index now → AreWithin count pages → index < length pages → e ≡ get_or pages index e
    → new.bytes ≡ with_page now.bytes e → new.begun ≡ None → Laid count pages old (index + 1) new
laid_more count pages old now new index e laid within less is bytes idle =
    let here : drop index pages ≡ e ∷ drop (index + 1) pages = drop_more pages index e less ∙ ap (λ (x : Page). x ∷ drop (index + 1) pages) (sym is) in
    let inside : IsWithin count e = subst (IsWithin count) (sym is) (AllByRecursion-at (IsWithin count) index pages e less within) in
    record {
      bytes = laid.bytes ∙ ap (overlay now.bytes) here ∙ ap (λ (b : List ℕ). overlay b (drop (index + 1) pages)) (sym bytes);
      idle = idle;
      long = ap length bytes ∙ length-with_page count now.bytes e laid.long inside ∙ laid.long;
    }

-- one page more of an image is in a heap
module _ (count : ℕ) (heap seen frame : List ℕ) (place : 256 * count + 256 ≤ length heap) (is : frame ≡ take 256 (drop (256 * count) seen)) (long : length frame ≡ 256) (so_far : take (256 * count) heap ≡ take (256 * count) seen) where
  pub loaded_more : take (256 * (count + 1)) (written heap (256 * count) frame) ≡ take (256 * (count + 1)) seen
  loaded_more =
      let next : 256 * (count + 1) ≡ 256 * count + 256 = omega arith in
      let front : length (take (256 * count) heap ++ frame) ≡ 256 * count + 256 = omega (arith, long, length-append (take (256 * count) heap) frame, length-take-le (256 * count) heap (omega (arith, place))) in
      ap (λ (n : ℕ). take n (written heap (256 * count) frame)) next
      ∙ ap (take (256 * count + 256)) (sym (append_assoc (take (256 * count) heap) frame (drop (256 * count + length frame) heap)))
      ∙ take_at (take (256 * count) heap ++ frame) (drop (256 * count + length frame) heap) (256 * count + 256) front
      ∙ ap (λ (l : List ℕ). l ++ frame) so_far
      ∙ ap (λ (l : List ℕ). take (256 * count) seen ++ l) is
      ∙ sym (take-add (256 * count) 256 seen)
      ∙ ap (λ (n : ℕ). take n seen) (sym next)

pub length-written : (heap frame : List ℕ) (at : ℕ) → at + length frame ≤ length heap → length (written heap at frame) ≡ length heap
length-written heap frame at inside = omega (arith, inside, length-overwrite at frame heap (omega (arith, inside)))

-- the pages of records up to an index lie over a heap
pub record Piled (count : ℕ) (records : List Record) (old : Paged) (index : ℕ) (now : Paged) : Type 0 where
  pub bytes : overlay old.bytes (flat_map record_pages records) ≡ overlay now.bytes (flat_map record_pages (drop index records))
  pub idle : now.begun ≡ None
  pub long : length now.bytes ≡ 256 * count

pub piled_more : (count : ℕ) (records : List Record) (old now new : Paged) (index : ℕ) (r : Record) → Piled count records old index now → index < length records → r ≡ get_or records index r
    → new.bytes ≡ overlay now.bytes r.pages → new.begun ≡ None → length new.bytes ≡ 256 * count → Piled count records old (index + 1) new
piled_more count records old now new index r piled less is laid idle long =
    let here : drop index records ≡ r ∷ drop (index + 1) records = drop_more records index r less ∙ ap (λ (x : Record). x ∷ drop (index + 1) records) (sym is) in
    record {
      bytes = piled.bytes ∙ ap (λ (l : List Record). overlay now.bytes (flat_map record_pages l)) here
          ∙ ap (overlay now.bytes) (flat_map-cons record_pages r (drop (index + 1) records))
          ∙ overlay-append now.bytes r.pages (flat_map record_pages (drop (index + 1) records))
          ∙ ap (λ (b : List ℕ). overlay b (flat_map record_pages (drop (index + 1) records))) (sym laid);
      idle = idle;
      long = long;
    }
