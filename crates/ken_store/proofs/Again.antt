-- A heap that is made anew of an image and the live records is covered.
use Rattle.std.proofs.Common.{◌≡◌, ℕ, ◌*◌, List, length, map, true, false, Option, Some, None, refl, sym, ap, subst, ◌∙◌}
use Rattle.std.proofs.lemmas.Bool.{false≢true}
use Rattle.ken_pages.specs.Paged.{page_of}
use Rattle.ken_record.specs.declared.page.Page.{Page}
use Rattle.ken_cover.specs.declared.layers.Layer.{Layer}
use Rattle.ken_cover.specs.Overlay.{overlay, numbers, among, newest, AreWithin}
use Rattle.ken_cover.specs.Sides.{ImagePages, pages_of, recounted, with_pages, recovered_image_pages}
use Rattle.ken_cover.specs.Covers.{Covers}
use Rattle.ken_cover.proofs.Bytes.{same_pages}
use Rattle.ken_cover.proofs.Newest.{bytes_or, length-overlay, page_of-overlay, none_newest}
use Rattle.ken_cover.proofs.Bases.{pages_of-with_pages, pages_of-recounted}

twice : (x : List ℕ) (o : Option Page) → bytes_or (bytes_or x o) o ≡ bytes_or x o
twice x None = refl
twice x (Some e) = refl

module _ (n : ℕ) (live : List Layer) (i : ImagePages) (size : length i.image ≡ 256 * n) (within : AreWithin n (pages_of live)) (shut : (p : ℕ) → i.«open» p ≡ false) where
  abbrev heap : List ℕ
  heap = overlay i.image (pages_of live)

  long : length heap ≡ 256 * n
  long = length-overlay n i.image (pages_of live) size within

  laid_again : overlay heap (pages_of live) ≡ heap
  laid_again =
      same_pages n _ _ (length-overlay n heap (pages_of live) long within) long
      (λ p lt.
      page_of-overlay n heap (pages_of live) p long within
      ∙ ap (λ x. bytes_or x (newest p (pages_of live))) (page_of-overlay n i.image (pages_of live) p size within)
      ∙ twice (page_of i.image p) (newest p (pages_of live))
      ∙ sym (page_of-overlay n i.image (pages_of live) p size within))

  ahead_pages : pages_of (with_pages (map recounted live)) ≡ pages_of live
  ahead_pages = pages_of-with_pages (map recounted live) ∙ pages_of-recounted live

  pub covered_again : Covers n true (record { heap = overlay i.image (pages_of live); live = live }) (recovered_image_pages live i)
  covered_again = record {
    heap_size = long;
    image_size = size;
    live_within = within;
    ahead_within = subst (AreWithin n) (sym ahead_pages) within;
    stands = laid_again;
    covered = λ p h. h;
    safe = λ image q p h.
        q.same p (shut p)
        ∙ sym (page_of-overlay n i.image (pages_of live) p size within ∙ ap (bytes_or (page_of i.image p)) (none_newest p (pages_of live) h));
    opened = λ p h. absurd (false≢true (sym (shut p) ∙ h));
    coming = λ p h. subst (λ es. among (numbers es) p ≡ true) ahead_pages h;
    goal = λ _. ap (overlay i.image) ahead_pages;
  }
