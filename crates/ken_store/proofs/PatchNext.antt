-- A side before and after the next page is written.
use Rattle.std.proofs.Common.{◌≡◌, ℕ, ◌*◌, ◌<◌, List, [], ◌∷◌, ◌++◌, length, get_or, take, drop, Option, Result, Ok, Err, refl, sym, ap, subst, ◌∙◌, arith}
use Rattle.ken_disk.specs.declared.faults.DiskFault.{DiskFault}
use Rattle.ken_disk.specs.declared.faults.DiskFault.TheVariants.{Failed, Memory}
use Rattle.ken_disk.specs.Story.{Story, Tells, Follows}
use Rattle.ken_disk.specs.Moments.{Through}
use Rattle.ken_disk.specs.Steps.{after_writing}
use Rattle.ken_disk.proofs.Told.{weakened, tells_after}
use Rattle.ken_record.specs.declared.page.Page.{Page}
use Rattle.ken_cover.specs.declared.layers.Change.{Change}
use Rattle.ken_cover.specs.Overlay.{newest_by, AreWithin}
use Rattle.ken_cover.specs.Sides.{ImagePages, pages_of, changes_at, onto, without_page, patched_page}
use Rattle.ken_cover.proofs.Bases.{pages_of-first, pages_of-onto, pages-changes_at, AreWithin-left, AreWithin-right}
use Rattle.ken_cover.proofs.Newest.{AreWithin-append}
use Rattle.ken_image.specs.declared.image.Image.{Image}
use Rattle.ken_image.specs.Calls.{Call, Write, Called}
use Rattle.ken_image.specs.Pages.{place_of, IsTornPage}
use Rattle.ken_image.specs.Whole.{HasAllPages}
use Rattle.ken_store.specs.declared.patching.Ahead.{Ahead}
use Rattle.ken_store.specs.declared.patching.PatchSide.{PatchSide}
use Rattle.ken_store.specs.Ahead.{frame_pages, ahead_layer, ahead_layers}
use Rattle.ken_store.specs.Patching.{HoldsImage, IsInOrder, IsPatchSide, Patching, Patched, MayBePatched, page_calls, first_number, GoesOn}
use Rattle.ken_store.proofs.Holding.{both, after_failed, after_memory, stands_after}
use Rattle.ken_store.proofs.Patched.{FirstOf, first_of, page_in, newest_first, without_first, IsPassed, rises, passed, through_patch, holds_patched}

-- the first of what is ahead
pub front_is : (items : List Ahead) (x : Ahead) → 0 < length items → x ≡ get_or items 0 x → items ≡ x ∷ drop 1 items
front_is [] x lt is = absurd (omega arith)
front_is (a ∷ rest) x lt is = ap (λ (y : Ahead). y ∷ rest) (sym is)

module _ {D : Type 0} (told : D → Option Story) (size : D → ℕ) (old : PatchSide D) (takes : IsPatchSide told size old) (a : Ahead) (rest : List Ahead) (is : old.ahead.items ≡ a ∷ rest) where
  order : IsInOrder old.known (a ∷ rest)
  order = subst (IsInOrder old.known) is takes.order

  abbrev one : FirstOf a.pages.items
  one = first_of a.pages.items order.each.0.some

  parts : pages_of (ahead_layers old.ahead.items) ≡ frame_pages a.pages.items ++ pages_of (ahead_layers rest)
  parts =
      ap (λ (l : List Ahead). pages_of (ahead_layers l)) is
      ∙ pages_of-first (ahead_layer a) (ahead_layers rest)
      ∙ ap (λ (es : List Page). es ++ pages_of (ahead_layers rest)) (pages-changes_at a.turn (frame_pages a.pages.items))

  all_within : AreWithin old.image.pages (frame_pages a.pages.items ++ pages_of (ahead_layers rest))
  all_within = subst (AreWithin old.image.pages) parts takes.within

  pub first_within : AreWithin old.image.pages (frame_pages a.pages.items)
  first_within = AreWithin-left old.image.pages (frame_pages a.pages.items) (pages_of (ahead_layers rest)) all_within

  one_within : AreWithin old.image.pages (one.page ∷ one.others)
  one_within = subst (AreWithin old.image.pages) one.all first_within

  abbrev change : Change
  change = record { turn = a.turn; page = one.page }

  -- what is left to patch
  module _ (new : PatchSide D) (whole : HasAllPages told size new.image) (count : new.image.pages ≡ old.image.pages) (known : new.known ≡ old.known) (goes : GoesOn old.ahead.items new.ahead.items) where
    left : IsPassed old.known a rest one.others new.ahead.items
    left = passed old.known a rest new.ahead.items order one (subst (λ (l : List Ahead). GoesOn l new.ahead.items) is goes)

    pub side_patched : IsPatchSide told size new
    side_patched = record {
      image = whole;
      order = subst (λ (k : ℕ). IsInOrder k new.ahead.items) (sym known) left.in_order;
      within = subst (λ (n : ℕ). AreWithin n (pages_of (ahead_layers new.ahead.items))) (sym count)
          (subst (AreWithin old.image.pages)
          (sym (ap pages_of left.layers ∙ pages_of-onto a.turn (changes_at a.turn one.others) (ahead_layers rest) ∙ ap (λ (es : List Page). es ++ pages_of (ahead_layers rest)) (pages-changes_at a.turn one.others)))
          (AreWithin-append old.image.pages one.others (pages_of (ahead_layers rest)) one_within.1
          (AreWithin-right old.image.pages (frame_pages a.pages.items) (pages_of (ahead_layers rest)) all_within)));
    }

  module _ (i : ImagePages) (p : Patching told size old i) where
    abbrev after : ImagePages
    after = patched_page (ahead_layer a) (ahead_layers rest) change i

    is_patched : Patched i after
    is_patched = record {
      page = one.page.page;
      first = ahead_layer a;
      rest = ahead_layers rest;
      change = change;
      next = record {
        oldest = sym p.ahead ∙ ap ahead_layers is;
        page = ap (λ (es : List Page). newest_by page_in one.page.page (changes_at a.turn es)) one.all ∙ newest_first a.turn one.page one.others (rises old.known a rest [] order one);
      };
      is = refl;
    }

    after_ahead : after.ahead ≡ onto a.turn (changes_at a.turn one.others) (ahead_layers rest)
    after_ahead = ap (λ (cs : List Change). onto a.turn cs (ahead_layers rest))
        (ap (λ (es : List Page). without_page one.page.page (changes_at a.turn es)) one.all ∙ without_first a.turn one.page one.others (rises old.known a rest [] order one))

    module _ (disk : D) (moment : Follows (λ h s. Through (IsTornPage (first_number a.pages.items) h.now) h s) (told old.image.disk) (told disk)) where
      torn : Follows (λ h s. Through (IsTornPage one.page.page h.now) h s) (told old.image.disk) (told disk)
      torn = subst (λ (q : ℕ). Follows (λ h s. Through (IsTornPage q h.now) h s) (told old.image.disk) (told disk)) one.number moment

      pub patch_moment : Follows (λ h s. Through (λ image. MayBePatched i (take (256 * old.image.pages) image)) h s) (told old.image.disk) (told disk)
      patch_moment = weakened (λ h s. Through (IsTornPage one.page.page h.now) h s) (λ h s. Through (λ image. MayBePatched i (take (256 * old.image.pages) image)) h s) (told old.image.disk) (told disk) torn
          (λ h s was through. through_patch old.image.pages i (ahead_layer a) (ahead_layers rest) change one_within.0 h (takes.image.keeps h was) (p.holds h was) s through is_patched)

      -- the page counts as written
      holds_after : Follows (λ h s. s ≡ after_writing (place_of one.page.page) one.page.bytes h) (told old.image.disk) (told disk) → Tells (told disk) (λ h. HoldsImage old.image.pages after h.now)
      holds_after wrote =
          tells_after (λ h s. Through (IsTornPage one.page.page h.now) h s × (s ≡ after_writing (place_of one.page.page) one.page.bytes h)) (λ h. HoldsImage old.image.pages after h.now) (told old.image.disk) (told disk)
          (both (λ h s. Through (IsTornPage one.page.page h.now) h s) (λ h s. s ≡ after_writing (place_of one.page.page) one.page.bytes h) (told old.image.disk) (told disk) torn wrote)
          (λ h s was now. holds_patched old.image.pages i (ahead_layer a) (ahead_layers rest) change one_within.0 h (takes.image.keeps h was) (p.holds h was) s now.0 now.1)

      module _ (T : Type 0) (r : Result T DiskFault) (calls : Follows (Called r (page_calls a.pages.items)) (told old.image.disk) (told disk)) where
        called : Follows (Called r (Write (place_of one.page.page) one.page.bytes ∷ [])) (told old.image.disk) (told disk)
        called = subst (λ (cs : List Call). Follows (Called r cs) (told old.image.disk) (told disk)) one.calls calls

    -- the page counts as written
    stands_for : (new : PatchSide D) → HasAllPages told size new.image → new.image.pages ≡ old.image.pages → new.known ≡ old.known → GoesOn old.ahead.items new.ahead.items
        → Follows (λ h s. Through (IsTornPage (first_number a.pages.items) h.now) h s) (told old.image.disk) (told new.image.disk)
        → Follows (λ h s. s ≡ after_writing (place_of one.page.page) one.page.bytes h) (told old.image.disk) (told new.image.disk) → Patching told size new after
    stands_for new whole count known goes moment wrote = record {
      takes = side_patched new whole count known goes;
      ahead = (left new whole count known goes).layers ∙ sym after_ahead;
      holds = subst (λ (n : ℕ). Tells (told new.image.disk) (λ h. HoldsImage n after h.now)) (sym count) (holds_after new.image.disk moment wrote);
    }

    -- true
    pub patched_ok : (new : PatchSide D) → HasAllPages told size new.image → new.image.pages ≡ old.image.pages → new.known ≡ old.known → GoesOn old.ahead.items new.ahead.items
        → Follows (λ h s. Through (IsTornPage (first_number a.pages.items) h.now) h s) (told old.image.disk) (told new.image.disk)
        → (T : Type 0) (x : T) → Follows (Called {T = T} (Ok x) (page_calls a.pages.items)) (told old.image.disk) (told new.image.disk)
        → (i2 : ImagePages) × (Patched i i2 × Patching told size new i2)
    patched_ok new whole count known goes moment T x calls = (after, (is_patched, stands_for new whole count known goes moment (called new.image.disk moment T (Ok x) calls)))

    -- the write failed
    pub patched_failed : (new : PatchSide D) → Tells (told new.image.disk) (λ h. HasAllPages told size new.image) → new.image.pages ≡ old.image.pages → new.known ≡ old.known → GoesOn old.ahead.items new.ahead.items
        → Follows (λ h s. Through (IsTornPage (first_number a.pages.items) h.now) h s) (told old.image.disk) (told new.image.disk)
        → (T : Type 0) → Follows (Called {T = T} (Err Failed) (page_calls a.pages.items)) (told old.image.disk) (told new.image.disk)
        → (i2 : ImagePages) × (Patched i i2 × Tells (told new.image.disk) (λ h. Patching told size new i2))
    patched_failed new whole count known goes moment T calls = (
      after,
      (
        is_patched,
        λ h now. stands_for new (whole h now) count known goes moment
            (weakened (Called {T = T} (Err Failed) (Write (place_of one.page.page) one.page.bytes ∷ [])) (λ h s. s ≡ after_writing (place_of one.page.page) one.page.bytes h) (told old.image.disk) (told new.image.disk)
            (called new.image.disk moment T (Err Failed) calls) (λ h s was so. after_failed T (Write (place_of one.page.page) one.page.bytes) h s so)),
      ),
    )

    -- nothing was written, for want of memory
    pub patched_none : (im : Image D) → HasAllPages told size im → im.pages ≡ old.image.pages
        → Follows (λ h s. Through (IsTornPage (first_number a.pages.items) h.now) h s) (told old.image.disk) (told im.disk)
        → (T : Type 0) → Follows (Called {T = T} (Err Memory) (page_calls a.pages.items)) (told old.image.disk) (told im.disk) → Patching told size (record old { image = im }) i
    patched_none im whole count moment T calls =
        stands_after told size old (record old { image = im }) i p
        (record { image = whole; order = takes.order; within = subst (λ (n : ℕ). AreWithin n (pages_of (ahead_layers old.ahead.items))) (sym count) takes.within })
        count i (Called {T = T} (Err Memory) (Write (place_of one.page.page) one.page.bytes ∷ [])) (called im.disk moment T (Err Memory) calls) p.ahead
        (λ h s holds so. subst (λ (x : Story). HoldsImage old.image.pages i x.now) (sym (after_memory T (Write (place_of one.page.page) one.page.bytes) h s so)) holds)
