-- A disk that holds an image, before and after a call of it.
use Rattle.std.proofs.Common.{◌≡◌, ℕ, ◌*◌, List, [], ◌∷◌, ◌++◌, length, take, refl, sym, ap, subst, ◌∙◌, Option, Some, None, Err}
use Rattle.ken_disk.specs.declared.faults.DiskFault.TheVariants.{Failed, Memory}
use Rattle.ken_disk.specs.Story.{DiskState, Story, IsImage, IsAtRest, Tells, Follows}
use Rattle.ken_disk.specs.Moments.{Through}
use Rattle.ken_disk.proofs.Images.{image_at_rest}
use Rattle.ken_disk.proofs.Since.{weaker}
use Rattle.ken_disk.proofs.Told.{some_is, tells_after}
use Rattle.ken_pages.specs.Paged.{page_of}
use Rattle.ken_cover.specs.Sides.{ImagePages, pages_of, synced_pages}
use Rattle.ken_cover.specs.Covers.{IsPossible}
use Rattle.ken_image.specs.Calls.{Call, Sync, Called, Stop, after_calls, after_failure}
use Rattle.ken_image.specs.declared.faults.ImageFault.{ImageFault}
use Rattle.ken_image.specs.declared.faults.ImageFault.TheVariants as image
use Rattle.ken_image.specs.declared.image.Image.{Image}
use Rattle.ken_image.specs.Whole.{HasAllPages}
use Rattle.ken_image.specs.Faults.{as_disk}
use Rattle.ken_store.specs.declared.patching.PatchSide.{PatchSide}
use Rattle.ken_store.specs.Ahead.{ahead_layers}
use Rattle.ken_store.specs.Patching.{HoldsImage, IsPatchSide, Patching, SettlesBy}
use Rattle.ken_store.specs.Reads.{of_image}
use Rattle.ken_cover.specs.Overlay.{AreWithin}

-- both follow
pub both : {X : Type 0} → (R S : X → X → Type 0) (old new : Option X) → Follows R old new → Follows S old new → Follows (λ x y. R x y × S x y) old new
both R S None new one two = one
both R S (Some x) new one two =
    let same : two.0 ≡ one.0 = some_is two.0 one.0 (sym two.1 ∙ one.1) in
    (one.0, one.1, (one.2, subst (S x) same two.2))

-- no call was made
pub by_told : {X : Type 0} → (R : X → X → Type 0) (o : Option X) → ((x : X) → o ≡ Some x → R x x) → Follows R o o
by_told R None holds = refl
by_told R (Some x) holds = (x, refl, holds x refl)

-- ---- one call that didn't come through

record Single (call : Call) (stop : Stop (call ∷ [])) : Type 0 where
  pub none : stop.done ≡ []
  pub next : stop.next ≡ call

single : (call : Call) (stop : Stop (call ∷ [])) → Single call stop
single call stop = at stop.done refl stop.parts
  where
    short : (ds : List Call) → [] ≡ ds ++ stop.next ∷ stop.left → {A : Type 0} → A
    short [] e = absurd cc
    short (d ∷ ds) e = absurd cc

    at : (ds : List Call) → stop.done ≡ ds → call ∷ [] ≡ ds ++ stop.next ∷ stop.left → Single call stop
    at [] is e = record { none = is; next = cc e }
    at (d ∷ ds) is e = let less : [] ≡ ds ++ stop.next ∷ stop.left = cc e in short ds less

pub after_failed : (T : Type 0) (call : Call) (h s : Story) → Called {T = T} (Err Failed) (call ∷ []) h s → s ≡ after_failure call h
after_failed T call h s c =
    let one = single call c.0 in
    c.1 ∙ ap (λ (calls : List Call). after_failure c.0.next (after_calls calls h)) one.none ∙ ap (λ (x : Call). after_failure x h) one.next

pub after_memory : (T : Type 0) (call : Call) (h s : Story) → Called {T = T} (Err Memory) (call ∷ []) h s → s ≡ h
after_memory T call h s c =
    let one = single call c.0 in
    c.1 ∙ ap (λ (calls : List Call). after_calls calls h) one.none

-- ---- a sync

pub sync_failed : (T : Type 0) (e : ImageFault) (h s : Story) → Called {T = T} (as_disk (Err e)) (Sync ∷ []) h s → s ≡ h
sync_failed T image.Disk h s c = after_failed T Sync h s c
sync_failed T image.Memory h s c = after_memory T Sync h s c

module _ (n : ℕ) (i : ImagePages) where
  pub through_sync : (h s : Story) → HoldsImage n i h.now → Through (IsImage h.now) h s → Through (λ image. IsPossible i (take (256 * n) image)) h s
  through_sync h s holds through = weaker (IsImage h.now) (λ image. IsPossible i (take (256 * n) image)) h s (λ image is. holds.left image is) through

  pub holds_synced : (h s : DiskState) → HoldsImage n i h → IsAtRest s → s.seen ≡ h.seen → HoldsImage n (synced_pages i) s
  holds_synced h s holds rests same =
      let seen : take (256 * n) s.seen ≡ i.image = ap (take (256 * n)) same ∙ holds.seen in
      record {
        seen = seen;
        left = λ image is.
            let it : take (256 * n) image ≡ i.image = ap (take (256 * n)) (image_at_rest s rests image is) ∙ seen in
            record { size = ap length it; same = λ p _. ap (λ (x : List ℕ). page_of x p) it };
      }

-- ---- a side whose image was called

module _ {D : Type 0} (told : D → Option Story) (size : D → ℕ) (old new : PatchSide D) (i : ImagePages) (p : Patching told size old i) (takes : IsPatchSide told size new) (count : new.image.pages ≡ old.image.pages) where
  pub stands_after : (j : ImagePages) (R : Story → Story → Type 0) → Follows R (told old.image.disk) (told new.image.disk) → ahead_layers new.ahead.items ≡ j.ahead
      → ((h s : Story) → HoldsImage old.image.pages i h.now → R h s → HoldsImage old.image.pages j s.now) → Patching told size new j
  stands_after j R follows ahead so = record {
    takes = takes;
    ahead = ahead;
    holds = subst (λ (n : ℕ). Tells (told new.image.disk) (λ h. HoldsImage n j h.now)) (sym count)
        (tells_after R (λ h. HoldsImage old.image.pages j h.now) (told old.image.disk) (told new.image.disk) follows (λ h s is r. so h s (p.holds h is) r));
  }

-- a sync that didn't come through
module _ {D : Type 0} (told : D → Option Story) (size : D → ℕ) (old : PatchSide D) (i : ImagePages) (p : Patching told size old i) (im : Image D) (count : im.pages ≡ old.image.pages) where
  abbrev side : PatchSide D
  side = record old { image = im }

  still : (T : Type 0) (e : ImageFault) → HasAllPages told size im → Follows (Called {T = T} (as_disk (Err e)) (Sync ∷ [])) (told old.image.disk) (told im.disk) → Patching told size side i
  still T e whole calls =
      stands_after told size old side i p (record { image = whole; order = p.takes.order; within = subst (λ (n : ℕ). AreWithin n (pages_of (ahead_layers old.ahead.items))) (sym count) p.takes.within })
      count i (Called {T = T} (as_disk (Err e)) (Sync ∷ [])) calls p.ahead
      (λ h s holds called. subst (λ (x : Story). HoldsImage old.image.pages i x.now) (sym (sync_failed T e h s called)) holds)

  pub synced_err : (T U : Type 0) (e : ImageFault) → (e ≡ image.Memory → HasAllPages told size im) → Tells (told im.disk) (λ h. HasAllPages told size im) → Follows (Called {T = T} (as_disk (Err e)) (Sync ∷ [])) (told old.image.disk) (told im.disk)
      → SettlesBy {T = U} (told im.disk) (Err (of_image e)) (Patching told size side) i
  synced_err T U image.Disk whole fails calls = λ h now. still T image.Disk (fails h now) calls
  synced_err T U image.Memory whole fails calls = still T image.Memory (whole refl) calls
