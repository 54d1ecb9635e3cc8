-- What each call of a disk keeps of the image on it, and what a crash may leave meanwhile.
use Rattle.std.proofs.Common.{◌≡◌, ℕ, ◌+◌, ◌-◌, ◌<◌, ◌≤◌, List, length, get_or, take, drop, sym, ap, subst, ◌∙◌, arith, length-take, length-drop, ⊎_elim, Result, Ok, Err}
use Rattle.std.proofs.lemmas.List.{get_or-take, get_or-drop}
use Rattle.std.proofs.lemmas.Bool.{cases_lt}
use Rattle.ken_disk.specs.declared.faults.DiskFault.{DiskFault}
use Rattle.ken_disk.specs.declared.faults.DiskFault.TheVariants.{Failed, Memory}
use Rattle.ken_disk.specs.Bytes.{overwrite, IsIn}
use Rattle.ken_disk.specs.Story.{DiskState, Story, IsImage, IsAtRest, Leaves}
use Rattle.ken_disk.specs.Steps.{written, made_safe, after_write}
use Rattle.ken_disk.specs.Through.{Torn}
use Rattle.ken_disk.proofs.Images.{image-seen_at_rest, image-overwrite, image_at_rest, rests-made_safe, furthest-least, Torn-same, Torn-by_place}
use Rattle.ken_disk.proofs.Overwrites.{length-overwrite, get_or-overwrite_before, get_or-overwrite_in, get_or-overwrite_behind}
use Rattle.ken_image.specs.Pages.{place_of, IsTornPage}
use Rattle.ken_image.specs.Whole.{Keeps}

-- a disk at rest that is long enough
pub keeps_at_rest : (pages : ℕ) (s : DiskState) → IsAtRest s → place_of pages ≤ length s.seen → Keeps pages s
keeps_at_rest pages s rests long =
    let same = ap (λ (l : List ℕ). length l) rests.safe in
    record { long = omega (arith, same); seen = image-seen_at_rest s rests }

-- a write inside the image
pub keeps_written : (pages at : ℕ) (bytes : List ℕ) (s : DiskState) → at ≤ place_of pages → Keeps pages s → Keeps pages (written at bytes s)
keeps_written pages at bytes s inside keeps = record {
  long = keeps.long;
  seen = image-overwrite at bytes s s.seen (omega (arith, keeps.long, keeps.seen.no_shorter)) keeps.seen;
}

-- whatever it answers
pub keeps_write : {T : Type 0} (pages at : ℕ) (bytes : List ℕ) (r : Result T DiskFault) (h : Story) → at ≤ place_of pages → Keeps pages h.now → Keeps pages (after_write at bytes r h).now
keeps_write pages at bytes (Ok x) h inside keeps = keeps_written pages at bytes h.now inside keeps
keeps_write pages at bytes (Err Failed) h inside keeps = keeps_written pages at bytes h.now inside keeps
keeps_write pages at bytes (Err Memory) h inside keeps = keeps

pub keeps_safe : (pages : ℕ) (s : DiskState) → Keeps pages s → Keeps pages (made_safe s)
keeps_safe pages s keeps = record {
  long = omega (arith, keeps.long, keeps.seen.no_shorter);
  seen = image-seen_at_rest (made_safe s) (rests-made_safe s);
}

-- a sync leaves what a crash might have left before
pub images-made_safe : (s : DiskState) → IsImage s s.seen → Leaves (IsImage s) (made_safe s)
images-made_safe s seen image is = subst (IsImage s) (sym (image_at_rest (made_safe s) (rests-made_safe s) image is)) seen

-- ---- a page is written

module _ (pages page : ℕ) (s : DiskState) (inside : page < pages) (keeps : Keeps pages s) where
  pub page_synced : place_of page + 256 ≤ length s.synced
  page_synced = omega (arith, inside, keeps.long)

  pub page_seen : place_of page + 256 ≤ length s.seen
  page_seen = omega (arith, page_synced, keeps.seen.no_shorter)

-- before, a crash left no torn page
pub torn_none : (page : ℕ) (s : DiskState) → Leaves (IsTornPage page s) s
torn_none page s image is = record { before = image; is = is; torn = Torn-same (place_of page) 256 image }

module _ (page : ℕ) (bytes : List ℕ) (s : DiskState) (long : length bytes ≡ 256) (inside : place_of page + 256 ≤ length s.synced) where
  old_page : List ℕ
  old_page = take 256 (drop (place_of page) s.synced)

  old_long : length old_page ≡ 256
  unfolding old_page
  old_long = omega (arith, length-take 256 (drop (place_of page) s.synced), length-drop (place_of page) s.synced)

  -- the image with the page that was safe
  undone : List ℕ → List ℕ
  undone image = overwrite (place_of page) old_page image

  module _ (image : List ℕ) (is : IsImage (written (place_of page) bytes s) image) where
    within : place_of page ≤ length image
    within = omega (arith, is.no_shorter)

    length-undone : length (undone image) ≡ length image
    unfolding undone
    length-undone = omega (arith, length-overwrite (place_of page) old_page image within, old_long, is.no_shorter)

    undone_in : (place : ℕ) → place_of page ≤ place → place < place_of page + 256 → get_or (undone image) place 0 ≡ get_or s.synced place 0
    unfolding undone old_page
    undone_in place from to =
        let there : place_of page + (place - place_of page) ≡ place = omega arith in
        get_or-overwrite_in (place_of page) old_page image within place from (omega (arith, old_long))
        ∙ get_or-take 256 (drop (place_of page) s.synced) (place - place_of page) 0 (omega arith)
        ∙ get_or-drop (place_of page) s.synced (place - place_of page) 0
        ∙ ap (λ (i : ℕ). get_or s.synced i 0) there

    undone_before : (place : ℕ) → place < place_of page → get_or (undone image) place 0 ≡ get_or image place 0
    unfolding undone
    undone_before place lt = get_or-overwrite_before (place_of page) old_page image within place lt

    undone_behind : (place : ℕ) → place_of page + 256 ≤ place → get_or (undone image) place 0 ≡ get_or image place 0
    unfolding undone
    undone_behind place le = get_or-overwrite_behind (place_of page) old_page image within place (omega (arith, old_long))

    undone_same : (place : ℕ) → place < length s.synced → (IsIn place s.pending → ⊥) → get_or (undone image) place 0 ≡ get_or s.synced place 0
    undone_same place safe outside =
        ⊎_elim
        (λ before. undone_before place before ∙ is.same place safe (λ among. ⊎_elim (λ h. absurd (let no : ⊥ = omega (arith, h.0) in no)) outside among))
        (λ from. ⊎_elim
        (λ to. undone_in place from to)
        (λ behind. undone_behind place behind ∙ is.same place safe (λ among. ⊎_elim (λ h. absurd (let no : ⊥ = omega (arith, h.1, long) in no)) outside among))
        (cases_lt place (place_of page + 256)))
        (cases_lt place (place_of page))

    undone_is : IsImage s (undone image)
    undone_is = record {
      no_shorter = omega (arith, is.no_shorter, length-undone);
      no_longer = omega (arith, is.no_longer, length-undone, long, furthest-least (length s.synced) s.pending);
      same = undone_same;
    }

    undone_torn : Torn (place_of page) 256 (undone image) image
    undone_torn =
        Torn-by_place (place_of page) 256 (undone image) image (omega (arith, within, length-undone)) (omega (arith, length-undone)) (omega (arith, length-undone))
        (λ place lt. sym (undone_before place lt))
        (λ place here le. sym (undone_behind place le))

  -- after it a crash leaves what it might have left before, but for the page
  pub torn_page : Leaves (IsTornPage page s) (written (place_of page) bytes s)
  torn_page image is = record { before = undone image; is = undone_is image is; torn = undone_torn image is }
