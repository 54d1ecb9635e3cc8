-- The kept bytes and ranges stay those of the disk.
use Rattle.std.proofs.Common.{◌≡◌, ℕ, ◌+◌, ◌^◌, ◌≤◌, List, [], ◌∷◌, ◌++◌, length, get_or, reverse, refl, sym, ap, subst, ◌∙◌, arith}
use Rattle.std.proofs.lemmas.List.{reverse-append}
use Rattle.ken_disk.specs.Bytes.{IsBytes, overwrite, IsIn, furthest}
use Rattle.ken_disk.specs.Story.{DiskState}
use Rattle.ken_disk.specs.Steps.{written, made_safe, restarted}
use Rattle.ken_disk.proofs.Overwrites.{length-overwrite}
use Rattle.ken_disk.proofs.Images.{image-overwrite, image-seen_at_rest, rests-made_safe, rests-restarted, furthest-least}
use Rattle.ken_memdisk.specs.Picks.{image_of, picked}
use Rattle.ken_memdisk.specs.Platters.{Differ, IsKept}
use Rattle.ken_memdisk.proofs.Images.{image-picked}
use Rattle.ken_memdisk.proofs.Ranges.{IsIn-reverse, furthest-reverse, furthest-zero}

-- a restart left this image
pub kept-restarted : (image : List ℕ) (s : DiskState) → length image ≤ 2 ^ 40 → IsKept image image [] (restarted image s)
kept-restarted image s bound = record {
  seen_is = refl;
  synced_is = refl;
  pending_is = refl;
  sound = image-seen_at_rest (restarted image s) (rests-restarted image s);
  longest = omega arith;
  bound = bound;
}

module _ (seen synced : List ℕ) (ranges : List (ℕ × ℕ)) (s : DiskState) (kept : IsKept seen synced ranges s) where
  pub kept-written : (at : ℕ) (bytes : List ℕ) → at ≤ length s.seen → at + length bytes ≤ 2 ^ 40 → IsKept (overwrite at bytes seen) synced (ranges ++ (at, length bytes) ∷ []) (written at bytes s)
  kept-written at bytes inside short =
      let long = length-overwrite at bytes s.seen inside in
      record {
        seen_is = ap (overwrite at bytes) kept.seen_is;
        synced_is = kept.synced_is;
        pending_is = ap (λ (l : List (ℕ × ℕ)). (at, length bytes) ∷ l) kept.pending_is ∙ sym (reverse-append ranges ((at, length bytes) ∷ []));
        sound = image-overwrite at bytes s s.seen inside kept.sound;
        longest = omega (arith, kept.longest);
        bound = omega (arith, kept.bound);
      }

  pub kept-made_safe : IsKept seen seen [] (made_safe s)
  kept-made_safe = record {
    seen_is = kept.seen_is;
    synced_is = kept.seen_is;
    pending_is = refl;
    sound = image-seen_at_rest (made_safe s) (rests-made_safe s);
    longest = omega arith;
    bound = kept.bound;
  }

  within : furthest (length synced) ranges ≤ length seen
  within =
      omega (arith, kept.longest, ap length kept.seen_is, sym (furthest-reverse (length synced) ranges) ∙ ap (furthest (length synced)) (sym kept.pending_is) ∙ ap (λ (l : List ℕ). furthest (length l) s.pending) (sym kept.synced_is))

  pub kept-differ : Differ ranges seen synced
  kept-differ = record {
    no_longer = omega (arith, within, furthest-least (length synced) ranges);
    within = omega (arith, within, furthest-zero (length synced) ranges);
    same = λ place before outside. ap (λ (l : List ℕ). get_or l place 0) (sym kept.seen_is)
        ∙ kept.sound.same place (omega (arith, ap length kept.synced_is)) (λ among. outside (IsIn-reverse place ranges (subst (IsIn place) kept.pending_is among)))
        ∙ ap (λ (l : List ℕ). get_or l place 0) kept.synced_is;
  }

  pub kept-picked : (pick : ℕ) → image_of seen synced (reverse ranges) pick ≡ picked pick s
  kept-picked pick = rw (kept.seen_is, kept.synced_is, kept.pending_is) refl

  pub bytes-picked : (pick : ℕ) (image : List ℕ) → image ≡ image_of seen synced (reverse ranges) pick → IsBytes image → IsBytes (picked pick s)
  bytes-picked pick image is bytes = subst IsBytes (is ∙ kept-picked pick) bytes

-- after a write and after a restart, by what each left
pub kept_by_write : (seen synced new kept_synced : List ℕ) (ranges more : List (ℕ × ℕ)) (s after : DiskState) (at : ℕ) (bytes : List ℕ) → IsKept seen synced ranges s
    → at ≤ length s.seen → at + length bytes ≤ 2 ^ 40
    → new ≡ overwrite at bytes seen → kept_synced ≡ synced → more ≡ ranges ++ (at, length bytes) ∷ [] → after ≡ written at bytes s
    → IsKept new kept_synced more after
kept_by_write seen synced new kept_synced ranges more s after at bytes kept inside short new_is synced_is more_is after_is =
    rw (new_is, synced_is, more_is, after_is) (kept-written seen synced ranges s kept at bytes inside short)

pub kept_by_restart : (seen synced image copy : List ℕ) (ranges none : List (ℕ × ℕ)) (s after : DiskState) (pick : ℕ) → IsKept seen synced ranges s
    → image ≡ image_of seen synced (reverse ranges) pick → copy ≡ image → none ≡ [] → after ≡ restarted (picked pick s) s
    → IsKept image copy none after
kept_by_restart seen synced image copy ranges none s after pick kept image_is copy_is none_is after_is =
    let is : image ≡ picked pick s = image_is ∙ kept-picked seen synced ranges s kept pick in
    let bound : length (picked pick s) ≤ 2 ^ 40 = omega (arith, (image-picked pick s kept.sound).no_longer, kept.longest, kept.bound) in
    rw (copy_is, none_is, after_is, is) (kept-restarted (picked pick s) s bound)
