-- What a crash may leave: of a disk at rest, and after a write.
use Rattle.std.proofs.Common.{◌≡◌, inl, inr, ⊎_elim, ℕ, ◌+◌, ◌<◌, ◌≤◌, max, List, [], ◌∷◌, length, get_or, take, drop, refl, sym, subst, ap, ◌∙◌, arith, length-take, length-drop}
use Rattle.std.proofs.lemmas.List.{ext_get_or, get_or-take, get_or-drop}
use Rattle.std.proofs.lemmas.Bool.{cases_lt}
use Rattle.ken_disk.specs.Bytes.{overwrite, IsIn, furthest}
use Rattle.ken_disk.specs.Story.{DiskState, Story, IsImage, IsAtRest, Leaves}
use Rattle.ken_disk.specs.Moments.{WentOn}
use Rattle.ken_disk.specs.Steps.{written, made_safe, restarted, WentDown}
use Rattle.ken_disk.specs.Through.{Torn}
use Rattle.ken_disk.proofs.Overwrites.{length-overwrite, get_or-overwrite_before, get_or-overwrite_behind}

-- the furthest end is no nearer than the given one
pub furthest-least : (end : ℕ) (ranges : List (ℕ × ℕ)) → end ≤ furthest end ranges
furthest-least end [] = omega arith
furthest-least end (range ∷ ranges) = omega (arith, furthest-least end ranges)

-- a disk that was synced or restarted is at rest
pub rests-made_safe : (s : DiskState) → IsAtRest (made_safe s)
rests-made_safe s = record { safe = refl; none = λ place within. within; within = omega arith }

pub rests-restarted : (image : List ℕ) (s : DiskState) → IsAtRest (restarted image s)
rests-restarted image s = record { safe = refl; none = λ place within. within; within = omega arith }

-- the disk after a restart
pub came_up : (old new : Story) → WentDown old new → IsImage old.now new.now.seen × IsAtRest new.now × WentOn old new
came_up old new went =
    subst (λ (h : Story). IsImage old.now h.now.seen × IsAtRest h.now × WentOn old h) (sym went.left)
    (went.is, rests-restarted went.image old.now, record { steps = restarted went.image old.now ∷ []; grown = refl })

-- of a disk at rest a crash leaves what a read gives
pub image_at_rest : (s : DiskState) → IsAtRest s → (image : List ℕ) → IsImage s image → image ≡ s.seen
image_at_rest s rests image is =
    let long : length image ≡ length s.synced = omega (arith, is.no_shorter, is.no_longer, rests.within) in
    ext_get_or 0 image s.synced long (λ place within. is.same place (omega arith) (rests.none place)) ∙ rests.safe

-- so what has P there leaves P
pub at_rest_leaves : (P : List ℕ → Type 0) (s : DiskState) → IsAtRest s → P s.seen → Leaves P s
at_rest_leaves P s rests holds image is = subst P (sym (image_at_rest s rests image is)) holds

-- a crash may leave the synced bytes
pub image-synced : (s : DiskState) → IsImage s s.synced
image-synced s = record {
  no_shorter = omega arith;
  no_longer = furthest-least (length s.synced) s.pending;
  same = λ place within outside. refl;
}

-- and, at rest and after each write, what a read gives
pub image-seen_at_rest : (s : DiskState) → IsAtRest s → IsImage s s.seen
image-seen_at_rest s rests = subst (IsImage s) rests.safe (image-synced s)

-- a write over an image makes an image of the state that it leaves
pub image-overwrite : (at : ℕ) (bytes : List ℕ) (s : DiskState) (image : List ℕ) → at ≤ length image → IsImage s image → IsImage (written at bytes s) (overwrite at bytes image)
image-overwrite at bytes s image inside is =
    let long = length-overwrite at bytes image inside in
    record {
      no_shorter = omega (arith, is.no_shorter);
      no_longer = omega (arith, is.no_longer);
      same = λ place within outside. elsewhere place within outside;
    }
  where
    elsewhere : (place : ℕ) → place < length s.synced → (IsIn place ((at, length bytes) ∷ s.pending) → ⊥) → get_or (overwrite at bytes image) place 0 ≡ get_or s.synced place 0
    elsewhere place within outside =
        let apart : get_or image place 0 ≡ get_or s.synced place 0 = is.same place within (λ among. outside (inr among)) in
        ⊎_elim
        (λ before. get_or-overwrite_before at bytes image inside place before ∙ apart)
        (λ from. ⊎_elim
        (λ to. absurd (outside (inl (from, to))))
        (λ behind. get_or-overwrite_behind at bytes image inside place behind ∙ apart)
        (cases_lt place (at + length bytes)))
        (cases_lt place at)

module _ (at n : ℕ) where
  -- nothing is torn
  pub Torn-same : (old : List ℕ) → Torn at n old old
  Torn-same old = record { before = refl; after = refl; no_shorter = omega arith; no_longer = omega arith }

  -- two lists of bytes that agree outside the range
  pub Torn-by_place : (old new : List ℕ) → at ≤ length old → length old ≤ length new → length new ≤ max (length old) (at + n)
      → ((place : ℕ) → place < at → get_or new place 0 ≡ get_or old place 0)
      → ((place : ℕ) → place < length old → at + n ≤ place → get_or new place 0 ≡ get_or old place 0) → Torn at n old new
  Torn-by_place old new inside no_shorter no_longer before behind = record {
    before = ext_get_or 0 (take at new) (take at old) (omega (arith, length-take at new, length-take at old)) (λ place within.
        let near : place < at = omega (arith, length-take at new) in
        get_or-take at new place 0 near ∙ before place near ∙ sym (get_or-take at old place 0 near));
    after = ext_get_or 0 (drop (at + n) new) (drop (at + n) old) (omega (arith, length-drop (at + n) new, length-drop (at + n) old)) (λ place within.
        get_or-drop (at + n) new place 0 ∙ behind (at + n + place) (omega (arith, length-drop (at + n) new)) (omega arith) ∙ sym (get_or-drop (at + n) old place 0));
    no_shorter = no_shorter;
    no_longer = no_longer;
  }

-- so a crash after a write to a disk at rest leaves the old bytes, but for a torn write
pub written_leaves : (at : ℕ) (bytes : List ℕ) (s : DiskState) → at ≤ length s.seen → IsAtRest s → Leaves (Torn at (length bytes) s.seen) (written at bytes s)
written_leaves at bytes s inside rests image is =
    let size : length s.synced ≡ length s.seen = ap (λ (l : List ℕ). length l) rests.safe in
    Torn-by_place at (length bytes) s.seen image inside (omega (arith, is.no_shorter)) (omega (arith, is.no_longer, rests.within))
    (λ place before. same place (omega arith) (λ from to. absurd (omega arith)))
    (λ place within behind. same place within (λ from to. absurd (omega arith)))
  where
    same : (place : ℕ) → place < length s.seen → (at ≤ place → place < at + length bytes → ⊥) → get_or image place 0 ≡ get_or s.seen place 0
    same place within outside =
        is.same place (omega (arith, ap (λ (l : List ℕ). length l) rests.safe)) (λ among. ⊎_elim (λ h. outside h.0 h.1) (rests.none place) among)
        ∙ ap (λ (l : List ℕ). get_or l place 0) rests.safe
