-- How the moments of one call join those of the next.
use Rattle.std.proofs.Common.{◌≡◌, ℕ, List, [], ◌∷◌, ◌++◌, length, refl, sym, ap, subst, ◌∙◌, append_assoc, arith, length-append, inl, inr, ◌⊎◌, ⊎_elim}
use Rattle.ken_disk.specs.Story.{DiskState, Story, IsImage, Leaves}
use Rattle.ken_disk.specs.Moments.{WentOn, MayLeave, Through}
use Rattle.ken_disk.specs.Steps.{goes_to}

-- of two ends of a list one is an end of the other
ends : {X : Type 0} (a b x y : List X) → a ++ x ≡ b ++ y → ((c : List X) × (x ≡ c ++ y)) ⊎ ((c : List X) × (y ≡ c ++ x))
ends [] b x y e = inl (b, e)
ends (u ∷ a) [] x y e = inr (u ∷ a, sym e)
ends (u ∷ a) (v ∷ b) x y e = let less : a ++ x ≡ b ++ y = cc e in ends a b x y less

-- nothing has happened
pub same : (h : Story) → WentOn h h
same h = record { steps = []; grown = refl }

-- one step more
pub one_more : (h : Story) (s : DiskState) → WentOn h (goes_to s h)
one_more h s = record { steps = s ∷ []; grown = refl }

-- one after the other
pub on_and_on : (old mid new : Story) → WentOn old mid → WentOn mid new → WentOn old new
on_and_on old mid new first second = record {
  steps = second.steps ++ first.steps;
  grown = second.grown
      ∙ ap (λ (l : List DiskState). second.steps ++ l) first.grown
      ∙ sym (append_assoc second.steps first.steps (old.now ∷ old.past));
}

-- the moment now
pub now_too : (old new : Story) (image : List ℕ) → WentOn old new → IsImage new.now image → MayLeave old new image
now_too old new image on is = record { moment = new; since = on; until = same new; is = is }

-- and the first one
pub first_too : (old new : Story) (image : List ℕ) → WentOn old new → IsImage old.now image → MayLeave old new image
first_too old new image on is = record { moment = old; since = same old; until = on; is = is }

-- a moment lies before another or after it
pub parted : (old mid new : Story) (image : List ℕ) → WentOn old mid → WentOn mid new → MayLeave old new image → MayLeave old mid image ⊎ MayLeave mid new image
parted old mid new image first second may = ⊎_elim
    (λ e. inr (record { moment = may.moment; since = record { steps = e.0; grown = e.1 }; until = may.until; is = may.is }))
    (λ e. inl (record { moment = may.moment; since = may.since; until = record { steps = e.0; grown = e.1 }; is = may.is }))
    (ends may.until.steps second.steps (may.moment.now ∷ may.moment.past) (mid.now ∷ mid.past) (sym may.until.grown ∙ second.grown))

-- a moment between a story and itself
between : (h m : Story) → WentOn h m → WentOn m h → m.now ≡ h.now
between h m since until = at since.steps since.grown
  where
    at : (steps : List DiskState) → m.now ∷ m.past ≡ steps ++ h.now ∷ h.past → m.now ≡ h.now
    at [] e = cc e
    at (s ∷ steps) e =
        absurd (omega (arith, ap length e, ap length until.grown, length-append steps (h.now ∷ h.past), length-append until.steps (m.now ∷ m.past)))

module _ (P : List ℕ → Type 0) where
  pub stays : (h : Story) → Leaves P h.now → Through P h h
  stays h here = record {
    on = same h;
    each = λ image may. here image (subst (λ (s : DiskState). IsImage s image) (between h may.moment may.since may.until) may.is);
  }

  -- one call after another
  pub joined : (old mid new : Story) → Through P old mid → Through P mid new → Through P old new
  joined old mid new first second = record {
    on = on_and_on old mid new first.on second.on;
    each = λ image may. ⊎_elim (first.each image) (second.each image) (parted old mid new image first.on second.on may);
  }

  -- one step, before and after which a crash leaves what has P
  pub moved : (old : Story) (s : DiskState) → Leaves P old.now → Leaves P s → Through P old (goes_to s old)
  moved old s before after = record { on = one_more old s; each = λ image may. at image may may.until.steps may.until.grown }
    where
      at : (image : List ℕ) → (may : MayLeave old (goes_to s old) image) → (steps : List DiskState) → s ∷ old.now ∷ old.past ≡ steps ++ may.moment.now ∷ may.moment.past → P image
      at image may [] e =
          let is : may.moment.now ≡ s = cc e in
          after image (subst (λ (t : DiskState). IsImage t image) is may.is)
      at image may (t ∷ steps) e =
          let less : old.now ∷ old.past ≡ steps ++ may.moment.now ∷ may.moment.past = cc e in
          before image (subst (λ (t : DiskState). IsImage t image) (between old may.moment may.since (record { steps = steps; grown = less })) may.is)

  -- the last of the moments is now
  pub leaves_now : (old new : Story) → Through P old new → Leaves P new.now
  leaves_now old new through image is = through.each image (now_too old new image through.on is)

  -- one step more, after which a crash leaves what has P
  pub then_to : (old mid : Story) (s : DiskState) → Through P old mid → Leaves P s → Through P old (goes_to s mid)
  then_to old mid s so_far here = joined old mid (goes_to s mid) so_far (moved mid s (leaves_now old mid so_far) here)

  pub weaker : (Q : List ℕ → Type 0) (old new : Story) → ((image : List ℕ) → P image → Q image) → Through P old new → Through Q old new
  weaker Q old new so through = record { on = through.on; each = λ image may. so image (through.each image may) }
