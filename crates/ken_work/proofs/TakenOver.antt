-- Turns that leave the ring one by one are handed to the patcher's side.
use Rattle.std.proofs.Common.{◌≡◌, ℕ, ◌+◌, List, [], ◌∷◌, ◌++◌, length, Option, refl, sym, ap, ◌∙◌, subst, append_assoc}
use Rattle.std.proofs.lemmas.List.{length_push}
use Rattle.ken_disk.specs.Story.{Story}
use Rattle.ken_cover.specs.Sides.{ImagePages, handed_pages}
use Rattle.ken_image.specs.declared.image.Image.{Image}
use Rattle.ken_store.specs.declared.patching.PatchSide.{PatchSide}
use Rattle.ken_store.specs.Ahead.{frame_pages}
use Rattle.ken_store.specs.Apart.{hand_all, known_after}
use Rattle.ken_store.specs.Patching.{Patching, TakesPatches}
use Rattle.ken_work.specs.declared.items.Frozen.{Frozen}
use Rattle.ken_work.specs.Patches.{IsHandedOver, MayFollow, waits_of}

-- one more turn: what is handed, and what is known
hands_more : (fs : List Frozen) (f : Frozen) (i : ImagePages) → hand_all (waits_of (fs ++ f ∷ [])) i ≡ handed_pages f.turn (frame_pages f.pages.items) (hand_all (waits_of fs) i)
hands_more [] f i = refl
hands_more (x ∷ fs) f i = hands_more fs f (handed_pages x.turn (frame_pages x.pages.items) i)

known_more : (known : ℕ) (fs : List Frozen) (f : Frozen) → known_after known (waits_of (fs ++ f ∷ [])) ≡ f.turn
known_more known [] f = refl
known_more known (x ∷ fs) f = known_more x.turn fs f

-- where all may be handed, the first ones may, and the last after them
may_first : (count known : ℕ) (fs : List Frozen) (f : Frozen) → MayFollow count known (fs ++ f ∷ []) → MayFollow count known fs
may_first count known [] f may = tt
may_first count known (x ∷ fs) f may = (may.0, may.1, may_first count x.turn fs f may.2)

may_last : (count known : ℕ) (fs : List Frozen) (f : Frozen) → MayFollow count known (fs ++ f ∷ []) → MayFollow count (known_after known (waits_of fs)) (f ∷ [])
may_last count known [] f may = may
may_last count known (x ∷ fs) f may = may_last count x.turn fs f may.2

module _ {D : Type 0} (told : D → Option Story) (size : D → ℕ) where
  -- one more is handed
  pub handed_more : (fs : List Frozen) (f : Frozen) (old mid new : PatchSide D) → IsHandedOver told size fs old mid → IsHandedOver told size (f ∷ []) mid new → IsHandedOver told size (fs ++ f ∷ []) old new
  handed_more fs f old mid new first one =
      let last : MayFollow old.image.pages old.known (fs ++ f ∷ []) → MayFollow mid.image.pages mid.known (f ∷ []) =
      λ may. subst (λ (n : ℕ). MayFollow n mid.known (f ∷ [])) (ap (λ (x : Image D). x.pages) (sym first.image))
      (subst (λ (k : ℕ). MayFollow old.image.pages k (f ∷ [])) (sym (first.known (may_first old.image.pages old.known fs f may))) (may_last old.image.pages old.known fs f may)) in
      record {
        takes = λ t. one.takes (first.takes t);
        image = one.image ∙ first.image;
        stands = λ may i p. subst (Patching told size new) (sym (hands_more fs f i)) (one.stands (last may) (hand_all (waits_of fs) i) (first.stands (may_first old.image.pages old.known fs f may) i p));
        known = λ may. one.known (last may) ∙ sym (known_more old.known fs f);
      }

  -- room was made before
  pub handed_after_room : (fs : List Frozen) (old mid new : PatchSide D) → (TakesPatches told size old → TakesPatches told size mid) → ((i : ImagePages) → Patching told size old i → Patching told size mid i) → mid.image ≡ old.image → mid.known ≡ old.known
      → IsHandedOver told size fs mid new → IsHandedOver told size fs old new
  handed_after_room fs old mid new takes stands image known one =
      let follow : MayFollow old.image.pages old.known fs → MayFollow mid.image.pages mid.known fs =
      λ may. subst (λ (n : ℕ). MayFollow n mid.known fs) (ap (λ (x : Image D). x.pages) (sym image)) (subst (λ (k : ℕ). MayFollow old.image.pages k fs) (sym known) may) in
      record {
        takes = λ t. one.takes (takes t);
        image = one.image ∙ image;
        stands = λ may i p. one.stands (follow may) i (stands i p);
        known = λ may. one.known (follow may) ∙ ap (λ (k : ℕ). known_after k (waits_of fs)) known;
      }

  -- turns were popped and handed over
  pub record PoppedSoFar (popped popped2 : List Frozen) (old new : PatchSide D) (count : ℕ) : Type 0 where
    pub turns : List Frozen
    pub popped_are : popped2 ≡ popped ++ turns
    pub counted : length turns ≡ count
    pub handed : IsHandedOver told size turns old new

  pub one_more : (count : ℕ) (popped popped2 popped3 : List Frozen) (f : Frozen) (old mid new : PatchSide D) → PoppedSoFar popped popped2 old mid count → popped3 ≡ popped2 ++ f ∷ [] → IsHandedOver told size (f ∷ []) mid new
      → PoppedSoFar popped popped3 old new (count + 1)
  one_more count popped popped2 popped3 f old mid new so_far pop one = record {
    turns = so_far.turns ++ f ∷ [];
    popped_are = pop ∙ ap (λ (fs : List Frozen). fs ++ f ∷ []) so_far.popped_are ∙ append_assoc popped so_far.turns (f ∷ []);
    counted = length_push so_far.turns f ∙ ap (λ (n : ℕ). n + 1) so_far.counted;
    handed = handed_more so_far.turns f old mid new so_far.handed one;
  }
