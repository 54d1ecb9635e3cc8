-- A new store takes calls.
use Rattle.std.proofs.Common.{◌≡◌, ℕ, ◌+◌, ◌-◌, ◌*◌, ◌≤◌, List, [], length, take, replicate, true, sym, ap, subst, ◌∙◌, arith, length-append, Option}
use Rattle.std.proofs.lemmas.List.{length-replicate}
use Rattle.ken_disk.specs.Story.{DiskState, Story, Tells, IsAtRest}
use Rattle.ken_disk.proofs.Images.{image_at_rest}
use Rattle.ken_model.specs.Layout.{first_bytes, first_heap}
use Rattle.ken_cover.specs.Overlay.{AreWithin}
use Rattle.ken_cover.specs.Sides.{pages_of, TurnPages, first_turn_pages, first_image_pages}
use Rattle.ken_cover.specs.Covers.{Covers}
use Rattle.ken_cover.proofs.Keeps.{start_is_covered}
use Rattle.ken_image.specs.Whole.{HasAllPages}
use Rattle.ken_store.specs.declared.store.Store.{Store}
use Rattle.ken_store.specs.Ahead.{ahead_layers}
use Rattle.ken_store.specs.Patching.{HoldsImage, IsInOrder, IsPatchSide}
use Rattle.ken_store.specs.PatchLaws.{IsAheadOf, LastChangedBefore}
use Rattle.ken_store.proofs.AheadLaws.{start_is_ahead}
use Rattle.ken_store.specs.Standing.{Standing}
use Rattle.ken_store.specs.Turning.{Turning, turn_pages}

pub length-first_heap : (pages : ℕ) → 1 ≤ pages → length (first_heap pages) ≡ 256 * pages
length-first_heap pages some =
    length-append (first_bytes pages) (replicate (256 * pages - 32) 0)
    ∙ ap (λ (k : ℕ). 32 + k) (length-replicate (256 * pages - 32) 0)
    ∙ omega (arith, some)

-- an image that holds the first heap, and nothing else may be left of it
holds_first : (pages : ℕ) (s : DiskState) → 1 ≤ pages → IsAtRest s → take (256 * pages) s.seen ≡ first_heap pages → HoldsImage pages (first_image_pages (first_heap pages)) s
holds_first pages s some rests is = record {
  seen = is;
  left = λ image may.
      let same : take (256 * pages) image ≡ first_heap pages = ap (take (256 * pages)) (image_at_rest s rests image may) ∙ is in
      record { size = ap length same; same = λ p shut. ap (λ (l : List ℕ). Rattle.ken_pages.specs.Paged.page_of l p) same };
}

module _ {D : Type 0} (told : D → Option Story) (size : D → ℕ) (store : Store D) (pages : ℕ) (some : 1 ≤ pages) (turning : Turning told size store.turns) where
  patch_side : HasAllPages told size store.patches.image → store.patches.ahead.items ≡ [] → IsPatchSide told size store.patches
  patch_side whole none = record {
    image = whole;
    order = subst (λ items. IsInOrder store.patches.known items) (sym none) (record { rising = tt; base = tt; each = tt });
    within = subst (λ items. AreWithin store.patches.image.pages (pages_of (ahead_layers items))) (sym none) tt;
  }

  pub first_stands : turn_pages store.turns ≡ first_turn_pages (first_heap pages) → store.turns.owner.pages ≡ pages → HasAllPages told size store.patches.image → store.patches.image.pages ≡ pages → store.patches.ahead.items ≡ [] → store.patches.known ≡ 0 → store.turns.numbers.turns ≡ 0
      → Tells (told store.patches.image.disk) (λ h. IsAtRest h.now × (take (256 * pages) h.now.seen ≡ first_heap pages)) → Standing told size store (first_image_pages (first_heap pages))
  first_stands is owner whole count none known no_turns holds = record {
    takes = record { turns = turning; patches = patch_side whole none; count = count ∙ sym owner; known = known ∙ sym no_turns };
    patches = record {
      takes = patch_side whole none;
      ahead = ap ahead_layers none;
      holds = λ h told. subst (λ (n : ℕ). HoldsImage n (first_image_pages (first_heap pages)) h.now) (sym count) (holds_first pages h.now some (holds h told).0 (holds h told).1);
    };
    behind = subst (λ (t : TurnPages). IsAheadOf t (first_image_pages (first_heap pages))) (sym is) (start_is_ahead (first_heap pages));
    before = subst (λ (t : TurnPages). LastChangedBefore (store.turns.numbers.turns + 1) t) (sym is) (λ p c none. absurd (let no : ⊥ = cc none in no));
    covers = subst (λ (n : ℕ). Covers n true (turn_pages store.turns) (first_image_pages (first_heap pages))) (sym owner)
        (subst (λ (t : TurnPages). Covers pages true t (first_image_pages (first_heap pages))) (sym is) (start_is_covered pages (first_heap pages) (length-first_heap pages some)));
  }
