-- Turns that leave the ring are handed to the patcher's side, and the two sides stay together.
use Rattle.std.proofs.Common.{◌≡◌, ℕ, List, [], ◌∷◌, ◌++◌, true, refl, sym, ap, subst, ◌∙◌, Bool, Option}
use Rattle.std.proofs.Math.Path.{fun_ext}
use Rattle.std.proofs.lemmas.List.{map-append}
use Rattle.ken_disk.specs.Story.{Story}
use Rattle.ken_record.specs.declared.page.Page.{Page}
use Rattle.ken_cover.specs.declared.layers.Layer.{Layer}
use Rattle.ken_cover.specs.Covers.{Covers}
use Rattle.ken_cover.specs.Overlay.{AreWithin}
use Rattle.ken_cover.specs.Sides.{ImagePages, handed_pages, pages_of, synced_pages}
use Rattle.ken_image.specs.declared.image.Image.{Image}
use Rattle.ken_store.specs.declared.patching.PatchSide.{PatchSide}
use Rattle.ken_store.specs.declared.turning.TurnSide.{TurnSide}
use Rattle.ken_store.specs.Ahead.{frame_pages}
use Rattle.ken_store.specs.Apart.{Apart, MayWait, hand_all, known_after}
use Rattle.ken_store.specs.PatchLaws.{IsAheadOf}
use Rattle.ken_store.specs.Turning.{turn_pages}
use Rattle.ken_store.proofs.ApartPages.{AreSamePages, first_within, hand_all-synced}
use Rattle.ken_work.specs.declared.items.Frozen.{Frozen}
use Rattle.ken_work.specs.Making.{frozen_pages_of}
use Rattle.ken_work.specs.Patches.{IsHandedOver, MayFollow, waits_of}

hand_all-append : (xs ys : List (ℕ × List Page)) (i : ImagePages) → hand_all (xs ++ ys) i ≡ hand_all ys (hand_all xs i)
hand_all-append [] ys i = refl
hand_all-append (x ∷ xs) ys i = hand_all-append xs ys (handed_pages x.0 x.1 i)

known_after-append : (known : ℕ) (xs ys : List (ℕ × List Page)) → known_after known (xs ++ ys) ≡ known_after (known_after known xs) ys
known_after-append known [] ys = refl
known_after-append known (x ∷ xs) ys = known_after-append x.0 xs ys

rest_waits : (known : ℕ) (xs ys : List (ℕ × List Page)) → MayWait known (xs ++ ys) → MayWait (known_after known xs) ys
rest_waits known [] ys waits = waits
rest_waits known (x ∷ xs) ys waits = rest_waits x.0 xs ys waits.2

-- turns that wait may follow each other
may_follow : (count known : ℕ) (turns rest : List Frozen) (i : ImagePages) → MayWait known (waits_of (turns ++ rest)) → AreWithin count (pages_of (hand_all (waits_of (turns ++ rest)) i).ahead) → MayFollow count known turns
may_follow count known [] rest i waits within = tt
may_follow count known (f ∷ turns) rest i waits within =
    let pages : List Page = frame_pages f.pages.items in
    (waits.0, first_within count f.turn pages (waits_of (turns ++ rest)) i within, may_follow count f.turn turns rest (handed_pages f.turn pages i) waits.2 within)

-- the image's pages, once all that waits is handed, stay the same
pub handed_same : (turns rest : List Frozen) (i : ImagePages) → hand_all (waits_of (turns ++ rest)) i ≡ hand_all (waits_of rest) (hand_all (waits_of turns) i)
handed_same turns rest i = ap (λ (ws : List (ℕ × List Page)). hand_all ws i) (map-append frozen_pages_of turns rest) ∙ hand_all-append (waits_of turns) (waits_of rest) i

module _ {D : Type 0} (told : D → Option Story) (size : D → ℕ) where
  -- the first turns of a queue were handed over
  pub handed_apart : (handler : TurnSide D) (old new : PatchSide D) (turns rest : List Frozen) (i : ImagePages) → Apart told size handler old (waits_of (turns ++ rest)) i → IsHandedOver told size turns old new
      → Apart told size handler new (waits_of rest) (hand_all (waits_of turns) i)
  handed_apart handler old new turns rest i apart handed =
      let n : ℕ = handler.owner.pages in
      let first : List (ℕ × List Page) = waits_of turns in
      let later : List (ℕ × List Page) = waits_of rest in
      let parts : waits_of (turns ++ rest) ≡ first ++ later = map-append frozen_pages_of turns rest in
      let follow : MayFollow old.image.pages old.known turns = may_follow old.image.pages old.known turns rest i apart.waits (subst (λ (k : ℕ). AreWithin k (pages_of (hand_all (waits_of (turns ++ rest)) i).ahead)) (sym apart.count) apart.covers.ahead_within) in
      let known : new.known ≡ known_after old.known first = handed.known follow in
      let same : hand_all (waits_of (turns ++ rest)) i ≡ hand_all later (hand_all first i) = handed_same turns rest i in
      record {
        turns = apart.turns;
        patches = handed.stands follow i apart.patches;
        count = ap (λ (x : Image D). x.pages) handed.image ∙ apart.count;
        waits = subst (λ (k : ℕ). MayWait k later) (sym known) (rest_waits old.known first later (subst (MayWait old.known) parts apart.waits));
        known = ap (λ (k : ℕ). known_after k later) known ∙ sym (known_after-append old.known first later) ∙ ap (known_after old.known) (sym parts) ∙ apart.known;
        covers = subst (Covers n true (turn_pages handler)) same apart.covers;
        behind = subst (IsAheadOf (turn_pages handler)) same apart.behind;
        before = apart.before;
      }

-- pages that agree are the same
pages_are : (i j : ImagePages) → AreSamePages i j → i ≡ j
pages_are i j s =
    ap (λ (xs : List Layer). record i { ahead = xs }) (sym s.same_ahead)
    ∙ ap (λ (xs : ℕ → Bool). record j { unclean = xs; image = i.image; «open» = i.«open» }) (sym (fun_ext s.same_unclean))
    ∙ ap (λ (xs : List ℕ). record j { image = xs; «open» = i.«open» }) (sym s.same_image)
    ∙ ap (λ (xs : ℕ → Bool). record j { «open» = xs }) (sym (fun_ext s.same_open))

-- a sync before what waits is handed is a sync after
pub synced_same : (waiting : List (ℕ × List Page)) (i : ImagePages) → synced_pages (hand_all waiting i) ≡ hand_all waiting (synced_pages i)
synced_same waiting i = pages_are (synced_pages (hand_all waiting i)) (hand_all waiting (synced_pages i)) (hand_all-synced waiting i)
