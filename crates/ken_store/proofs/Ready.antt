-- A store that was found takes calls.
use Rattle.std.proofs.Common.{◌≡◌, ℕ, ◌+◌, ◌*◌, ◌≤◌, List, [], ◌∷◌, ◌++◌, length, take, map, replicate, true, false, refl, sym, ap, subst, ◌∙◌, arith, Option, Some, None}
use Rattle.std.specs.List.{AllByRecursion, flat_map}
use Rattle.std.proofs.lemmas.List.Concat.{flat_map-cons}
use Rattle.std.proofs.lemmas.List.{length-take-le}
use Rattle.ken_disk.specs.Story.{DiskState, Story, Tells}
use Rattle.ken_disk.proofs.Told.{some_is}
use Rattle.ken_model.specs.declared.states.State.{State}
use Rattle.ken_record.specs.declared.record.Record.{Record}
use Rattle.ken_cover.specs.declared.layers.Layer.{Layer}
use Rattle.ken_cover.specs.Overlay.{overlay, AreWithin}
use Rattle.ken_cover.specs.Sides.{TurnPages, ImagePages, pages_of, recounted, with_pages, recovered_image_pages}
use Rattle.ken_cover.specs.Covers.{Covers}
use Rattle.ken_cover.proofs.Bases.{pages_of-with_pages, pages_of-recounted}
use Rattle.ken_cover.proofs.Newest.{AreWithin-append}
use Rattle.ken_image.specs.Whole.{IsWhole, Keeps}
use Rattle.ken_store.specs.declared.store.Store.{Store}
use Rattle.ken_store.specs.declared.patching.Origin.TheVariants.{Base}
use Rattle.ken_store.specs.Ahead.{ahead_layers, origins, page_layers, page_origins, record_layers, record_origins}
use Rattle.ken_store.specs.Kept.{base_pages, record_pages, pages_in, HasPagesWithin}
use Rattle.ken_store.specs.Patching.{HoldsImage, IsInOrder, IsPatchSide, Patching}
use Rattle.ken_store.specs.PatchLaws.{IsAheadOf, LastChangedBefore}
use Rattle.ken_store.proofs.Rises.{changed_before, ahead_again}
use Rattle.ken_store.specs.Standing.{IsStore, Standing, IsReadyStore}
use Rattle.ken_store.specs.Turning.{Turning, live_layers, sealed_bytes, turn_pages, state_in}
use Rattle.ken_store.proofs.Again.{covered_again}
use Rattle.ken_store.proofs.Lives.{live_pages, live_recounted, live_ahead}
use Rattle.ken_store.proofs.Recovering.{PagesFit}

each_within : (n : ℕ) (records : List Record) → AllByRecursion (HasPagesWithin n) records → AreWithin n (flat_map record_pages records)
each_within n [] all = tt
each_within n (r ∷ rs) all = subst (AreWithin n) (sym (flat_map-cons record_pages r rs)) (AreWithin-append n r.pages (flat_map record_pages rs) all.0 (each_within n rs all.1))

pub image_size : (n : ℕ) (i : ImagePages) (s : DiskState) → Keeps n s → HoldsImage n i s → length i.image ≡ 256 * n
image_size n i s keeps holds =
    let long : 256 * n ≤ length s.seen = omega (arith, keeps.long, keeps.seen.no_shorter) in
    ap length (sym holds.seen) ∙ length-take-le (256 * n) s.seen long

module _ {D : Type 0} (told : D → Option Story) (size : D → ℕ) (store : Store D) (turning : Turning told size store.turns) (idle : store.turns.objects.begun ≡ None)
    (whole : IsWhole told size store.patches.image) (order : IsInOrder store.patches.known store.patches.ahead.items)
    (ahead : ahead_layers store.patches.ahead.items ≡ page_layers store.turns.log.header.turns (base_pages store.turns.log.base) ++ record_layers store.turns.records.items)
    (turns : store.turns.base_turns.items ≡ replicate (length (base_pages store.turns.log.base)) store.turns.log.header.turns)
    (fit : PagesFit store.turns.owner store.turns.log.base store.turns.records.items)
    (count : store.patches.image.pages ≡ store.turns.owner.pages) (known : store.patches.known ≡ store.turns.numbers.turns)
    (bytes : Tells (told store.patches.image.disk) (λ h. store.turns.objects.bytes ≡ overlay (take (256 * store.turns.owner.pages) h.now.seen) (pages_in store.turns.log.base store.turns.records.items))) where
  abbrev live : List Layer
  live = live_layers store.turns.log.header store.turns.log.base store.turns.base_turns.items store.turns.records.items

  to_patch : with_pages (map recounted live) ≡ page_layers store.turns.log.header.turns (base_pages store.turns.log.base) ++ record_layers store.turns.records.items
  to_patch =
      let head = store.turns.log.header in
      let base = store.turns.log.base in
      let records = store.turns.records.items in
      subst (λ (ts : List ℕ). with_pages (map recounted (live_layers head base ts records)) ≡ page_layers head.turns (base_pages base) ++ record_layers records) (sym turns)
      (ap with_pages (live_recounted head records base) ∙ live_ahead head base records)

  pages_are : pages_of live ≡ pages_in store.turns.log.base store.turns.records.items
  pages_are = live_pages store.turns.log.header store.turns.log.base store.turns.base_turns.items store.turns.records.items turning.turns

  within : AreWithin store.turns.owner.pages (pages_of live)
  within = subst (AreWithin store.turns.owner.pages) (sym pages_are) (AreWithin-append store.turns.owner.pages (base_pages store.turns.log.base) (flat_map record_pages store.turns.records.items) fit.first (each_within store.turns.owner.pages store.turns.records.items fit.each))

  patch_side : IsPatchSide told size store.patches
  patch_side = record {
    image = whole.stands;
    order = order;
    within = subst (λ (n : ℕ). AreWithin n (pages_of (ahead_layers store.patches.ahead.items))) (sym count) (subst (AreWithin store.turns.owner.pages) (sym (ap pages_of (ahead ∙ sym to_patch) ∙ pages_of-with_pages (map recounted live) ∙ pages_of-recounted live)) within);
  }

  is_store : IsStore told size store
  is_store = record { turns = turning; patches = patch_side; count = count; known = known }

  abbrev at_turns : List ℕ → TurnPages
  at_turns ts = record { heap = sealed_bytes store.turns.objects.bytes store.turns.objects.begun; live = live_layers store.turns.log.header store.turns.log.base ts store.turns.records.items }

  before : LastChangedBefore (store.turns.numbers.turns + 1) (turn_pages store.turns)
  before =
      subst (λ (ts : List ℕ). LastChangedBefore (store.turns.numbers.turns + 1) (at_turns ts)) (sym turns)
      (changed_before store.turns.owner store.turns.numbers store.turns.log.header store.turns.log.base store.turns.records.items turning.numbers (sealed_bytes store.turns.objects.bytes store.turns.objects.begun))

  module _ (h : Story) (is : told store.patches.image.disk ≡ Some h) (i : ImagePages) (shut : (p : ℕ) → i.«open» p ≡ false) (holds : HoldsImage store.turns.owner.pages i h.now) where
    patching : Patching told size store.patches (recovered_image_pages live i)
    patching = record {
      takes = patch_side;
      ahead = ahead ∙ sym to_patch;
      holds = λ now told_now.
          let same = some_is h now (sym is ∙ told_now) in
          subst (λ (n : ℕ). HoldsImage n (recovered_image_pages live i) now.now) (sym count)
          (subst (λ (x : Story). HoldsImage store.turns.owner.pages (recovered_image_pages live i) x.now) same
          (record { seen = holds.seen; left = λ image may. let q = holds.left image may in record { size = q.size; same = q.same } }));
    }

    heap_is : sealed_bytes store.turns.objects.bytes store.turns.objects.begun ≡ overlay i.image (pages_of live)
    heap_is =
        ap (sealed_bytes store.turns.objects.bytes) idle
        ∙ bytes h is
        ∙ ap (λ (image : List ℕ). overlay image (pages_in store.turns.log.base store.turns.records.items)) holds.seen
        ∙ ap (overlay i.image) (sym pages_are)

    covers : Covers store.turns.owner.pages true (turn_pages store.turns) (recovered_image_pages live i)
    covers =
        let keeps = subst (λ (n : ℕ). Keeps n h.now) count (whole.stands.keeps h is) in
        subst (λ (heap : List ℕ). Covers store.turns.owner.pages true (record { heap = heap; live = live }) (recovered_image_pages live i)) (sym heap_is)
        (covered_again store.turns.owner.pages live i (image_size store.turns.owner.pages i h.now keeps holds) within shut)

    stands : Standing told size store (recovered_image_pages (turn_pages store.turns).live i)
    stands = record {
      takes = is_store;
      patches = patching;
      covers = covers;
      behind =
          subst (λ (ts : List ℕ). IsAheadOf (at_turns ts) (recovered_image_pages (at_turns ts).live i)) (sym turns)
          (ahead_again store.turns.owner store.turns.numbers store.turns.log.header store.turns.log.base store.turns.records.items turning.numbers (sealed_bytes store.turns.objects.bytes store.turns.objects.begun) i);
      before = before;
    }

  pub ready : (state : State) → state ≡ state_in store.turns → origins store.patches.ahead.items ≡ page_origins Base (base_pages store.turns.log.base) ++ record_origins store.turns.records.items → IsReadyStore told size store.turns.owner store state
  ready state tells first = record { takes = record { store = is_store; unspent = whole.unspent }; owner = refl; idle = idle; tells = tells; again = λ h is i shut holds. stands h is i shut holds; counted = turns; ahead = first }
