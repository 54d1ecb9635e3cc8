-- What a crash leaves while a turn of a store is sealed.
use Rattle.std.proofs.Common.{◌≡◌, ℕ, ◌+◌, ◌*◌, ◌<◌, List, [], ◌∷◌, ◌++◌, length, true, refl, sym, ap, subst, ◌∙◌, arith, Option, Some, None, Result, Err}
use Rattle.std.specs.List.{AllByRecursion}
use Rattle.ken_disk.specs.Moments.{Through}
use Rattle.ken_disk.specs.Story.{Story, Follows}
use Rattle.ken_model.specs.declared.values.Value.{Value}
use Rattle.ken_model.specs.Reading.{read_value}
use Rattle.ken_alloc.specs.Objects.{Heap, heap_in}
use Rattle.ken_record.specs.declared.effects.Effects.{Effects}
use Rattle.ken_record.specs.declared.page.Page.{Page}
use Rattle.ken_log.specs.declared.faults.SealFault.{SealFault}
use Rattle.ken_log.specs.declared.faults.SealFault.TheVariants as seals
use Rattle.ken_log.specs.Mounts.{mount_of, with_record}
use Rattle.ken_log.specs.Seals.{Changes, MountsAs, MountsAsEither}
use Rattle.std.specs.Option.{option_or}
use Rattle.ken_cover.specs.declared.layers.Change.{Change}
use Rattle.ken_cover.specs.Covers.{Covers}
use Rattle.ken_cover.specs.Overlay.{AreWithin, newest_by}
use Rattle.ken_cover.specs.Sides.{TurnPages, ImagePages, changes_at, last_change, sealed_pages, handed_pages}
use Rattle.ken_cover.proofs.Bases.{page_in}
use Rattle.ken_cover.proofs.Keeps.{seal_keeps_coverage}
use Rattle.ken_store.specs.declared.numbers.Numbers.{Numbers}
use Rattle.ken_store.specs.declared.owner.Owner.{Owner}
use Rattle.ken_store.specs.declared.store.Store.{Store}
use Rattle.ken_store.specs.declared.turning.TurnSide.{TurnSide}
use Rattle.ken_store.specs.Answers.{disks_in}
use Rattle.ken_store.specs.Ahead.{ahead_layers}
use Rattle.ken_image.specs.Whole.{HasAllPages}
use Rattle.ken_store.specs.declared.patching.PatchSide.{PatchSide}
use Rattle.ken_store.specs.Patching.{HoldsImage, IsPatchSide, Patching}
use Rattle.ken_store.specs.PatchLaws.{IsAheadOf, LastChangedBefore}
use Rattle.ken_store.proofs.AheadLaws.{all_at, last_change-last, newest_all, seal_keeps_ahead}
use Rattle.ken_store.specs.Numbers.{follows, after_record}
use Rattle.ken_store.specs.Recovered.{Whole, state_of}
use Rattle.ken_store.specs.Standing.{IsStore, RecoversMeanwhile, Standing, is_one, is_either}
use Rattle.ken_store.specs.Turning.{IsChangedPage, HasPages, KeepsLog, undone_from, undone, coming_record, sealed_bytes, turn_pages, state_in}
use Rattle.ken_store.proofs.Sealing.{pages_are}
use Rattle.ken_store.proofs.SealRecovers.{either_recovers, before_recovers}
use Rattle.ken_store.proofs.Standing.{possible_now}

-- pages that a turn changed lie in the heap
pub changed_within : (n : ℕ) (heap : List ℕ) (pages : List Page) → length heap ≡ 256 * n → AllByRecursion (IsChangedPage heap) pages → AreWithin n pages
changed_within n heap [] long all = tt
changed_within n heap (e ∷ es) long all = ((omega (arith, long, all.0.within), all.0.bytes), changed_within n heap es long all.1)

-- the heap at `begin` has its pages
pub sealed_size : (n : ℕ) (h : Heap) → HasPages n h → length (sealed_bytes h.bytes h.begun) ≡ 256 * n
sealed_size n h has = by_begun h.begun has.before
  where
    by_begun : (o : Option (List ℕ)) → ((b : List ℕ) → o ≡ Some b → length b ≡ 256 * n) → length (sealed_bytes h.bytes o) ≡ 256 * n
    by_begun None sizes = has.bytes
    by_begun (Some b) sizes = sizes b refl

-- only the room may have changed
pub patches_same : {D : Type 0} (told : D → Option Story) (size : D → ℕ) (old new : PatchSide D) → new.image ≡ old.image → new.ahead.items ≡ old.ahead.items → new.known ≡ old.known → IsPatchSide told size old → IsPatchSide told size new
patches_same told size old new image ahead known takes = record {
  image = subst (HasAllPages told size) (sym image) takes.image;
  order = rw (ahead, known) takes.order;
  within = rw (ahead, image) takes.within;
}

pub patching_same : {D : Type 0} (told : D → Option Story) (size : D → ℕ) (old new : PatchSide D) (i : ImagePages) → new.image ≡ old.image → new.ahead.items ≡ old.ahead.items → new.known ≡ old.known → Patching told size old i → Patching told size new i
patching_same told size old new i image ahead known is = record {
  takes = patches_same told size old new image ahead known is.takes;
  ahead = ap ahead_layers ahead ∙ is.ahead;
  holds = λ h th. subst (λ (n : ℕ). HoldsImage n i h.now) (sym (ap (λ x. x.pages) image)) (is.holds h (ap (λ x. told x.disk) (sym image) ∙ th));
}

pub undone_pages : {D : Type 0} (old new : TurnSide D) → KeepsLog old new → heap_in new.objects ≡ undone (heap_in old.objects) → turn_pages new ≡ turn_pages old
undone_pages old new same objects =
    pages_are _ _ _ _ (ap (λ (h : Heap). sealed_bytes h.bytes h.begun) objects ∙ undone_bytes (heap_in old.objects) old.objects.begun refl) (rw (same.log, same.base_turns, same.records) refl)
  where
    undone_bytes : (h : Heap) (o : Option (List ℕ)) → h.begun ≡ o → sealed_bytes (undone_from h o).bytes (undone_from h o).begun ≡ sealed_bytes h.bytes h.begun
    undone_bytes h None is = refl
    undone_bytes h (Some b) is = ap (sealed_bytes h.bytes) (sym is)

-- a turn was taken back, and nothing else changed
pub stands_undone : {D : Type 0} (told : D → Option Story) (size : D → ℕ) (old new : Store D) (i : ImagePages) → Standing told size old i → IsStore told size new → turn_pages new.turns ≡ turn_pages old.turns → new.turns.owner ≡ old.turns.owner → new.turns.numbers ≡ old.turns.numbers
    → new.patches.image ≡ old.patches.image → new.patches.ahead.items ≡ old.patches.ahead.items → Standing told size new i
stands_undone told size old new i stands takes pages owner numbers image ahead = record {
  takes = takes;
  patches = record {
    takes = takes.patches;
    ahead = ap ahead_layers ahead ∙ stands.patches.ahead;
    holds = λ h th. subst (λ (n : ℕ). HoldsImage n i h.now) (sym (ap (λ x. x.pages) image)) (stands.patches.holds h (ap (λ x. told x.disk) (sym image) ∙ th));
  };
  covers = subst (λ (n : ℕ). Covers n true (turn_pages new.turns) i) (sym (ap (λ (o : Owner). o.pages) owner)) (subst (λ (t : TurnPages). Covers old.turns.owner.pages true t i) (sym pages) stands.covers);
  behind = subst (λ (t : TurnPages). IsAheadOf t i) (sym pages) stands.behind;
  before = subst (λ (m : ℕ). LastChangedBefore (m + 1) (turn_pages new.turns)) (sym (ap (λ (n : Numbers). n.turns) numbers)) (subst (λ (t : TurnPages). LastChangedBefore (old.turns.numbers.turns + 1) t) (sym pages) stands.before);
}

-- live pages after a seal
pub sealed_before : (turn : ℕ) (pages : List Page) (t : TurnPages) → LastChangedBefore turn t → LastChangedBefore (turn + 1) (sealed_pages turn pages t)
sealed_before turn pages t before p c is = by_new (newest_by page_in p (changes_at turn pages)) refl
  where
    by_new : (o : Option Change) → newest_by page_in p (changes_at turn pages) ≡ o → c.turn < turn + 1
    by_new None e =
        let low = before p c (ap (λ (o : Option Change). option_or o (last_change p t.live)) (sym e) ∙ sym (last_change-last p t.live (record { turn = turn; changes = changes_at turn pages })) ∙ is) in
        omega (arith, low)
    by_new (Some d) e =
        let it : Some d ≡ Some c = ap (λ (o : Option Change). option_or o (last_change p t.live)) (sym e) ∙ sym (last_change-last p t.live (record { turn = turn; changes = changes_at turn pages })) ∙ is in
        let same : d ≡ c = cc it in
        let at = newest_all (λ (x : Change). x.turn ≡ turn) p (changes_at turn pages) d (all_at turn pages) e in
        let turn_is = ap (λ (x : Change). x.turn) same in
        omega (arith, at, turn_is)

-- a turn was sealed
pub sealed_stands : {D : Type 0} (told : D → Option Story) (size : D → ℕ) (old new : Store D) (i : ImagePages) (turn : ℕ) (pages : List Page) → Standing told size old i → IsStore told size new → turn_pages new.turns ≡ sealed_pages turn pages (turn_pages old.turns)
    → turn ≡ old.turns.numbers.turns + 1 → new.turns.numbers.turns ≡ turn → new.turns.owner ≡ old.turns.owner → AreWithin old.turns.owner.pages pages → Patching told size new.patches (handed_pages turn pages i) → Standing told size new (handed_pages turn pages i)
sealed_stands told size old new i turn pages stands takes live counted numbers owner within patching = record {
  takes = takes;
  patches = patching;
  covers = subst (λ (n : ℕ). Covers n true (turn_pages new.turns) (handed_pages turn pages i)) (sym (ap (λ (o : Owner). o.pages) owner))
      (subst (λ (t : TurnPages). Covers old.turns.owner.pages true t (handed_pages turn pages i)) (sym live) (seal_keeps_coverage old.turns.owner.pages true (turn_pages old.turns) i turn pages within stands.covers));
  behind = subst (λ (t : TurnPages). IsAheadOf t (handed_pages turn pages i)) (sym live) (seal_keeps_ahead turn pages (turn_pages old.turns) i (subst (λ (m : ℕ). LastChangedBefore m (turn_pages old.turns)) (sym counted) stands.before) stands.behind);
  before = subst (λ (m : ℕ). LastChangedBefore (m + 1) (turn_pages new.turns)) (sym numbers) (subst (λ (t : TurnPages). LastChangedBefore (turn + 1) t) (sym live) (sealed_before turn pages (turn_pages old.turns) (subst (λ (m : ℕ). LastChangedBefore m (turn_pages old.turns)) (sym counted) stands.before)));
}

module _ {D : Type 0} (told : D → Option Story) (size : D → ℕ) (old : Store D) (i : ImagePages) (stands : Standing told size old i) (v : Value) (reads : read_value (turn_pages old.turns).heap ≡ Some v)
    (e : Effects) (follow : follows old.turns.owner old.turns.numbers (coming_record old.turns e) ≡ true) (within : AreWithin old.turns.owner.pages (coming_record old.turns e).pages) where
  -- the side after the call is of the same node, and the image's disk is as it was
  module _ (new : Store D) (which : new.turns.which ≡ old.turns.which) (other : new.turns.other ≡ old.turns.other) (image : new.patches.image ≡ old.patches.image) where
    module _ (v2 : Value) (reads2 : read_value (sealed_pages (old.turns.numbers.turns + 1) (coming_record old.turns e).pages (turn_pages old.turns)).heap ≡ Some v2) (T : Type 0) (result : Result T SealFault) where
      pub seal_any_moment : Follows (λ h s. Changes {T = T} (mount_of h.now.seen) (with_record (coming_record old.turns e) (mount_of h.now.seen)) 2 result h s) (told old.turns.log.disk) (told new.turns.log.disk)
          → RecoversMeanwhile told old.turns.owner (disks_in old) (disks_in new) (is_either (Whole (state_in old.turns) v) (Whole (state_of old.turns.owner.node (after_record old.turns.numbers (coming_record old.turns e)) old.turns.log.base (old.turns.records.items ++ coming_record old.turns e ∷ [])) v2))
      seal_any_moment story =
          either_recovers told size old.turns stands.takes.turns i stands.covers v reads e follow within new.turns which other old.patches.image.disk new.patches.image.disk (ap (λ x. told x.disk) image) (possible_now told size old i stands v reads) v2 reads2
          (follow_any (told old.turns.log.disk) (told new.turns.log.disk) story)
        where
          follow_any : (a b : Option Story) → Follows (λ h s. Changes {T = T} (mount_of h.now.seen) (with_record (coming_record old.turns e) (mount_of h.now.seen)) 2 result h s) a b → Follows (λ h s. Through (MountsAsEither (mount_of h.now.seen) (with_record (coming_record old.turns e) (mount_of h.now.seen))) h s) a b
          follow_any None b f = f
          follow_any (Some x) b f = (f.0, f.1, f.2.any_moment)

    -- after want of memory
    pub seal_memory : (T : Type 0) → Follows (λ h s. Changes {T = T} (mount_of h.now.seen) (with_record (coming_record old.turns e) (mount_of h.now.seen)) 2 (Err seals.Memory) h s) (told old.turns.log.disk) (told new.turns.log.disk)
        → RecoversMeanwhile told old.turns.owner (disks_in old) (disks_in new) (is_one (Whole (state_in old.turns) v))
    seal_memory T story =
        before_recovers told size old.turns stands.takes.turns i stands.covers v reads new.turns which other old.patches.image.disk new.patches.image.disk (ap (λ x. told x.disk) image) (possible_now told size old i stands v reads)
        (follow_memory (told old.turns.log.disk) (told new.turns.log.disk) story)
      where
        follow_memory : (a b : Option Story) → Follows (λ h s. Changes {T = T} (mount_of h.now.seen) (with_record (coming_record old.turns e) (mount_of h.now.seen)) 2 (Err seals.Memory) h s) a b → Follows (λ h s. Through (MountsAs (mount_of h.now.seen)) h s) a b
        follow_memory None b f = f
        follow_memory (Some x) b f = (f.0, f.1, f.2.memory refl)
