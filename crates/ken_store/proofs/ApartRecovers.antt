-- What the disks of two sides that are apart recover to.
use Rattle.std.proofs.Common.{◌≡◌, ℕ, ◌+◌, ◌*◌, List, take, true, refl, sym, ap, subst, ◌∙◌, ⊎_elim, Option, Some}
use Rattle.ken_disk.specs.Moments.{Through}
use Rattle.ken_disk.specs.Story.{Story, Follows, IsImage}
use Rattle.ken_disk.proofs.Told.{some_is, told_both}
use Rattle.ken_model.specs.declared.values.Value.{Value}
use Rattle.ken_model.specs.Reading.{read_value}
use Rattle.ken_record.specs.declared.page.Page.{Page}
use Rattle.ken_cover.specs.Covers.{IsPossible, Covers}
use Rattle.ken_cover.specs.Sides.{ImagePages}
use Rattle.ken_cover.proofs.Keeps.{patch_keeps_coverage}
use Rattle.ken_alloc.specs.Objects.{heap_in}
use Rattle.ken_store.specs.declared.disks.Which.{Which}
use Rattle.ken_store.specs.declared.disks.Which.TheVariants.{First, Second}
use Rattle.ken_store.specs.declared.patching.PatchSide.{PatchSide}
use Rattle.ken_store.specs.declared.turning.TurnSide.{TurnSide}
use Rattle.ken_store.specs.Answers.{disks_from}
use Rattle.ken_store.specs.Apart.{hand_all, Apart, disks_apart, ApartRecovers, PatchRecoversApart, SyncRecoversApart, SealRecoversApart, UnsealedRecoversApart, TurnoverRecoversApart}
use Rattle.ken_store.specs.Patching.{MayBePatched, Patched}
use Rattle.ken_store.specs.Recovered.{Recovery, Whole}
use Rattle.ken_store.specs.Standing.{RecoversTo, RecoversMeanwhile, is_one}
use Rattle.ken_store.specs.Turning.{coming_record, log_answer, turn_pages, state_in}
use Rattle.ken_store.specs.Turnovers.{replaced_disk}
use Rattle.ken_store.proofs.ApartPages.{hand_all-patched, hand_all-possible}
use Rattle.ken_store.proofs.Sealing.{comes}
use Rattle.ken_store.proofs.SealMeanwhile.{changed_within, sealed_size}
use Rattle.ken_store.proofs.SealRecovers.{either_recovers, before_recovers}
use Rattle.ken_store.proofs.Standing.{by_which, left_now, recovered_by, side_recovers}
use Rattle.ken_store.proofs.TurnMeanwhile.{disks_turned, turn_any_moment}

module _ {D : Type 0} (told : D → Option Story) (size : D → ℕ) (handler : TurnSide D) (patcher : PatchSide D) (waiting : List (ℕ × List Page)) (i : ImagePages) (apart : Apart told size handler patcher waiting i) where
  -- an image that is left now is possible of the pages, and what waits doesn't touch it
  possible_now : (h : Story) → told patcher.image.disk ≡ Some h → (image : List ℕ) → IsImage h.now image → IsPossible i (take (256 * handler.owner.pages) image)
  possible_now h is image may = subst (λ (n : ℕ). IsPossible i (take (256 * n) image)) apart.count ((apart.patches.holds h is).left image may)

  possible_then : (h : Story) → told patcher.image.disk ≡ Some h → (image : List ℕ) → IsImage h.now image → IsPossible (hand_all waiting i) (take (256 * handler.owner.pages) image)
  possible_then h is image may = hand_all-possible waiting i (take (256 * handler.owner.pages) image) (possible_now h is image may)

  module _ (v : Value) (reads : read_value (turn_pages handler).heap ≡ Some v) where
    abbrev kept : Recovery → Type 0
    kept = is_one (Whole (state_in handler) v)

    -- an image that is possible of the pages
    possible_recovers : (l s : Story) → told handler.log.disk ≡ Some l → told handler.other ≡ Some s → (log image other : List ℕ) → IsImage l.now log → IsImage s.now other
        → IsPossible i (take (256 * handler.owner.pages) image) → kept (recovered_by handler.which handler.owner log image other)
    possible_recovers l s tl ts log image other in_log in_other possible =
        side_recovers told size handler apart.turns true (hand_all waiting i) apart.covers v reads l s tl ts log image other in_log in_other (hand_all-possible waiting i (take (256 * handler.owner.pages) image) possible)

    -- or with the next page written
    patched_recovers : (l s : Story) → told handler.log.disk ≡ Some l → told handler.other ≡ Some s → (log image other : List ℕ) → IsImage l.now log → IsImage s.now other
        → MayBePatched i (take (256 * handler.owner.pages) image) → kept (recovered_by handler.which handler.owner log image other)
    patched_recovers l s tl ts log image other in_log in_other may = ⊎_elim
        (λ possible. possible_recovers l s tl ts log image other in_log in_other possible)
        (λ patched. side_recovers told size handler apart.turns true (hand_all waiting patched.0) (covers_patched patched.0 patched.1.0) v reads l s tl ts log image other in_log in_other (hand_all-possible waiting patched.0 (take (256 * handler.owner.pages) image) patched.1.1))
        may
      where
        covers_patched : (i2 : ImagePages) → Patched i i2 → Covers handler.owner.pages true (turn_pages handler) (hand_all waiting i2)
        covers_patched i2 patched =
            let all = hand_all-patched waiting i i2 patched in
            subst (λ (j : ImagePages). Covers handler.owner.pages true (turn_pages handler) j) (sym all.is) (patch_keeps_coverage handler.owner.pages (turn_pages handler) (hand_all waiting i) all.page all.first all.rest all.change all.next apart.covers)

    -- as the disks are now
    by_disk : (which : Which) → handler.which ≡ which → RecoversTo told handler.owner (disks_from which handler.log.disk patcher.image.disk handler.other) (Whole (state_in handler) v)
    by_disk First is l tl h th s ts = λ log image second in_log in_image in_second.
        subst (λ (w : Which). recovered_by w handler.owner log image second ≡ Whole (state_in handler) v) is
        (possible_recovers l s tl ts log image second in_log in_second (possible_now h th image in_image))
    by_disk Second is s ts h th l tl = λ second image log in_second in_image in_log.
        subst (λ (w : Which). recovered_by w handler.owner log image second ≡ Whole (state_in handler) v) is
        (possible_recovers l s tl ts log image second in_log in_second (possible_now h th image in_image))

    -- at any moment between two states of the image's disk
    recovers_by : (new : PatchSide D) (P : List ℕ → Type 0) → Follows (λ h s. Through P h s) (told patcher.image.disk) (told new.image.disk)
        → ((l s : Story) → told handler.log.disk ≡ Some l → told handler.other ≡ Some s → (log image other : List ℕ) → IsImage l.now log → IsImage s.now other → P image → kept (recovered_by handler.which handler.owner log image other))
        → RecoversMeanwhile told handler.owner (disks_apart handler patcher) (disks_apart handler new) kept
    recovers_by new P follows each =
        by_which told handler.owner kept handler.log.disk patcher.image.disk handler.other handler.log.disk new.image.disk handler.other handler.which
        (λ l h s l2 h2 s2 tl th ts tl2 th2 ts2 log image other in_log in_image in_other.
        let both = told_both (λ h s. Through P h s) h _ _ th follows in
        let through = subst (λ (x : Story). Through P h x) (some_is both.0 h2 (sym both.1 ∙ th2)) both.2 in
        each l s tl ts log image other (left_now l l2 log (some_is l l2 (sym tl ∙ tl2)) in_log) (left_now s s2 other (some_is s s2 (sym ts ∙ ts2)) in_other) (through.each image in_image))

module _ {D : Type 0} (told : D → Option Story) (size : D → ℕ) where
  pub apart_recovers : ApartRecovers told size
  apart_recovers handler patcher waiting i v apart reads = by_disk told size handler patcher waiting i apart v reads handler.which refl

  pub patch_recovers_apart : PatchRecoversApart told size
  patch_recovers_apart handler patcher new waiting i v apart reads follows =
      recovers_by told size handler patcher waiting i apart v reads new (λ image. MayBePatched i (take (256 * patcher.image.pages) image)) follows
      (λ l s tl ts log image other in_log in_other may.
      patched_recovers told size handler patcher waiting i apart v reads l s tl ts log image other in_log in_other (subst (λ (n : ℕ). MayBePatched i (take (256 * n) image)) apart.count may))

  pub sync_recovers_apart : SyncRecoversApart told size
  sync_recovers_apart handler patcher new waiting i v apart reads follows =
      recovers_by told size handler patcher waiting i apart v reads new (λ image. IsPossible i (take (256 * patcher.image.pages) image)) follows
      (λ l s tl ts log image other in_log in_other possible.
      possible_recovers told size handler patcher waiting i apart v reads l s tl ts log image other in_log in_other (subst (λ (n : ℕ). IsPossible i (take (256 * n) image)) apart.count possible))

  pub seal_recovers_apart : SealRecoversApart told size
  seal_recovers_apart handler new patcher waiting i e v now apart begun fits follow same reads reads2 any =
      let it = comes handler.owner handler.numbers (handler.numbers.turns + 1) e handler.objects.bytes apart.turns.owner.most fits follow apart.turns.heap.bytes handler.objects.begun apart.turns.heap.before begun in
      let within = changed_within handler.owner.pages (turn_pages handler).heap (coming_record handler e).pages (sealed_size handler.owner.pages (heap_in handler.objects) apart.turns.heap) it.changed.each in
      either_recovers told size handler apart.turns (hand_all waiting i) apart.covers v reads e it.follow within new same.which same.other patcher.image.disk patcher.image.disk refl (possible_then told size handler patcher waiting i apart) now (ap read_value it.laid ∙ reads2) any

  pub unsealed_recovers_apart : UnsealedRecoversApart told size
  unsealed_recovers_apart handler new patcher waiting i v apart same reads still =
      before_recovers told size handler apart.turns (hand_all waiting i) apart.covers v reads new same.which same.other patcher.image.disk patcher.image.disk refl (possible_then told size handler patcher waiting i apart) still

  pub turnover_recovers_apart : TurnoverRecoversApart told size
  turnover_recovers_apart handler new patcher waiting i result settled acked emitted v apart idle may reads turned unturned own story =
      turn_any_moment told size handler apart.turns (hand_all waiting i) apart.covers idle settled acked emitted may v reads (Unit {0}) (log_answer result) (replaced_disk result new) patcher.image.disk patcher.image.disk _
      (disks_turned result settled acked emitted handler new patcher.image.disk turned unturned own) refl (possible_then told size handler patcher waiting i apart) story
