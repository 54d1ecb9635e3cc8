-- What the disks of a handler's side recover to while a turn is sealed, whatever is possible of its image.
use Rattle.std.proofs.Common.{◌≡◌, ℕ, ◌+◌, ◌*◌, List, [], ◌∷◌, ◌++◌, take, true, sym, ap, subst, ◌∙◌, ⊎_elim, inl, inr, Option, Some}
use Rattle.ken_disk.specs.Moments.{Through}
use Rattle.ken_disk.specs.Story.{Story, Follows, IsImage}
use Rattle.ken_disk.proofs.Images.{image_at_rest}
use Rattle.ken_disk.proofs.Told.{some_is, told_both}
use Rattle.ken_model.specs.declared.values.Value.{Value}
use Rattle.ken_model.specs.Reading.{read_value}
use Rattle.ken_record.specs.declared.effects.Effects.{Effects}
use Rattle.ken_record.specs.declared.record.Record.{Record}
use Rattle.ken_log.specs.Mounts.{mount_of, with_record}
use Rattle.ken_log.specs.Mounts as mounts
use Rattle.ken_log.specs.Seals.{MountsAs, MountsAsEither}
use Rattle.ken_cover.specs.Covers.{IsPossible, Covers}
use Rattle.ken_cover.specs.Overlay.{AreWithin}
use Rattle.ken_cover.specs.Sides.{TurnPages, ImagePages, pages_of, sealed_pages, handed_pages}
use Rattle.ken_cover.proofs.Keeps.{seal_keeps_coverage}
use Rattle.ken_store.specs.declared.disks.Which.{Which}
use Rattle.ken_store.specs.declared.turning.TurnSide.{TurnSide}
use Rattle.ken_store.specs.Answers.{disks_from}
use Rattle.ken_store.specs.Kept.{pages_in}
use Rattle.ken_store.specs.Logs.{front_of}
use Rattle.ken_store.specs.Numbers.{follows, after_record}
use Rattle.ken_store.specs.Recovered.{Recovery, Whole, state_of}
use Rattle.ken_store.specs.Standing.{RecoversMeanwhile, is_one, is_either}
use Rattle.ken_store.specs.Turning.{IsPassed, Turning, coming_record, turn_pages, state_in}
use Rattle.ken_store.proofs.Lives.{live_pages}
use Rattle.ken_store.proofs.Sealing.{live_more, numbers_more}
use Rattle.ken_store.proofs.Standing.{by_which, left_now, recovered_by, found_over}

module _ {D : Type 0} (told : D → Option Story) (size : D → ℕ) (handler : TurnSide D) (turning : Turning told size handler) (i : ImagePages) (covers : Covers handler.owner.pages true (turn_pages handler) i) (v : Value) (reads : read_value (turn_pages handler).heap ≡ Some v) where
  -- the log has the records before
  unsealed_found : (s l : Story) → told handler.log.disk ≡ Some l → told handler.other ≡ Some s → (log image other : List ℕ)
      → mount_of log ≡ mounts.Whole handler.log.header handler.log.base handler.records.items → IsImage s.now other → IsPossible i (take (256 * handler.owner.pages) image)
      → recovered_by handler.which handler.owner log image other ≡ Whole (state_in handler) v
  unsealed_found s l tl ts log image other mounts_so in_other possible =
      let passes = turning.other l tl s ts in
      let other_is = image_at_rest s.now (turning.rests s ts) other in_other in
      found_over handler.owner handler.log.header handler.log.base handler.records.items handler.numbers turning.numbers true (turn_pages handler) i covers
      (live_pages handler.log.header handler.log.base handler.base_turns.items handler.records.items turning.turns) v reads handler.which log image other mounts_so passes.owned
      (subst (λ (x : List ℕ). IsPassed handler.owner handler.log.header (front_of x)) (sym other_is) passes.passed) possible

  -- the side after the call is of the same node, and the image's disk tells what it told
  module _ (new : TurnSide D) (which : new.which ≡ handler.which) (other : new.other ≡ handler.other) (disk disk2 : D) (same : told disk2 ≡ told disk) (possible_now : (h : Story) → told disk ≡ Some h → (img : List ℕ) → IsImage h.now img → IsPossible i (take (256 * handler.owner.pages) img)) where
    seals_by : (P : Recovery → Type 0) (Q : List ℕ → List ℕ → Type 0) → Follows (λ h s. Through (Q h.now.seen) h s) (told handler.log.disk) (told new.log.disk)
        → ((s l : Story) → told handler.log.disk ≡ Some l → told handler.other ≡ Some s → (log img oth : List ℕ) → Q l.now.seen log → IsImage s.now oth → IsPossible i (take (256 * handler.owner.pages) img) → P (recovered_by handler.which handler.owner log img oth))
        → RecoversMeanwhile told handler.owner (disks_from handler.which handler.log.disk disk handler.other) (disks_from new.which new.log.disk disk2 new.other) P
    seals_by P Q follows each =
        subst (λ (w : Which). RecoversMeanwhile told handler.owner (disks_from handler.which handler.log.disk disk handler.other) (disks_from w new.log.disk disk2 new.other) P) (sym which)
        (by_which told handler.owner P handler.log.disk disk handler.other new.log.disk disk2 new.other handler.which
        (λ l h s l2 h2 s2 tl th ts tl2 th2 ts2 log img oth in_log in_image in_other.
        let both = told_both (λ h s. Through (Q h.now.seen) h s) l _ _ tl follows in
        let through = subst (λ (x : Story). Through (Q l.now.seen) l x) (some_is both.0 l2 (sym both.1 ∙ tl2)) both.2 in
        let same_image = some_is h h2 (sym th ∙ sym same ∙ th2) in
        let same_other = some_is s s2 (sym ts ∙ ap told (sym other) ∙ ts2) in
        each s l tl ts log img oth (through.each log in_log) (left_now s s2 oth same_other in_other) (possible_now h th img (left_now h h2 img same_image in_image))))

    -- the log mounts as before
    pub before_recovers : Follows (λ h s. Through (MountsAs (mount_of h.now.seen)) h s) (told handler.log.disk) (told new.log.disk)
        → RecoversMeanwhile told handler.owner (disks_from handler.which handler.log.disk disk handler.other) (disks_from new.which new.log.disk disk2 new.other) (is_one (Whole (state_in handler) v))
    before_recovers same_mount = seals_by (is_one (Whole (state_in handler) v)) (λ seen log. MountsAs (mount_of seen) log) same_mount
        (λ s l tl ts log img oth mounts_so in_other possible. unsealed_found s l tl ts log img oth (mounts_so ∙ turning.mounts l tl) in_other possible)

  module _ (e : Effects) (follow : follows handler.owner handler.numbers (coming_record handler e) ≡ true) (within : AreWithin handler.owner.pages (coming_record handler e).pages) where
    abbrev t : TurnPages
    t = sealed_pages (handler.numbers.turns + 1) (coming_record handler e).pages (turn_pages handler)

    abbrev after : List Record
    after = handler.records.items ++ coming_record handler e ∷ []

    live : pages_of t.live ≡ pages_in handler.log.base after
    live =
        ap pages_of (sym (live_more handler.log.header handler.log.base handler.base_turns.items handler.records.items (coming_record handler e)))
        ∙ live_pages handler.log.header handler.log.base handler.base_turns.items after turning.turns

    -- the log has the record too
    sealed_found : (v2 : Value) → read_value t.heap ≡ Some v2 → (s : Story) → (l : Story) → told handler.log.disk ≡ Some l → told handler.other ≡ Some s → (log image other : List ℕ)
        → mount_of log ≡ mounts.Whole handler.log.header handler.log.base after → IsImage s.now other → IsPossible i (take (256 * handler.owner.pages) image)
        → recovered_by handler.which handler.owner log image other ≡ Whole (state_of handler.owner.node (after_record handler.numbers (coming_record handler e)) handler.log.base after) v2
    sealed_found v2 reads2 s l tl ts log image other mounts_so in_other possible =
        let passes = turning.other l tl s ts in
        let other_is = image_at_rest s.now (turning.rests s ts) other in_other in
        found_over handler.owner handler.log.header handler.log.base after (after_record handler.numbers (coming_record handler e))
        (numbers_more handler.owner handler.numbers (coming_record handler e) follow handler.log.header handler.log.base handler.records.items turning.numbers)
        true t (handed_pages (handler.numbers.turns + 1) (coming_record handler e).pages i)
        (seal_keeps_coverage handler.owner.pages true (turn_pages handler) i (handler.numbers.turns + 1) (coming_record handler e).pages within covers)
        live v2 reads2 handler.which log image other mounts_so passes.owned
        (subst (λ (x : List ℕ). IsPassed handler.owner handler.log.header (front_of x)) (sym other_is) passes.passed)
        (record { size = possible.size; same = possible.same })

    module _ (new : TurnSide D) (which : new.which ≡ handler.which) (other : new.other ≡ handler.other) (disk disk2 : D) (same : told disk2 ≡ told disk) (possible_now : (h : Story) → told disk ≡ Some h → (img : List ℕ) → IsImage h.now img → IsPossible i (take (256 * handler.owner.pages) img)) where
      -- it mounts as before, or with the record
      pub either_recovers : (v2 : Value) → read_value t.heap ≡ Some v2 → Follows (λ h s. Through (MountsAsEither (mount_of h.now.seen) (with_record (coming_record handler e) (mount_of h.now.seen))) h s) (told handler.log.disk) (told new.log.disk)
          → RecoversMeanwhile told handler.owner (disks_from handler.which handler.log.disk disk handler.other) (disks_from new.which new.log.disk disk2 new.other) (is_either (Whole (state_in handler) v) (Whole (state_of handler.owner.node (after_record handler.numbers (coming_record handler e)) handler.log.base after) v2))
      either_recovers v2 reads2 any = seals_by new which other disk disk2 same possible_now (is_either (Whole (state_in handler) v) (Whole (state_of handler.owner.node (after_record handler.numbers (coming_record handler e)) handler.log.base after) v2)) (λ seen log. MountsAsEither (mount_of seen) (with_record (coming_record handler e) (mount_of seen)) log) any
          (λ s l tl ts log img oth mounts_so in_other possible. ⊎_elim
          (λ before. inl (unsealed_found s l tl ts log img oth (before ∙ turning.mounts l tl) in_other possible))
          (λ with_it. inr (sealed_found v2 reads2 s l tl ts log img oth (with_it ∙ ap (with_record (coming_record handler e)) (turning.mounts l tl)) in_other possible))
          mounts_so)
