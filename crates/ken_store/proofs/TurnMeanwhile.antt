-- What a crash leaves while the log of a store is turned over.
use Rattle.std.proofs.Common.{◌≡◌, ℕ, ◌*◌, List, [], take, true, refl, sym, ap, subst, ◌∙◌, ⊎_elim, inl, inr, arith, Option, Some, None, Result, Ok, Err}
use Rattle.ken_disk.specs.Story.{Story, Follows, IsImage}
use Rattle.ken_disk.proofs.Images.{image_at_rest}
use Rattle.ken_disk.proofs.Told.{some_is, told_both}
use Rattle.ken_model.specs.declared.states.State.{State}
use Rattle.ken_model.specs.declared.values.Value.{Value}
use Rattle.ken_model.specs.Reading.{read_value}
use Rattle.ken_record.specs.declared.base.Base.{Base}
use Rattle.ken_record.specs.declared.header.Header.{Header}
use Rattle.ken_log.specs.declared.faults.SealFault.{SealFault}
use Rattle.ken_log.specs.Formats.{Replaces, next_header}
use Rattle.ken_log.specs.Mounts.{mount_of}
use Rattle.ken_log.specs.Mounts as mounts
use Rattle.ken_cover.specs.Covers.{Covers, IsPossible, MayLeaveOut}
use Rattle.ken_cover.specs.Sides.{ImagePages, turned_pages}
use Rattle.ken_cover.proofs.Keeps.{turnover_keeps_coverage}
use Rattle.ken_store.specs.declared.disks.Disks.{Disks}
use Rattle.ken_store.specs.declared.disks.Which.{Which}
use Rattle.ken_store.specs.declared.disks.Which.TheVariants.{First, Second}
use Rattle.ken_store.specs.declared.heads.Front.TheVariants.{Begins}
use Rattle.ken_store.specs.declared.owner.Owner.{Owner}
use Rattle.ken_store.specs.declared.store.Store.{Store}
use Rattle.ken_store.specs.declared.turning.TurnSide.{TurnSide}
use Rattle.ken_store.specs.Answers.{disks_from}
use Rattle.ken_store.specs.Apart.{Apart}
use Rattle.ken_store.specs.Logs.{front_of, other_log}
use Rattle.ken_store.specs.Recovered.{Recovery, Whole}
use Rattle.ken_store.specs.Standing.{IsStore, RecoversMeanwhile, Standing, is_either}
use Rattle.ken_store.specs.Turning.{Turning, IsPassed, sealed_bytes, turn_pages, state_in}
use Rattle.ken_store.specs.Turnovers.{IsTurned, IsUnturned, base_of, kept_disk, replaced_disk, without_told}
use Rattle.std.specs.Prelude.{OnOk, OnErr, IsErrOf}
use Rattle.ken_alloc.specs.Objects.{FramedHeap}
use Rattle.ken_store.specs.declared.faults.StoreFault.{StoreFault}
use Rattle.ken_store.specs.declared.faults.StoreFault.TheVariants as faults
use Rattle.ken_store.specs.declared.numbers.Numbers.{Numbers}
use Rattle.ken_store.proofs.ApartLaws.{turnover_keeps_apart}
use Rattle.ken_store.proofs.SealMeanwhile.{stands_undone}
use Rattle.ken_store.proofs.Sealing.{pages_are}
use Rattle.ken_store.proofs.Lives.{live_pages}
use Rattle.ken_store.proofs.Mounted.{front_none, front_whole}
use Rattle.ken_store.proofs.Standing.{by_which, found_over, left_now, recovered_by}
use Rattle.ken_store.proofs.Turned.{next_numbers, turned_live_pages, turned_state}

-- the other way round
swapped : (which : Which) (o : Owner) (log image other : List ℕ) → recovered_by (other_log which) o other image log ≡ recovered_by which o log image other
swapped First o log image other = refl
swapped Second o log image other = refl

module _ {D : Type 0} (told : D → Option Story) (size : D → ℕ) (old : TurnSide D) (turning : Turning told size old) (i : ImagePages) (covers : Covers old.owner.pages true (turn_pages old) i) (idle : old.objects.begun ≡ None) (settled : ℕ) (acked : List ℕ) (emitted : ℕ) (may : MayLeaveOut settled (turn_pages old) i) (v : Value) (reads : read_value (turn_pages old).heap ≡ Some v) where
  abbrev base : Base
  base = base_of old settled acked emitted

  abbrev next : Header
  next = next_header old.log base

  abbrev kept : Recovery → Type 0
  kept = is_either (Whole (state_in old) v) (Whole (without_told acked emitted (state_in old)) v)

  -- the other disk has no log that counts
  not_turned : (l s : Story) → told old.log.disk ≡ Some l → told old.other ≡ Some s → (log image other : List ℕ) → IsImage l.now log → IsPassed old.owner old.log.header (front_of other) → IsPossible i (take (256 * old.owner.pages) image)
      → recovered_by old.which old.owner log image other ≡ Whole (state_in old) v
  not_turned l s tl ts log image other in_log passed possible =
      let log_is = image_at_rest l.now (turning.log.rests l tl) log in_log in
      found_over old.owner old.log.header old.log.base old.records.items old.numbers turning.numbers true (turn_pages old) i covers
      (live_pages old.log.header old.log.base old.base_turns.items old.records.items turning.turns) v reads old.which log image other
      (ap mount_of log_is ∙ turning.mounts l tl) (turning.other l tl s ts).owned passed possible

  -- it has the new one
  turned : (l s : Story) → told old.log.disk ≡ Some l → told old.other ≡ Some s → (log image other : List ℕ) → IsImage l.now log → mount_of other ≡ mounts.Whole next (Some base) [] → IsPossible i (take (256 * old.owner.pages) image)
      → recovered_by old.which old.owner log image other ≡ Whole (without_told acked emitted (state_in old)) v
  turned l s tl ts log image other in_log mounts_so possible =
      let log_is = image_at_rest l.now (turning.log.rests l tl) log in_log in
      let owned = (turning.other l tl s ts).owned in
      let front : front_of log ≡ Begins old.log.header = front_whole log old.log.header old.log.base old.records.items (ap mount_of log_is ∙ turning.mounts l tl) in
      sym (swapped old.which old.owner log image other)
      ∙ found_over old.owner next (Some base) [] old.numbers (next_numbers told size old old turning idle settled acked emitted) true (turned_pages old.owner.pages settled old.numbers.turns (turn_pages old)) i
      (turnover_keeps_coverage old.owner.pages true (turn_pages old) i settled old.numbers.turns may covers)
      (turned_live_pages old settled acked emitted) v reads (other_log old.which) other image log
      mounts_so owned (subst (IsPassed old.owner next) (sym front) (omega arith, owned)) possible
      ∙ ap (λ (x : State). Whole x v) (turned_state old settled acked emitted)

  -- the image's disk tells what it told
  pub turn_any_moment : (T : Type 0) (result : Result T SealFault) (disk image image2 : D) (new : Disks D) → new ≡ disks_from old.which old.log.disk image2 disk → told image2 ≡ told image
      → ((h : Story) → told image ≡ Some h → (img : List ℕ) → IsImage h.now img → IsPossible i (take (256 * old.owner.pages) img))
      → Follows (λ h s. Replaces {T = T} (mounts.Whole next (Some base) []) result h s) (told old.other) (told disk) → RecoversMeanwhile told old.owner (disks_from old.which old.log.disk image old.other) new kept
  turn_any_moment T result disk image image2 new is same_image possible_now story =
      subst (λ (d : Disks D). RecoversMeanwhile told old.owner (disks_from old.which old.log.disk image old.other) d kept) (sym is)
      (by_which told old.owner kept old.log.disk image old.other old.log.disk image2 disk old.which
      (λ l h s l2 h2 s2 tl th ts tl2 th2 ts2 log img oth in_log in_image in_other.
      let both = told_both (λ h s. Replaces {T = T} (mounts.Whole next (Some base) []) result h s) s _ _ ts story in
      let through = subst (λ (x : Story). Replaces {T = T} (mounts.Whole next (Some base) []) result s x) (some_is both.0 s2 (sym both.1 ∙ ts2)) both.2 in
      let log_now = left_now l l2 log (some_is l l2 (sym tl ∙ tl2)) in_log in
      let possible = possible_now h th img (left_now h h2 img (some_is h h2 (sym th ∙ sym same_image ∙ th2)) in_image) in
      let passed = (turning.other l tl s ts).passed in
      ⊎_elim
      (λ before. inl (not_turned l s tl ts log img oth log_now (subst (λ (b : List ℕ). IsPassed old.owner old.log.header (front_of b)) (sym (image_at_rest s.now (turning.rests s ts) oth before)) passed) possible))
      (λ rest. ⊎_elim
      (λ none. inl (not_turned l s tl ts log img oth log_now (subst (IsPassed old.owner old.log.header) (sym (front_none oth none)) tt) possible))
      (λ whole. inr (turned l s tl ts log img oth log_now whole possible))
      rest)
      (through.any_moment.each oth in_other)))

-- where the disks are after a turnover
changed_places : {D : Type 0} (which : Which) (a image b : D) → disks_from (other_log which) a image b ≡ disks_from which b image a
changed_places First a image b = refl
changed_places Second a image b = refl

pub disks_turned : {D T : Type 0} (r : Result T StoreFault) (settled : ℕ) (acked : List ℕ) (emitted : ℕ) (old new : TurnSide D) (image : D) → OnOk r (IsTurned settled acked emitted old new) → OnErr r (IsUnturned old new) → kept_disk r new ≡ old.log.disk
    → disks_from new.which new.log.disk image new.other ≡ disks_from old.which old.log.disk image (replaced_disk r new)
disks_turned (Ok x) settled acked emitted old new image turned unturned own =
    ap (λ (w : Which). disks_from w new.log.disk image new.other) turned.which
    ∙ changed_places old.which new.log.disk image new.other
    ∙ ap (λ d. disks_from old.which d image new.log.disk) own
disks_turned (Err e) settled acked emitted old new image turned unturned own =
    ap (λ (w : Which). disks_from w new.log.disk image new.other) unturned.which
    ∙ ap (λ d. disks_from old.which d image new.other) own

-- a store goes on standing
pub turned_stands : {D T : Type 0} (told : D → Option Story) (size : D → ℕ) (r : Result T StoreFault) (settled : ℕ) (acked : List ℕ) (emitted : ℕ) (old : Store D) (new : TurnSide D) (i : ImagePages) → Standing told size old i → MayLeaveOut settled (turn_pages old.turns) i
    → OnOk r (IsTurned settled acked emitted old.turns new) → OnOk r (Turning told size new) → OnOk r (Standing told size (record { turns = new; patches = old.patches }) i)
turned_stands told size (Err e) settled acked emitted old new i stands may turned turning = tt
turned_stands told size (Ok x) settled acked emitted old new i stands may turned turning =
    let before : Apart told size old.turns old.patches [] i = record {
      turns = stands.takes.turns;
      patches = stands.patches;
      count = stands.takes.count;
      waits = tt;
      known = stands.takes.known;
      covers = stands.covers;
      behind = stands.behind;
      before = stands.before;
    } in
    let now = turnover_keeps_apart told size old.turns new old.patches [] i settled before may turning turned.live turned.owner turned.numbers in
    record {
      takes = record { turns = turning; patches = stands.takes.patches; count = now.count; known = now.known };
      patches = stands.patches;
      covers = now.covers;
      behind = now.behind;
      before = now.before;
    }

-- and where memory ran out, all that it stands for is as it was
pub unturned_stands : {D T : Type 0} (told : D → Option Story) (size : D → ℕ) (r : Result T StoreFault) (old : Store D) (new : TurnSide D) (i : ImagePages) → Standing told size old i → OnErr r (IsUnturned old.turns new) → (IsErrOf r faults.Memory → Turning told size new) → IsErrOf r faults.Memory → Standing told size (record { turns = new; patches = old.patches }) i
unturned_stands told size (Ok x) old new i stands un turning is = absurd (let none : ⊥ = cc is in none)
unturned_stands told size (Err e) old new i stands un turning is =
    let takes : IsStore told size (record { turns = new; patches = old.patches }) = record { turns = turning is; patches = stands.takes.patches; count = stands.takes.count ∙ ap (λ (o : Owner). o.pages) (sym un.owner); known = stands.takes.known ∙ ap (λ (n : Numbers). n.turns) (sym un.numbers) } in
    let pages : turn_pages new ≡ turn_pages old.turns = pages_are _ _ _ _ (ap (λ (h : FramedHeap). sealed_bytes h.bytes h.begun) un.objects) (rw (un.head, un.base, un.base_turns, un.records) refl) in
    stands_undone told size old (record { turns = new; patches = old.patches }) i stands takes pages un.owner un.numbers refl refl
