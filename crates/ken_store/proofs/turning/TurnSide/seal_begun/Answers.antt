use Rattle.std.proofs.Common.{◌≡◌, ◌∙◌, ℕ, ◌+◌, List, [], ◌∷◌, ◌++◌, Option, None, Result, Ok, Err, true, length, ap, sym, refl, subst, arith, length-append}
use Rattle.std.specs.declared.sync.Arc.{Arc}
use Rattle.std.proofs.lemmas.Result.{err_from_is_err_and}
use Rattle.ken_disk.specs.Fates.{Fate, Suffers}
use Rattle.ken_disk.specs.Story.{Story, Follows}
use Rattle.ken_disk.specs.Writes.{Made}
use Rattle.ken_disk.proofs.Told.{weakened}
use Rattle.ken_log.specs.Calls.{seal_writes}
use Rattle.ken_log.specs.declared.log.Log.{Log}
use Rattle.ken_log.specs.declared.faults.SealFault.{SealFault}
use Rattle.ken_log.specs.declared.faults.SealFault.TheVariants as seals
use Rattle.ken_log.specs.Mounts.{mount_of, with_record}
use Rattle.ken_log.specs.Seals.{Changes, HasLogCause, as_disk}
use Rattle.ken_record.specs.declared.effects.Effects.{Effects}
use Rattle.ken_record.specs.declared.page.Page.{Page}
use Rattle.ken_record.specs.declared.record.Record.{Record}
use Rattle.ken_record.specs.Turns.{turn_pages, turn_record}
use Rattle.ken_record.specs.Grammar.{IsRecord}
use Rattle.ken_record.specs.Versions.{One}
use Rattle.ken_alloc.specs.Objects.{Heap, heap_in}
use Rattle.ken_store.specs.Ahead.{frame_pages}
use Rattle.ken_store.specs.Numbers.{follows, after_record}
use Rattle.ken_store.specs.declared.numbers.Numbers.{Numbers}
use Rattle.ken_store.specs.Turning.{HasPages, SealsOn, changed_pages, coming_record, record_of}
use Rattle.ken_store.proofs.Sealing.{comes, record_long, told_before, turning_same, turning_with, sealed_is, numbers_more, items_more, mounts_more, mounts_same, seals_as, unsealed}
use Rattle.ken_store.proofs.turning.TurnSide.seal_begun.Goals as goal

-- what the log seals is the coming record
sealed_item : {Z : Type 0} (e : Effects) (k n : ℕ) (xs es : List (ℕ × Arc (List ℕ) Z)) (ps : List Page) → k ≡ n → xs ≡ es → frame_pages es ≡ ps → turn_record (k + 1) e (turn_pages xs) ≡ record_of (n + 1) e ps
sealed_item e k n xs es ps turn frames pages =
    ap (λ (i : ℕ). record_of (i + 1) e (frame_pages xs)) turn ∙ ap (λ l. record_of (n + 1) e (frame_pages l)) frames ∙ ap (record_of (n + 1) e) pages

story_of : (U : Type 0) (q : Result U SealFault) (a b : Option Story) (x y : Record) → x ≡ y
    → Follows (λ (h s : Story). Changes {T = U} (mount_of h.now.seen) (with_record x (mount_of h.now.seen)) 2 q h s) a b → Follows (λ (h s : Story). Changes {T = U} (mount_of h.now.seen) (with_record y (mount_of h.now.seen)) 2 q h s) a b
story_of U q a b x y same follow = subst (λ (r : Record). Follows (λ (h s : Story). Changes {T = U} (mount_of h.now.seen) (with_record r (mount_of h.now.seen)) 2 q h s) a b) same follow

-- what was sealed is another record's name, and then the answer another one's
module _ {D : Type 0} (T : Type 0) (told : D → Option Story) (count : D → ℕ) (ahead : D → Option Fate) (place : ℕ) (item : Record) (old new : D) where
  log_of : (q : Result T SealFault) (r : Record) → r ≡ item → Follows (λ (h s : Story). Changes {T = T} (mount_of h.now.seen) (with_record r (mount_of h.now.seen)) 2 q h s) (told old) (told new)
      → Follows (Made (as_disk q) (seal_writes One place r)) (told old) (told new) → HasLogCause (count old) (count new) q → Follows (Suffers (as_disk q)) (ahead old) (ahead new) → SealsOn {T = T} told count ahead q place item old new
  log_of q r same story calls cause fate = record {
    story = story_of T q (told old) (told new) r item same story;
    calls = subst (λ (x : Record). Follows (Made (as_disk q) (seal_writes One place x)) (told old) (told new)) same calls;
    cause = cause;
    fate = fate;
  }

  log_ok : (U : Type 0) (x : T) (y : U) → SealsOn {T = T} told count ahead (Ok x) place item old new → SealsOn {T = U} told count ahead (Ok y) place item old new
  log_ok U x y is = record {
    story = weakened (λ (h s : Story). Changes {T = T} (mount_of h.now.seen) (with_record item (mount_of h.now.seen)) 2 (Ok x) h s) (λ (h s : Story). Changes {T = U} (mount_of h.now.seen) (with_record item (mount_of h.now.seen)) 2 (Ok y) h s) (told old) (told new) is.story (λ h s _ r. record {
      any_moment = r.any_moment;
      ok = r.ok;
      memory = λ err. absurd (let none : ⊥ = cc err in none);
      in_doubt = λ err. absurd (let none : ⊥ = cc err in none);
    });
    calls = is.calls;
    cause = is.cause;
    fate = is.fate;
  }

pub returns-in_err-item-clause-goes_on : goal.returns-in_err-item-clause-goes_on
returns-in_err-item-clause-goes_on g c = λ _. turning_same g.D.Disk.told g.D.Disk.size c.args.self.now c.coming.new.self c.requires.turning c.coming.ensures.same c.coming.ensures.objects

pub returns-in_err-item-clause-log : goal.returns-in_err-item-clause-log
returns-in_err-item-clause-log g c =
    let t = c.requires.turning in
    let it = comes c.args.self.now.owner c.args.self.now.numbers (c.args.self.now.numbers.turns + 1) c.args.effects.now c.args.self.now.objects.bytes t.owner.most c.requires.fits c.requires.follows t.heap.bytes c.args.self.now.objects.begun t.heap.before c.requires.begun in
    let p = err_from_is_err_and c.from_residual.result c.from_residual.ensures.1 in
    let disk : c.coming.new.self.log.disk ≡ c.args.self.now.log.disk = rw c.coming.ensures.same.log refl in
    rw (p.1, p.2) (unsealed _ g.D.Disk.told g.D.Disk.size g.D.Disk.faults g.D.Disk.fate c.args.self.now.log (coming_record c.args.self.now c.args.effects.now) c.coming.new.self.log.disk disk t.log it.fits)

pub seal_turn-requires-clause-item : goal.seal_turn-requires-clause-item
seal_turn-requires-clause-item g c =
    let t = c.requires.turning in
    let it = comes c.args.self.now.owner c.args.self.now.numbers (c.args.self.now.numbers.turns + 1) c.args.effects.now c.args.self.now.objects.bytes t.owner.most c.requires.fits c.requires.follows t.heap.bytes c.args.self.now.objects.begun t.heap.before c.requires.begun in
    subst (IsRecord One) (sym (sealed_item c.args.effects.now c.coming.new.self.numbers.turns c.args.self.now.numbers.turns c.deref.result.now c.in_ok-item.frames.items (changed_pages c.args.self.now.objects.begun c.args.self.now.objects.bytes) (ap (λ (m : Numbers). m.turns) c.coming.ensures.same.numbers) c.deref.ensures.value c.in_ok-item.ensures.pages)) it.fits

pub seal_turn-requires-clause-room : goal.seal_turn-requires-clause-room
seal_turn-requires-clause-room g c =
    let t = c.requires.turning in
    let it = comes c.args.self.now.owner c.args.self.now.numbers (c.args.self.now.numbers.turns + 1) c.args.effects.now c.args.self.now.objects.bytes t.owner.most c.requires.fits c.requires.follows t.heap.bytes c.args.self.now.objects.begun t.heap.before c.requires.begun in
    let fits : IsRecord One (turn_record (c.coming.new.self.numbers.turns + 1) c.args.effects.now (turn_pages c.deref.result.now)) = subst (IsRecord One) (sym (sealed_item c.args.effects.now c.coming.new.self.numbers.turns c.args.self.now.numbers.turns c.deref.result.now c.in_ok-item.frames.items (changed_pages c.args.self.now.objects.begun c.args.self.now.objects.bytes) (ap (λ (m : Numbers). m.turns) c.coming.ensures.same.numbers) c.deref.ensures.value c.in_ok-item.ensures.pages)) it.fits in
    let long = record_long (turn_record (c.coming.new.self.numbers.turns + 1) c.args.effects.now (turn_pages c.deref.result.now)) fits in
    rw c.coming.ensures.same.log (omega (arith, c.requires.room, long))

pub returns-in_err-seal_turn-clause-goes_on : goal.returns-in_err-seal_turn-clause-goes_on
returns-in_err-seal_turn-clause-goes_on g c = λ is.
    let t = c.requires.turning in
    let same = c.coming.ensures.same in
    let p = err_from_is_err_and c.from_residual-in_err-seal_turn.result c.from_residual-in_err-seal_turn.ensures.1 in
    let fault : c.in_err-seal_turn.field-0.0 ≡ seals.Memory = cc (p.1, p.2, is) in
    let settled = c.in_err-seal_turn.ensures.goes_on (ap Err fault) in
    let head : c.seal_turn.new.self.header ≡ c.args.self.now.log.header = rw same.log at c.in_err-seal_turn.ensures.head.0 in
    let base : c.seal_turn.new.self.base ≡ c.args.self.now.log.base = rw same.log at c.in_err-seal_turn.ensures.head.1 in
    let count : c.seal_turn.new.self.records ≡ c.args.self.now.log.records = rw same.log at c.in_err-seal_turn.ensures.same.0 in
    let heap : HasPages c.args.self.now.owner.pages (heap_in c.coming.new.self.objects) = subst (HasPages c.args.self.now.owner.pages) (sym c.coming.ensures.objects) t.heap in
    let item : (turn_record (c.coming.new.self.numbers.turns + 1) c.args.effects.now (turn_pages c.deref.result.now)) ≡ c.in_ok-item.item = sealed_item c.args.effects.now c.coming.new.self.numbers.turns c.args.self.now.numbers.turns c.deref.result.now c.in_ok-item.frames.items (changed_pages c.args.self.now.objects.begun c.args.self.now.objects.bytes) (ap (λ (m : Numbers). m.turns) c.coming.ensures.same.numbers) c.deref.ensures.value c.in_ok-item.ensures.pages ∙ sym c.in_ok-item.ensures.item in
    let story = rw same.log at (rw fault at (story_of _ _ _ _ _ _ item c.in_err-seal_turn.ensures.story)) in
    turning_with g.D.Disk.told g.D.Disk.size c.args.self.now _ t c.seal_turn.new.self c.args.self.now.records.items c.args.self.now.numbers (record { owner = same.owner; which = same.which; other = same.other }) refl head base same.records same.numbers same.base_turns heap
    settled (count ∙ t.count) (mounts_same _ c.in_ok-item.item c.args.self.now.log.header c.args.self.now.log.base c.args.self.now.records.items _ _ story t.mounts settled.rests) t.items t.numbers (told_before _ _ _ story)

pub keep-requires-clause-follows : goal.keep-requires-clause-follows
keep-requires-clause-follows g c =
    rw (c.coming.ensures.same.owner, c.coming.ensures.same.numbers) c.requires.follows

pub keep-requires-clause-turns : goal.keep-requires-clause-turns
keep-requires-clause-turns g c = rw c.coming.ensures.same.numbers c.requires.fits.turn.1

pub returns-clause-sealed : goal.returns-clause-sealed
returns-clause-sealed g c =
    let t = c.requires.turning in
    let it = comes c.args.self.now.owner c.args.self.now.numbers (c.args.self.now.numbers.turns + 1) c.args.effects.now c.args.self.now.objects.bytes t.owner.most c.requires.fits c.requires.follows t.heap.bytes c.args.self.now.objects.begun t.heap.before c.requires.begun in
    let same = c.coming.ensures.same in
    let pages = c.in_ok-item.ensures.pages in
    let item : c.in_ok-item.item ≡ record_of (c.args.self.now.numbers.turns + 1) c.args.effects.now (frame_pages c.in_ok-item.frames.items) = c.in_ok-item.ensures.item ∙ ap (record_of (c.args.self.now.numbers.turns + 1) c.args.effects.now) (sym pages) in
    let records : c.keep.new.self.records.items ≡ c.args.self.now.records.items ++ record_of (c.args.self.now.numbers.turns + 1) c.args.effects.now (frame_pages c.in_ok-item.frames.items) ∷ [] = rw (same.records, item) at c.keep.ensures.records in
    let objects : heap_in c.keep.new.self.objects ≡ record (heap_in c.args.self.now.objects) { begun = None } = c.keep.ensures.objects ∙ ap (λ (h : Heap). record h { begun = None }) c.coming.ensures.objects in
    let head : c.keep.new.self.log.header ≡ c.args.self.now.log.header = rw c.keep.ensures.log (rw same.log at c.in_ok-seal_turn.ensures.head.0) in
    let base : c.keep.new.self.log.base ≡ c.args.self.now.log.base = rw c.keep.ensures.log (rw same.log at c.in_ok-seal_turn.ensures.head.1) in
    let base_turns : c.keep.new.self.base_turns.items ≡ c.args.self.now.base_turns.items = c.keep.ensures.base_turns ∙ same.base_turns in
    record {
      counted = refl;
      changed = pages;
      live = sealed_is c.args.effects.now c.args.self.now c.keep.new.self (frame_pages c.in_ok-item.frames.items) pages it.laid records objects head base base_turns;
      records = records;
      numbers = rw same.numbers at c.keep.ensures.numbers;
      objects = objects;
      head = head;
      base = base;
      base_turns = base_turns;
    }

pub returns-clause-changed : goal.returns-clause-changed
returns-clause-changed g c =
    let t = c.requires.turning in
    let it = comes c.args.self.now.owner c.args.self.now.numbers (c.args.self.now.numbers.turns + 1) c.args.effects.now c.args.self.now.objects.bytes t.owner.most c.requires.fits c.requires.follows t.heap.bytes c.args.self.now.objects.begun t.heap.before c.requires.begun in
    rw c.in_ok-item.ensures.pages it.changed

pub returns-clause-turning : goal.returns-clause-turning
returns-clause-turning g c =
    let t = c.requires.turning in
    let it = comes c.args.self.now.owner c.args.self.now.numbers (c.args.self.now.numbers.turns + 1) c.args.effects.now c.args.self.now.objects.bytes t.owner.most c.requires.fits c.requires.follows t.heap.bytes c.args.self.now.objects.begun t.heap.before c.requires.begun in
    let same = c.coming.ensures.same in
    let item = c.in_ok-item.ensures.item in
    let fits : IsRecord One c.in_ok-item.item = subst (IsRecord One) (sym item) it.fits in
    let follow : follows c.args.self.now.owner c.args.self.now.numbers c.in_ok-item.item ≡ true = rw item it.follow in
    let head : c.seal_turn.new.self.header ≡ c.args.self.now.log.header = rw same.log at c.in_ok-seal_turn.ensures.head.0 in
    let base : c.seal_turn.new.self.base ≡ c.args.self.now.log.base = rw same.log at c.in_ok-seal_turn.ensures.head.1 in
    let count : c.seal_turn.new.self.records ≡ c.args.self.now.log.records + 1 = rw same.log at c.in_ok-seal_turn.ensures.grown.0 in
    let long : length (c.args.self.now.records.items ++ c.in_ok-item.item ∷ []) ≡ length c.args.self.now.records.items + 1 = length-append c.args.self.now.records.items (c.in_ok-item.item ∷ []) in
    let objects : heap_in c.keep.new.self.objects ≡ record (heap_in c.args.self.now.objects) { begun = None } = c.keep.ensures.objects ∙ ap (λ (h : Heap). record h { begun = None }) c.coming.ensures.objects in
    let heap : HasPages c.args.self.now.owner.pages (heap_in c.keep.new.self.objects) = subst (HasPages c.args.self.now.owner.pages) (sym objects) (record { bytes = t.heap.bytes; before = λ b none. absurd cc }) in
    let settled = c.in_ok-seal_turn.ensures.settled in
    let spelled : (turn_record (c.coming.new.self.numbers.turns + 1) c.args.effects.now (turn_pages c.deref.result.now)) ≡ c.in_ok-item.item = sealed_item c.args.effects.now c.coming.new.self.numbers.turns c.args.self.now.numbers.turns c.deref.result.now c.in_ok-item.frames.items (changed_pages c.args.self.now.objects.begun c.args.self.now.objects.bytes) (ap (λ (m : Numbers). m.turns) c.coming.ensures.same.numbers) c.deref.ensures.value c.in_ok-item.ensures.pages ∙ sym item in
    let story = rw same.log at (story_of _ _ _ _ _ _ spelled c.in_ok-seal_turn.ensures.story) in
    let numbers : c.keep.new.self.numbers ≡ after_record c.args.self.now.numbers (coming_record c.args.self.now c.args.effects.now) = rw same.numbers at c.keep.ensures.numbers in
    turning_with g.D.Disk.told g.D.Disk.size c.args.self.now c.keep.new.self t c.seal_turn.new.self (c.args.self.now.records.items ++ c.in_ok-item.item ∷ []) (after_record c.args.self.now.numbers c.in_ok-item.item)
    (record { owner = c.keep.ensures.others.owner ∙ same.owner; which = c.keep.ensures.others.which ∙ same.which; other = c.keep.ensures.others.other ∙ same.other })
    c.keep.ensures.log head base (rw same.records at c.keep.ensures.records) (numbers ∙ ap (after_record c.args.self.now.numbers) (sym item)) (c.keep.ensures.base_turns ∙ same.base_turns) heap
    settled (omega (arith, count, t.count, long)) (mounts_more _ c.in_ok-item.item c.args.self.now.log.header c.args.self.now.log.base c.args.self.now.records.items _ _ _ story t.mounts settled.rests)
    (items_more (IsRecord One) c.args.self.now.records.items c.in_ok-item.item t.items fits) (numbers_more c.args.self.now.owner c.args.self.now.numbers c.in_ok-item.item follow c.args.self.now.log.header c.args.self.now.log.base c.args.self.now.records.items t.numbers) (told_before _ _ _ story)

pub returns-in_err-seal_turn-clause-log : goal.returns-in_err-seal_turn-clause-log
returns-in_err-seal_turn-clause-log g c =
    let s = c.args.self.now in
    let same = c.coming.ensures.same in
    let e = c.in_err-seal_turn.ensures in
    let p = err_from_is_err_and c.from_residual-in_err-seal_turn.result c.from_residual-in_err-seal_turn.ensures.1 in
    let disk : c.coming.new.self.log.disk ≡ s.log.disk = rw same.log refl in
    let fault : p.0 ≡ c.in_err-seal_turn.field-0.0 = cc p.2 in
    let spelled : (turn_record (c.coming.new.self.numbers.turns + 1) c.args.effects.now (turn_pages c.deref.result.now)) ≡ coming_record s c.args.effects.now = sealed_item c.args.effects.now c.coming.new.self.numbers.turns c.args.self.now.numbers.turns c.deref.result.now c.in_ok-item.frames.items (changed_pages c.args.self.now.objects.begun c.args.self.now.objects.bytes) (ap (λ (m : Numbers). m.turns) c.coming.ensures.same.numbers) c.deref.ensures.value c.in_ok-item.ensures.pages in
    rw (p.1, fault) (seals_as (Unit {0}) _ g.D.Disk.told g.D.Disk.faults g.D.Disk.fate s.log.end (coming_record s c.args.effects.now) s.log.disk c.seal_turn.new.self.disk c.in_err-seal_turn.field-0.0
    (log_of (Unit {0}) g.D.Disk.told g.D.Disk.faults g.D.Disk.fate s.log.end (coming_record s c.args.effects.now) s.log.disk c.seal_turn.new.self.disk (Err c.in_err-seal_turn.field-0.0) (turn_record (c.coming.new.self.numbers.turns + 1) c.args.effects.now (turn_pages c.deref.result.now)) spelled
    (rw same.log at e.story) (subst (λ (l : Log g.row.D.Denot). Follows (Made (as_disk {T = Unit {0}} (Err c.in_err-seal_turn.field-0.0)) (seal_writes One l.end (turn_record (c.coming.new.self.numbers.turns + 1) c.args.effects.now (turn_pages c.deref.result.now)))) (g.D.Disk.told l.disk) (g.D.Disk.told c.seal_turn.new.self.disk)) same.log e.calls)
    (subst (λ d. HasLogCause {T = Unit {0}} (g.D.Disk.faults d) (g.D.Disk.faults c.seal_turn.new.self.disk) (Err c.in_err-seal_turn.field-0.0)) disk e.cause)
    (subst (λ d. Follows (Suffers (as_disk {T = Unit {0}} (Err c.in_err-seal_turn.field-0.0))) (g.D.Disk.fate d) (g.D.Disk.fate c.seal_turn.new.self.disk)) disk e.fate)))

pub returns-clause-log : goal.returns-clause-log
returns-clause-log g c =
    let s = c.args.self.now in
    let same = c.coming.ensures.same in
    let e = c.in_ok-seal_turn.ensures in
    let spelled : (turn_record (c.coming.new.self.numbers.turns + 1) c.args.effects.now (turn_pages c.deref.result.now)) ≡ coming_record s c.args.effects.now = sealed_item c.args.effects.now c.coming.new.self.numbers.turns c.args.self.now.numbers.turns c.deref.result.now c.in_ok-item.frames.items (changed_pages c.args.self.now.objects.begun c.args.self.now.objects.bytes) (ap (λ (m : Numbers). m.turns) c.coming.ensures.same.numbers) c.deref.ensures.value c.in_ok-item.ensures.pages in
    rw c.keep.ensures.log (log_ok (Unit {0}) g.D.Disk.told g.D.Disk.faults g.D.Disk.fate s.log.end (coming_record s c.args.effects.now) s.log.disk c.seal_turn.new.self.disk _ c.in_ok-seal_turn.field-0 c.in_ok-item.frames
    (log_of (Unit {0}) g.D.Disk.told g.D.Disk.faults g.D.Disk.fate s.log.end (coming_record s c.args.effects.now) s.log.disk c.seal_turn.new.self.disk (Ok c.in_ok-seal_turn.field-0) (turn_record (c.coming.new.self.numbers.turns + 1) c.args.effects.now (turn_pages c.deref.result.now)) spelled
    (rw same.log at e.story) (rw same.log at e.calls) (rw same.log at e.cause) (rw same.log at e.fate)))
