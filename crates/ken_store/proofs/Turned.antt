-- What a turnover makes of the handler's side.
use Rattle.std.proofs.Common.{◌≡◌, ℕ, suc, ◌+◌, ◌<◌, ◌≤◌, ◌^◌, map, List, [], ◌∷◌, ◌++◌, length, drop, slice_index_or, Option, Some, None, Result, Ok, Err, option_map, Bool, true, refl, sym, ap, ◌∙◌, subst, arith, inl, inr, ◌⊎◌, ⊎_elim, append-nil, length-append}
use Rattle.std.specs.Prelude.{IfOk, if◌then◌else◌}
use Rattle.std.specs.List.{AllByRecursion, filter, flat_map, range_with_len, zip}
use Rattle.ken_disk.specs.declared.faults.DiskFault.TheVariants as disk
use Rattle.ken_disk.specs.Bytes.{overwrite}
use Rattle.ken_disk.specs.Fates.{Fate}
use Rattle.ken_disk.specs.Story.{Story, Tells, Follows, Leaves, IsAtRest}
use Rattle.ken_disk.specs.Writes.{Made, after_writes}
use Rattle.ken_disk.proofs.Fates.{fate_kept}
use Rattle.ken_disk.proofs.Images.{image-seen_at_rest}
use Rattle.ken_disk.proofs.Told.{some_is, tells_after}
use Rattle.ken_model.specs.declared.messages.Message.{Message}
use Rattle.ken_model.specs.declared.messages.Out.{Out}
use Rattle.ken_model.specs.declared.states.State.{State}
use Rattle.ken_alloc.specs.Objects.{FramedHeap}
use Rattle.ken_record.specs.declared.base.Base.{Base}
use Rattle.ken_record.specs.declared.header.Header.{Header}
use Rattle.ken_record.specs.declared.page.Page.{Page}
use Rattle.ken_record.specs.declared.record.Record.{Record}
use Rattle.ken_record.specs.Grammar.{IsDue, IsOut, IsRecord, IsBase}
use Rattle.ken_record.specs.Spelling.{base_bytes}
use Rattle.ken_record.specs.Versions.{One}
use Rattle.ken_log.specs.declared.faults.SealFault.{SealFault}
use Rattle.ken_log.specs.declared.faults.SealFault.TheVariants as seals
use Rattle.ken_log.specs.Calls.{closing, first_writes, log_writes, MadeAfterRead}
use Rattle.ken_log.specs.Formats.{Replaces, next_header}
use Rattle.ken_log.specs.Layout.{IsHead, head_bytes}
use Rattle.ken_log.specs.Mounts.{mount_of}
use Rattle.ken_log.specs.Mounts as mounts
use Rattle.ken_log.specs.Opening.{IsClosedBehind}
use Rattle.ken_log.specs.Seals.{MountsAs}
use Rattle.ken_log.specs.Settled.{IsSettled}
use Rattle.ken_log.specs.declared.log.Log.{Log}
use Rattle.ken_log.proofs.Formatted.{closed_first, begun_none, begun_replaces}
use Rattle.ken_log.proofs.Turned.{next_is}
use Rattle.ken_log.proofs.LogMounts.{closed_mounts}
use Rattle.ken_cover.specs.declared.layers.Change.{Change}
use Rattle.ken_cover.specs.declared.layers.Layer.{Layer}
use Rattle.ken_cover.specs.Overlay.{AreWithin}
use Rattle.ken_cover.specs.Sides.{TurnPages, pages_of, changes_of, last_change, base_change, turned_pages}
use Rattle.ken_cover.proofs.Bases.{pages_of-first, AreOwn-base, AreWithin-own}
use Rattle.ken_store.specs.declared.disks.Which.TheVariants.{First}
use Rattle.ken_store.specs.declared.faults.StoreFault.TheVariants as faults
use Rattle.ken_store.specs.declared.heads.Front.TheVariants.{Absent, Begins}
use Rattle.ken_store.specs.declared.numbers.Numbers.{Numbers}
use Rattle.ken_store.specs.declared.owner.Owner.{Owner}
use Rattle.ken_store.specs.declared.turning.TurnSide.{TurnSide}
use Rattle.ken_store.specs.Bases.{base_numbers, base_stands}
use Rattle.ken_store.specs.Kept.{base_messages, base_outs, base_pages, record_outs, HasPagesWithin, messages_in, outs_in, pages_in}
use Rattle.ken_store.specs.Logs.{front_of}
use Rattle.ken_store.specs.Reads.{of_seal}
use Rattle.ken_store.specs.Recovered.{numbers_from, numbers_of, state_of, with_numbers}
use Rattle.ken_store.specs.Turning.{Turning, IsPassed, PassesOver, changed_in, record_layer, live_layers, sealed_bytes, turn_pages, state_in, log_answer}
use Rattle.ken_store.specs.Turnovers.{record_dues, dues_in, outs_above, is_waiting, page_in, turn_in, changes_kept, base_of, without_told, IsUnturned, ReplacesOn}
use Rattle.ken_store.proofs.Lasts.{changes_in}
use Rattle.ken_store.proofs.Mounted.{front_none, front_whole}
use Rattle.ken_store.proofs.NextBase.{next_fits, next_stands, messages_waiting}
use Rattle.ken_store.proofs.Recovering.{PagesFit, checked_pages}
use Rattle.ken_store.proofs.BaseStands.{Standing, log_stands}

pub if_ok : {T E : Type 0} (P Q : T → Type 0) → ((x : T) → P x → Q x) → (r : Result T E) → IfOk r P → IfOk r Q
if_ok P Q to (Ok x) is = to x is
if_ok P Q to (Err e) is = tt

-- ---- the pages of a log

pub log_within : (o : Owner) (n : Numbers) (head : Header) (base : Option Base) (rs : List Record) → IsHead head base → AllByRecursion (IsRecord One) rs → numbers_of o head base rs ≡ Ok n → PagesFit o base rs
log_within o n head base rs is items counted = checked_pages o First None None head base rs (state_of o.node n base rs) is items (ap (with_numbers o First base rs) counted)

pub below : (n : ℕ) (es : List Page) → AreWithin n es → AllByRecursion (λ (e : Page). e.page < n) es
below n [] within = tt
below n (e ∷ es) within = (within.0.0, below n es within.1)

pub each_below : (n : ℕ) (rs : List Record) → AllByRecursion (HasPagesWithin n) rs → AllByRecursion (λ (r : Record). AllByRecursion (λ (e : Page). e.page < n) r.pages) rs
each_below n [] within = tt
each_below n (r ∷ rs) within = (below n r.pages within.0, each_below n rs within.1)

record_changes : (rs : List Record) → changes_of (map record_layer rs) ≡ flat_map changes_in rs
record_changes [] = refl
record_changes (r ∷ rs) = ap (λ (l : List Change). changes_in r ++ l) (record_changes rs)

pub live_changes : (head : Header) (base : Option Base) (turns : List ℕ) (rs : List Record) → length turns ≡ length (base_pages base) → changes_of (live_layers head base turns rs) ≡ map changed_in (zip turns (base_pages base)) ++ flat_map changes_in rs
live_changes head (Some b) turns rs same = ap (λ (l : List Change). map changed_in (zip turns b.pages) ++ l) (record_changes rs)
live_changes head None [] rs same = record_changes rs
live_changes head None (t ∷ ts) rs same = absurd (omega (arith, same))

pub heap_is : {D : Type 0} (side : TurnSide D) → side.objects.begun ≡ None → (turn_pages side).heap ≡ side.objects.bytes
heap_is side idle = ap (sealed_bytes side.objects.bytes) idle

pub kept_is : {D B : Type 0} (g : Change → B) (side : TurnSide D) (settled : ℕ) (last : List (Option ℕ)) (items : List B) → length last ≡ side.owner.pages → side.objects.begun ≡ None
    → ((p : ℕ) → slice_index_or last p None ≡ option_map turn_in (last_change p (turn_pages side).live))
    → ((f : ℕ → Option Change) → ((p : ℕ) → slice_index_or last p None ≡ option_map turn_in (f p)) → items ≡ map g (flat_map (λ p. base_change settled side.objects.bytes p (f p)) (range_with_len 0 (length last))))
    → items ≡ map g (changes_kept side settled)
kept_is g side settled last items long idle tells is =
    is (λ p. last_change p (turn_pages side).live) tells
    ∙ ap (λ (n : ℕ). map g (flat_map (λ (p : ℕ). base_change settled side.objects.bytes p (last_change p (turn_pages side).live)) (range_with_len 0 n))) long
    ∙ ap (λ (h : List ℕ). map g (flat_map (λ (p : ℕ). base_change settled h p (last_change p (turn_pages side).live)) (range_with_len 0 side.owner.pages))) (sym (heap_is side idle))

-- ---- the base

all_front : {A : Type 0} (P : A → Type 0) (xs ys : List A) → AllByRecursion P (xs ++ ys) → AllByRecursion P xs
all_front P [] ys all = tt
all_front P (x ∷ xs) ys all = (all.0, all_front P xs ys all.1)

module _ {D : Type 0} (told : D → Option Story) (size : D → ℕ) (side : TurnSide D) (is : Turning told size side) where
  pub side_stands : Standing side.owner side.numbers (dues_in side.log.base side.records.items) (outs_in side.log.base side.records.items) × (side.numbers.turns ≡ side.log.header.turns + length side.records.items)
  side_stands = log_stands side.owner eight side.numbers side.log.header side.log.base side.records.items is.log.header is.items is.numbers
    where
      eight : side.owner.nodes ≤ 8
      eight = is.owner.nodes

  -- the texts of its base are short, as those of its records are
  pub base_dues : AllByRecursion IsDue (base_messages side.log.base)
  base_dues = all_front IsDue (base_messages side.log.base) (flat_map record_dues side.records.items) side_stands.0.sends.dues

  pub base_outputs : AllByRecursion IsOut (base_outs side.log.base)
  base_outputs = all_front IsOut (base_outs side.log.base) (flat_map record_outs side.records.items) side_stands.0.outs.each

  pub base_fits : (settled : ℕ) (acked : List ℕ) (emitted : ℕ) → side.objects.begun ≡ None → length (base_bytes One (base_of side settled acked emitted)) < 2 ^ 32 → IsBase One (base_of side settled acked emitted)
  base_fits settled acked emitted idle short =
      next_fits side.owner is.owner.nodes is.owner.most side.numbers (dues_in side.log.base side.records.items) (outs_in side.log.base side.records.items) side_stands.0 acked emitted (turn_pages side) settled (ap length (heap_is side idle) ∙ is.heap.bytes) (base_of side settled acked emitted) refl short

-- ---- the pages of the new log

zip_back : (cs : List Change) → map changed_in (zip (map turn_in cs) (map page_in cs)) ≡ cs
zip_back [] = refl
zip_back (c ∷ cs) = ap (λ (l : List Change). c ∷ l) (zip_back cs)

same_long : (cs : List Change) → length (map turn_in cs) ≡ length (map page_in cs)
same_long [] = refl
same_long (c ∷ cs) = ap (λ (n : ℕ). suc n) (same_long cs)

layers_are : (a b : Layer) → a ≡ b → ◌≡◌ {A = List Layer} ((a ∷ []) ++ []) (b ∷ [])
layers_are a b same = ap (λ (l : Layer). l ∷ []) same

states_are : (n : Numbers) (m m2 : List Message) (o o2 : List Out) → m ≡ m2 → o ≡ o2 → ◌≡◌ {A = State} (record { turns = n.turns; stamp = n.stamp; consumed = n.consumed; sent = n.sent; outputs = n.outputs; messages = m; outs = o }) (record { turns = n.turns; stamp = n.stamp; consumed = n.consumed; sent = n.sent; outputs = n.outputs; messages = m2; outs = o2 })
states_are n m m2 o o2 one two = cc (one, two)

pages_are : (g h : List ℕ) (l m : List Layer) → g ≡ h → l ≡ m → ◌≡◌ {A = TurnPages} (record { heap = g; live = l }) (record { heap = h; live = m })
pages_are g h l m heap live = cc (heap, live)

module _ {D : Type 0} (told : D → Option Story) (size : D → ℕ) (old new : TurnSide D) (is : Turning told size old) (idle : old.objects.begun ≡ None) (settled : ℕ) (acked : List ℕ) (emitted : ℕ) where
  abbrev next_base : Base
  next_base = base_of old settled acked emitted

  abbrev next : Header
  next = next_header old.log next_base

  next_turns : next.turns ≡ old.numbers.turns
  next_turns = omega (arith, (side_stands told size old is).1, is.count)

  pages_in_heap : AreWithin old.owner.pages (map page_in (changes_kept old settled))
  pages_in_heap = AreWithin-own old.owner.pages (turn_pages old).heap (ap length (heap_is old idle) ∙ is.heap.bytes) (map page_in (changes_kept old settled)) (AreOwn-base old.owner.pages settled (turn_pages old))

  pub next_numbers : numbers_of old.owner next (Some next_base) [] ≡ Ok old.numbers
  next_numbers =
      let stands : base_stands old.owner next next_base ≡ true = next_stands old.owner is.owner.nodes old.numbers (dues_in old.log.base old.records.items) (outs_in old.log.base old.records.items) (side_stands told size old is).0 acked emitted next (map page_in (changes_kept old settled)) next_turns pages_in_heap in
      ap (λ (b : Bool). numbers_from old.owner (32 + next.base_len) (if b then Some (base_numbers next next_base) else None) []) stands
      ∙ ap (λ (t : ℕ). let r : Result Numbers ℕ = Ok (record old.numbers { turns = t }) in r) next_turns

  module _ (objects : new.objects ≡ old.objects) (head : new.log.header ≡ next) (base : new.log.base ≡ Some next_base) (records : new.records.items ≡ []) (turns : new.base_turns.items ≡ map turn_in (changes_kept old settled)) where
    pub live_turned : turn_pages new ≡ turned_pages old.owner.pages settled old.numbers.turns (turn_pages old)
    live_turned =
        pages_are _ _ _ _
        (ap (λ (h : FramedHeap). sealed_bytes h.bytes h.begun) objects)
        (rw (head, base, records, turns) (layers_are (record { turn = next.turns; changes = map changed_in (zip (map turn_in (changes_kept old settled)) (map page_in (changes_kept old settled))) }) (record { turn = old.numbers.turns; changes = changes_kept old settled }) (cc (next_turns, zip_back (changes_kept old settled)))))

    pub state_turned : new.owner ≡ old.owner → new.numbers ≡ old.numbers → state_in new ≡ without_told acked emitted (state_in old)
    state_turned owner numbers =
        let messages : messages_in old.owner.node (Some next_base) [] ≡ filter (is_waiting acked) (messages_in old.owner.node old.log.base old.records.items) = messages_waiting old.owner.node acked old.log.base old.records.items next_base refl in
        let outs : outs_in (Some next_base) [] ≡ outs_above emitted (outs_in old.log.base old.records.items) = append-nil (outs_above emitted (outs_in old.log.base old.records.items)) in
        rw (owner, numbers, base, records) (states_are old.numbers _ _ _ _ messages outs)

  -- the disk of the log that was is passed over
  passes : Tells (told old.other) (λ s. Tells (told old.log.disk) (λ h. PassesOver old.owner next (front_of h.now.seen)))
  passes s ts h at =
      let front : front_of h.now.seen ≡ Begins old.log.header = front_whole h.now.seen old.log.header old.log.base old.records.items (is.mounts h at) in
      let owned = (is.other h at s ts).owned in
      record { owned = owned; passed = subst (IsPassed old.owner next) (sym front) (omega arith, owned) }

  pub turned_turning : new.owner ≡ old.owner → new.numbers ≡ old.numbers → new.objects ≡ old.objects → new.other ≡ old.log.disk → new.log.header ≡ next → new.log.base ≡ Some next_base → new.log.records ≡ 0 → new.records.items ≡ [] → new.base_turns.items ≡ map turn_in (changes_kept old settled)
      → IsSettled told size new.log → Tells (told new.log.disk) (λ h. mount_of h.now.seen ≡ mounts.Whole next (Some next_base) []) → Tells (told new.log.disk) (λ h. (s : Story) × (told old.other ≡ Some s)) → Turning told size new
  turned_turning owner numbers objects other head base count records turns takes mounted before = record {
    owner = rw owner is.owner;
    log = takes;
    mounts = rw (head, base, records) mounted;
    count = rw (count, records) refl;
    items = rw records tt;
    numbers = rw (owner, head, base, records, numbers) next_numbers;
    heap = rw (owner, objects) is.heap;
    turns = rw (turns, base) (same_long (changes_kept old settled));
    rests = rw other is.log.rests;
    other = λ s ts h th. rw (owner, head) (passes (before s ts).0 (before s ts).1 h (ap told (sym other) ∙ th));
  }

  -- where nothing was turned over
  pub unturned_turning : IsUnturned old new → new.log ≡ old.log → Tells (told new.other) (λ s. IsAtRest s.now) → Tells (told old.log.disk) (λ h. Tells (told new.other) (λ s. PassesOver old.owner old.log.header (front_of s.now.seen))) → Turning told size new
  unturned_turning un log rests other = record {
    owner = rw un.owner is.owner;
    log = rw log is.log;
    mounts = rw (log, un.records) is.mounts;
    count = rw (log, un.records) is.count;
    items = rw un.records is.items;
    numbers = rw (un.owner, log, un.records, un.numbers) is.numbers;
    heap = rw (un.owner, un.objects) is.heap;
    turns = rw (un.base_turns, log) is.turns;
    rests = rests;
    other = rw (un.owner, log) other;
  }

-- ---- the other disk

-- after Ok it mounts as the new log
pub mounts_turned : (T : Type 0) (x : T) (head : Header) (base : Base) (a b : Option Story) → Follows (λ (h s : Story). IsAtRest h.now → Replaces {T = T} (mounts.Whole head (Some base) []) (Ok x) h s) a b
    → Tells a (λ h. IsAtRest h.now) → Tells b (λ h. IsAtRest h.now) → Tells b (λ h. mount_of h.now.seen ≡ mounts.Whole head (Some base) [])
mounts_turned T x head base None b follow old new h at = absurd (let none : ⊥ = cc (follow, at) in none)
mounts_turned T x head base (Some s) b follow old new h at =
    let same : follow.0 ≡ h = some_is follow.0 h (sym follow.1 ∙ at) in
    let replaces : Replaces {T = T} (mounts.Whole head (Some base) []) (Ok x) s follow.0 = follow.2 (old s refl) in
    let leaves : Leaves (MountsAs (mounts.Whole head (Some base) [])) h.now = subst (λ (q : Story). Leaves (MountsAs (mounts.Whole head (Some base) [])) q.now) same replaces.ok in
    leaves h.now.seen (image-seen_at_rest h.now (new h at))

-- after Memory it is as it was, or has no log
shut_front : (bytes : List ℕ) → IsClosedBehind [] bytes → front_of bytes ≡ Absent
shut_front bytes is = front_none bytes (subst (λ (b : List ℕ). mount_of b ≡ mounts.Unformatted) (sym is.parts) (closed_mounts is.gate is.free is.closed))

shut_after : (bytes body : List ℕ) → IsClosedBehind [] bytes → IsClosedBehind [] (overwrite 1 body bytes)
shut_after bytes body is = record { gate = is.gate; free = body ++ drop (1 + length body) (is.gate ∷ is.free); parts = ap (overwrite 1 body) is.parts; closed = is.closed }

memory_front : (T : Type 0) (body : List ℕ) (h s : Story) → Made {T = T} (Err disk.Memory) (first_writes body h.now.seen) h s → (s ≡ h) ⊎ (front_of s.now.seen ≡ Absent)
memory_front T body h s made = by_done made.0.done made.0.next made.0.left made.0.parts made.1
  where
    by_done : (done : List (ℕ × List ℕ)) (next : ℕ × List ℕ) (left : List (ℕ × List ℕ)) → first_writes body h.now.seen ≡ done ++ next ∷ left → s ≡ after_writes done h → (s ≡ h) ⊎ (front_of s.now.seen ≡ Absent)
    by_done [] next left parts is = inl is
    by_done (a ∷ []) next left parts is =
        let first : (0, closing h.now.seen) ≡ a = cc parts in
        let seen : s.now.seen ≡ overwrite 0 (closing h.now.seen) h.now.seen = ap (λ (q : Story). q.now.seen) is ∙ ap (λ (w : ℕ × List ℕ). overwrite w.0 w.1 h.now.seen) (sym first) in
        inr (ap front_of seen ∙ shut_front (overwrite 0 (closing h.now.seen) h.now.seen) (closed_first h.now.seen))
    by_done (a ∷ (b ∷ [])) next left parts is =
        let first : (0, closing h.now.seen) ≡ a = cc parts in
        let second : (1, body) ≡ b = cc parts in
        let shut : List ℕ = overwrite 0 (closing h.now.seen) h.now.seen in
        let seen : s.now.seen ≡ overwrite 1 body shut = ap (λ (q : Story). q.now.seen) is ∙ ap (λ (w : ℕ × List ℕ). overwrite b.0 b.1 (overwrite w.0 w.1 h.now.seen)) (sym first) ∙ ap (λ (w : ℕ × List ℕ). overwrite w.0 w.1 shut) (sym second) in
        inr (ap front_of seen ∙ shut_front (overwrite 1 body shut) (shut_after shut body (closed_first h.now.seen)))
    by_done (a ∷ (b ∷ (c ∷ more))) next left parts is = absurd (let long = ap length parts in let more_long = length-append more (next ∷ left) in let no : ⊥ = omega (arith, long, more_long) in no)

pub other_passed : (T : Type 0) (o : Owner) (head after : Header) (base : Base) (a b : Option Story) → Follows (λ (h s : Story). MadeAfterRead {T = T} (Err disk.Memory) (log_writes after (Some base) h.now.seen) h s) a b → Tells a (λ s. PassesOver o head (front_of s.now.seen)) → Tells b (λ s. PassesOver o head (front_of s.now.seen))
other_passed T o head after base None b made old h at = absurd (let none : ⊥ = cc (made, at) in none)
other_passed T o head after base (Some s) b made old h at =
    let same : made.0 ≡ h = some_is made.0 h (sym made.1 ∙ at) in
    let fronts : (h ≡ s) ⊎ (front_of h.now.seen ≡ Absent) = subst (λ (q : Story). (q ≡ s) ⊎ (front_of q.now.seen ≡ Absent)) same (memory_front T (head_bytes after (Some base) ++ 0 ∷ []) s made.0 made.2) in
    record { owned = (old s refl).owned; passed = ⊎_elim (λ (e : h ≡ s). subst (λ (q : Story). IsPassed o head (front_of q.now.seen)) (sym e) (old s refl).passed) (λ (none : front_of h.now.seen ≡ Absent). subst (IsPassed o head) (sym none) tt) fronts }

-- nothing came to be pending
pub other_rests : (a b : Option Story) → Follows (λ (h s : Story). IsAtRest h.now → IsAtRest s.now) a b → Tells a (λ s. IsAtRest s.now) → Tells b (λ s. IsAtRest s.now)
other_rests a b follow old = tells_after (λ (h s : Story). IsAtRest h.now → IsAtRest s.now) (λ s. IsAtRest s.now) a b follow (λ x y is r. r (old x is))

-- the answer of the store for that of the log
pub replaced_as : {D : Type 0} (T : Type 0) (told : D → Option Story) (count : D → ℕ) (ahead : D → Option Fate) (f : SealFault) (head : Header) (base : Base) (old new : D) → ReplacesOn {T = T} told count ahead (Err f) head base old new → ReplacesOn {T = T} told count ahead (log_answer {T = T} (Err (of_seal f))) head base old new
replaced_as T told count ahead seals.Disk head base old new is = is
replaced_as T told count ahead seals.Memory head base old new is = is

-- the other disk is at rest
pub at_rest_first : (R : Story → Story → Type 0) (a b : Option Story) → Tells a (λ h. IsAtRest h.now) → Follows (λ (h s : Story). IsAtRest h.now → R h s) a b → Follows R a b
at_rest_first R None b rests follow = follow
at_rest_first R (Some h) b rests follow = (follow.0, follow.1, follow.2 (rests h refl))

-- where memory ran out before the log's call, the other disk is as it was
pub unreplaced : {D : Type 0} (T : Type 0) (told : D → Option Story) (size : D → ℕ) (count : D → ℕ) (ahead : D → Option Fate) (log : Log D) (base : Base) (other : D) → IsSettled told size log → IsBase One base → length (base_bytes One base) < 2 ^ 32 → log.header.generation + 1 < 2 ^ 32 → log.header.turns + log.records < 2 ^ 64 → Tells (told other) (λ h. IsAtRest h.now)
    → ReplacesOn {T = T} told count ahead (Err seals.Memory) (next_header log base) base other other
unreplaced T told size count ahead log base other settled fits short generation turns rests =
    let next = next_header log base in
    let body : List ℕ = head_bytes next (Some base) ++ 0 ∷ [] in
    let is = next_is log base settled.header fits short generation turns in
    record {
      story = at_rest_first (λ (h s : Story). Replaces {T = T} (mounts.Whole next (Some base) []) (Err seals.Memory) h s) (told other) (told other) rests (begun_replaces next (Some base) body is refl {T = T} (Err disk.Memory) (told other) (told other) (begun_none next (Some base) body is refl T (told other) (told other) refl));
      calls = begun_none next (Some base) body is refl T (told other) (told other) refl;
      cause = refl;
      fate = fate_kept T (ahead other) (ahead other) refl;
    }

pub memory_of : (f : SealFault) → of_seal f ≡ faults.Memory → f ≡ seals.Memory
memory_of seals.Memory is = refl
memory_of seals.Disk is = absurd (let none : ⊥ = cc is in none)

-- the pages and the state of the new log, by the side before
pub turned_live_pages : {D : Type 0} (old : TurnSide D) (settled : ℕ) (acked : List ℕ) (emitted : ℕ) → pages_of (turned_pages old.owner.pages settled old.numbers.turns (turn_pages old)).live ≡ pages_in (Some (base_of old settled acked emitted)) []
turned_live_pages old settled acked emitted = pages_of-first (record { turn = old.numbers.turns; changes = changes_kept old settled }) []

pub turned_state : {D : Type 0} (old : TurnSide D) (settled : ℕ) (acked : List ℕ) (emitted : ℕ) → state_of old.owner.node old.numbers (Some (base_of old settled acked emitted)) [] ≡ without_told acked emitted (state_in old)
turned_state old settled acked emitted =
    let messages : messages_in old.owner.node (Some (base_of old settled acked emitted)) [] ≡ filter (is_waiting acked) (messages_in old.owner.node old.log.base old.records.items) = messages_waiting old.owner.node acked old.log.base old.records.items (base_of old settled acked emitted) refl in
    let outs : outs_in (Some (base_of old settled acked emitted)) [] ≡ outs_above emitted (outs_in old.log.base old.records.items) = append-nil (outs_above emitted (outs_in old.log.base old.records.items)) in
    states_are old.numbers _ _ _ _ messages outs
