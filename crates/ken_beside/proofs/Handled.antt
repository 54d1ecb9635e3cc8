-- What a step of the handler pushes and hears.
use Rattle.std.proofs.Common.{◌≡◌, ℕ, ◌+◌, ◌-◌, ◌*◌, ◌≤◌, List, [], ◌∷◌, ◌++◌, length, Bool, true, false, Option, Some, Ok, refl, sym, ap, ◌∙◌, subst, arith, append-nil, append_assoc}
use Rattle.std.proofs.lemmas.List.{append_cancel_left, length-append, length_push}
use Rattle.std.specs.List.{AllByRecursion}
use Rattle.ken_disk.specs.Fates.{Fate}
use Rattle.ken_disk.specs.Story.{Story}
use Rattle.ken_disk.specs.declared.disk.Disk as disk
use Rattle.ken_app.specs.declared.oracle.Oracle as oracle
use Rattle.ken_cover.specs.Overlay.{AreWithin}
use Rattle.ken_model.specs.declared.messages.Message.{Message}
use Rattle.ken_model.specs.Handler.{Handler}
use Rattle.ken_net.specs.declared.net.Net as net
use Rattle.ken_net.specs.Puts.{Put}
use Rattle.ken_links.specs.Rings.{pushed, popped}
use Rattle.ken_record.specs.declared.page.Page.{Page}
use Rattle.ken_store.specs.declared.numbers.Numbers.{Numbers}
use Rattle.ken_store.specs.declared.owner.Owner.{Owner}
use Rattle.ken_store.specs.declared.turning.TurnSide.{TurnSide}
use Rattle.ken_store.specs.Turning.{sealed_bytes, turn_pages}
use Rattle.ken_store.proofs.SealMeanwhile.{changed_within}
use Rattle.ken_ship.specs.declared.items.Sealed.{Sealed}
use Rattle.ken_ship.specs.declared.items.Told.{Told}
use Rattle.ken_work.specs.declared.items.Frozen.{Frozen}
use Rattle.ken_work.specs.declared.items.Settled.{Settled}
use Rattle.ken_work.specs.declared.took.Took.{Took}
use Rattle.ken_work.specs.declared.took.Took.TheVariants.{Turn, Idle, Capped}
use Rattle.ken_work.specs.declared.worker.TurnWorker.{TurnWorker}
use Rattle.ken_work.specs.Calls.{RanTurn, TakesTurn, Drew}
use Rattle.ken_work.specs.Sealing.{RenewsBy, coming_pages, coming_turn, is_full}
use Rattle.ken_work.specs.Workers.{Working, settled_by, told_by}
use Rattle.ken_work.specs.News.{AreRipe}
use Rattle.ken_weave.specs.Workers.{Counts, Ends, Steps, none, then, Waits}
use Rattle.ken_beside.specs.Seats.{Handling}
use Rattle.ken_beside.specs.Steps.{HandlerStep, turns_once}
use Rattle.ken_beside.proofs.Numbered.{FollowOn, NumberedOn, follow-join, numbered-join, sealed_turn}

module _ {D : Type 0} where
  -- what a handler pushed: turns after its own, one after another
  pub record Pushes (old new : TurnWorker D) : Type 0 where
    pub pages : List Frozen
    pub pages_are : pushed new.pages ≡ pushed old.pages ++ pages
    pub count_pages : length new.turns.items ≡ length old.turns.items + length pages
    pub follow : FollowOn old.side.owner.pages (length old.turns.items) pages
    pub sealed : List Sealed
    pub sealed_are : pushed new.sealed ≡ pushed old.sealed ++ sealed
    pub count_sealed : length new.turns.items ≡ length old.turns.items + length sealed
    pub numbered : NumberedOn sealed_turn (length old.turns.items) sealed
    pub owner : new.side.owner ≡ old.side.owner

  pub pushes-none : (old new : TurnWorker D) → pushed new.pages ≡ pushed old.pages → pushed new.sealed ≡ pushed old.sealed → new.turns.items ≡ old.turns.items → new.side.owner ≡ old.side.owner → Pushes old new
  pushes-none old new pages sealed turns owner = record {
    pages = [];
    pages_are = pages ∙ sym (append-nil (pushed old.pages));
    count_pages = let same = ap length turns in omega (arith, same);
    follow = tt;
    sealed = [];
    sealed_are = sealed ∙ sym (append-nil (pushed old.sealed));
    count_sealed = let same = ap length turns in omega (arith, same);
    numbered = tt;
    owner = owner;
  }

  -- after what pushed nothing
  pub pushes-after : (old mid new : TurnWorker D) → pushed mid.pages ≡ pushed old.pages → pushed mid.sealed ≡ pushed old.sealed → mid.turns.items ≡ old.turns.items → mid.side.owner ≡ old.side.owner → Pushes mid new → Pushes old new
  pushes-after old mid new pages sealed turns owner is = record {
    pages = is.pages;
    pages_are = is.pages_are ∙ ap (λ (fs : List Frozen). fs ++ is.pages) pages;
    count_pages = is.count_pages ∙ ap (λ k. length k + length is.pages) turns;
    follow = subst (λ k. FollowOn old.side.owner.pages (length k) is.pages) turns (subst (λ (o : Owner). FollowOn o.pages (length mid.turns.items) is.pages) owner is.follow);
    sealed = is.sealed;
    sealed_are = is.sealed_are ∙ ap (λ (ss : List Sealed). ss ++ is.sealed) sealed;
    count_sealed = is.count_sealed ∙ ap (λ k. length k + length is.sealed) turns;
    numbered = subst (λ k. NumberedOn sealed_turn (length k) is.sealed) turns is.numbered;
    owner = is.owner ∙ owner;
  }

module _ {D : Type 0} where
  pub pushes-join : (a b c : TurnWorker D) → Pushes a b → Pushes b c → Pushes a c
  pushes-join a b c one two =
      let pages_now = one.count_pages in
      let pages_then = two.count_pages in
      let pages_all = length-append one.pages two.pages in
      let sealed_now = one.count_sealed in
      let sealed_then = two.count_sealed in
      let sealed_all = length-append one.sealed two.sealed in
      record {
        pages = one.pages ++ two.pages;
        pages_are = two.pages_are ∙ ap (λ (fs : List Frozen). fs ++ two.pages) one.pages_are ∙ append_assoc (pushed a.pages) one.pages two.pages;
        count_pages = omega (arith, pages_now, pages_then, pages_all);
        follow =
            follow-join a.side.owner.pages (length a.turns.items) one.pages two.pages one.follow
            (subst (λ (k : ℕ). FollowOn a.side.owner.pages k two.pages) one.count_pages (subst (λ (o : Owner). FollowOn o.pages (length b.turns.items) two.pages) one.owner two.follow));
        sealed = one.sealed ++ two.sealed;
        sealed_are = two.sealed_are ∙ ap (λ (ss : List Sealed). ss ++ two.sealed) one.sealed_are ∙ append_assoc (pushed a.sealed) one.sealed two.sealed;
        count_sealed = omega (arith, sealed_now, sealed_then, sealed_all);
        numbered = numbered-join sealed_turn (length a.turns.items) one.sealed two.sealed one.numbered (subst (λ (k : ℕ). NumberedOn sealed_turn k two.sealed) one.count_sealed two.numbered);
        owner = two.owner ∙ one.owner;
      }

begun-long : (n : ℕ) (old begun : List ℕ) (is : Option (List ℕ)) (bytes : List ℕ) → is ≡ Some old → ((b : List ℕ) → is ≡ Some b → length b ≡ 256 * n) → length (sealed_bytes bytes is) ≡ 256 * n
begun-long n old begun is bytes some before = ap (λ o. length (sealed_bytes bytes o)) some ∙ before old some

module _ {D : Type 0} (told : D → Option Story) (size count : D → ℕ) (fate : D → Option Fate) (h : Handler) (drew : List ℕ → Type 0) where
  ran-pushes : (m : Message) (old new : TurnWorker D) → Working told size h old → RanTurn told size count fate h drew m old new → Pushes old new
  ran-pushes m old new working ran =
      let begun = ran.begun in
      let made = ran.made in
      let numbers : begun.numbers ≡ old.side.numbers = made.same.numbers in
      let turn : coming_turn begun ≡ length old.turns.items + 1 = ap (λ (n : Numbers). n.turns + 1) numbers ∙ ap (λ (k : ℕ). k + 1) (sym working.count) in
      let pages : List Page = coming_pages begun in
      let long : length (turn_pages begun).heap ≡ 256 * old.side.owner.pages = begun-long old.side.owner.pages old.side.objects.bytes [] begun.objects.begun begun.objects.bytes made.begun made.pages.before in
      let within : AreWithin old.side.owner.pages pages = changed_within old.side.owner.pages (turn_pages begun).heap pages long ran.seals.changed.each in
      let f = ran.kept.frozen in
      let counted : length new.turns.items ≡ length old.turns.items + 1 = ap length ran.kept.turns ∙ length_push old.turns.items ran.effects in
      record {
        pages = f ∷ [];
        pages_are = ran.kept.pages;
        count_pages = counted;
        follow = (ap (λ (x : ℕ × List Page). x.0) ran.kept.frozen_is ∙ turn, subst (AreWithin old.side.owner.pages) (sym (ap (λ (x : ℕ × List Page). x.1) ran.kept.frozen_is)) within, tt);
        sealed = ran.kept.handed ∷ [];
        sealed_are = ran.kept.sealed;
        count_sealed = counted;
        numbered = (ran.kept.handed_is.turn_is ∙ turn, tt);
        owner = ran.seals.others.owner ∙ made.same.owner;
      }

  renewed-owner : (full : Bool) (w : TurnWorker D) (mid : TurnSide D) → RenewsBy told size count fate {T = Unit {0}} full (Ok tt) w mid → mid.owner ≡ w.side.owner
  renewed-owner true w mid is = is.turned.owner
  renewed-owner false w mid is = ap (λ (x : TurnSide D). x.owner) is.1

  module _ (gave : List (List ℕ) → Type 0) (put : List Put → Type 0) (nones nones2 : ℕ) where
    pub took-pushes : (took : Took) (old new : TurnWorker D) → TakesTurn told size count fate h drew (Ok took) old new gave put nones nones2 → Pushes old new
    took-pushes Turn old new is =
        let rest = is.came.rest in
        pushes-after old is.mid new (ap (λ (w : TurnWorker D). pushed w.pages) rest) (ap (λ (w : TurnWorker D). pushed w.sealed) rest) (ap (λ (w : TurnWorker D). w.turns.items) rest)
        (renewed-owner (is_full old.side) old is.mid.side is.came.renews)
        (ran-pushes is.message is.mid new is.came.working is.ran)
    took-pushes Idle old new is =
        let rest = is.came.rest in
        pushes-none old new (ap (λ (w : TurnWorker D). pushed w.pages) rest) (ap (λ (w : TurnWorker D). pushed w.sealed) rest) (ap (λ (w : TurnWorker D). w.turns.items) rest)
        (renewed-owner (is_full old.side) old new.side is.came.renews)
    took-pushes Capped old new is =
        let same = is.same in
        pushes-none old new (ap (λ (w : TurnWorker D). pushed w.pages) same) (ap (λ (w : TurnWorker D). pushed w.sealed) same) (ap (λ (w : TurnWorker D). w.turns.items) same) (ap (λ (w : TurnWorker D). w.side.owner) same)

    -- what left the rings of news stays so
    pub took-settled : (took : Took) (old new : TurnWorker D) → TakesTurn told size count fate h drew (Ok took) old new gave put nones nones2 → new.settled ≡ old.settled
    took-settled Turn old new is = ap (λ (w : TurnWorker D). w.settled) is.ran.kept.rest ∙ ap (λ (w : TurnWorker D). w.settled) is.came.rest
    took-settled Idle old new is = ap (λ (w : TurnWorker D). w.settled) is.came.rest
    took-settled Capped old new is = ap (λ (w : TurnWorker D). w.settled) is.same

    pub took-progress : (took : Took) (old new : TurnWorker D) → TakesTurn told size count fate h drew (Ok took) old new gave put nones nones2 → new.progress ≡ old.progress
    took-progress Turn old new is = ap (λ (w : TurnWorker D). w.progress) is.ran.kept.rest ∙ ap (λ (w : TurnWorker D). w.progress) is.came.rest
    took-progress Idle old new is = ap (λ (w : TurnWorker D). w.progress) is.came.rest
    took-progress Capped old new is = ap (λ (w : TurnWorker D). w.progress) is.same

-- ---- the rules of a handler

pub longer : {A : Type 0} (xs ys all : List A) → all ≡ xs ++ ys → length all ≡ length xs + length ys
longer xs ys all parts = ap length parts ∙ length-append xs ys

-- its ends of the rings to the patcher and to the externaliser, by which turns are counted as they are pushed
abbrev pub to-patcher : {D N O : Type 0} → Ends (Handling D N O) Frozen Settled
to-patcher = record { turns = λ t. length (pushed t.worker.pages); handed = λ t. pushed t.worker.pages; told = λ t. popped t.worker.settled }

abbrev pub to-sender : {D N O : Type 0} → Ends (Handling D N O) Sealed Told
to-sender = record { turns = λ t. length (pushed t.worker.sealed); handed = λ t. pushed t.worker.sealed; told = λ t. popped t.worker.progress }

module _ {D N O : Type 0} (d : disk.Ghosts D) (e : net.Ghosts N) (o : oracle.Ghosts O) (h : Handler) where
  -- what it pushed and heard, of a step
  pub record DidTurn (old new : Handling D N O) : Type 0 where
    pub pushes : Pushes old.worker new.worker
    pub settled : List Settled
    pub settled_are : popped new.worker.settled ≡ popped old.worker.settled ++ settled
    pub settled_ripe : AreRipe settled_by (length old.worker.turns.items) settled
    pub progress : List Told
    pub progress_are : popped new.worker.progress ≡ popped old.worker.progress ++ progress
    pub progress_ripe : AreRipe told_by (length old.worker.turns.items) progress

  pub did-turn : (old new : Handling D N O) → HandlerStep d e o h old new → DidTurn old new
  did-turn old new (turns_once took is) =
      let drew : List ℕ → Type 0 = Drew o.telling.clocks o.telling.words h old.oracle new.oracle in
      let gave : List (List ℕ) → Type 0 = e.given_between old.net new.net in
      let put : List Put → Type 0 = e.put_between old.net new.net in
      let rest = is.hears.rest in
      record {
        pushes =
            pushes-after old.worker is.mid new.worker (ap (λ (w : TurnWorker D). pushed w.pages) rest) (ap (λ (w : TurnWorker D). pushed w.sealed) rest) (ap (λ (w : TurnWorker D). w.turns.items) rest)
            (ap (λ (w : TurnWorker D). w.side.owner) rest)
            (took-pushes d.told d.size d.faults d.fate h drew gave put (e.nones old.net) (e.nones new.net) took is.mid new.worker is.takes);
        settled = is.hears.settled.items;
        settled_are = ap popped (took-settled d.told d.size d.faults d.fate h drew gave put (e.nones old.net) (e.nones new.net) took is.mid new.worker is.takes) ∙ is.hears.settled.popped_are;
        settled_ripe = is.hears.settled.ripe;
        progress = is.hears.progress.items;
        progress_are = ap popped (took-progress d.told d.size d.faults d.fate h drew gave put (e.nones old.net) (e.nones new.net) took is.mid new.worker is.takes) ∙ is.hears.progress.popped_are;
        progress_ripe = is.hears.progress.ripe;
      }

  -- a step from a state at which each turn after the start has been pushed to both
  pub record FitTurn (start_pages start_sealed made : ℕ) (old new : Handling D N O) : Type 0 where
    pub step : HandlerStep d e o h old new
    pub more : made ≤ length old.worker.turns.items
    pub pages : length (pushed old.worker.pages) + made ≡ start_pages + length old.worker.turns.items
    pub sealed : length (pushed old.worker.sealed) + made ≡ start_sealed + length old.worker.turns.items

  module _ (start_pages start_sealed made : ℕ) where
    pub turns-fit : (a c : Handling D N O) (cs : List (Handling D N O)) → Steps (HandlerStep d e o h) a cs c → made ≤ length a.worker.turns.items
        → length (pushed a.worker.pages) + made ≡ start_pages + length a.worker.turns.items → length (pushed a.worker.sealed) + made ≡ start_sealed + length a.worker.turns.items
        → Steps (FitTurn start_pages start_sealed made) a cs c
    turns-fit a c cs none more pages sealed = none
    turns-fit a c cs (then {b = b} {bs = bs} one rest) more pages sealed =
        let did = (did-turn a b one).pushes in
        let count_pages = did.count_pages in
        let count_sealed = did.count_sealed in
        let size_pages = longer (pushed a.worker.pages) did.pages (pushed b.worker.pages) did.pages_are in
        let size_sealed = longer (pushed a.worker.sealed) did.sealed (pushed b.worker.sealed) did.sealed_are in
        then (record { step = one; more = more; pages = pages; sealed = sealed })
        (turns-fit b c bs rest (omega (arith, more, count_pages)) (omega (arith, pages, count_pages, size_pages)) (omega (arith, sealed, count_sealed, size_sealed)))

    pub counts-pages : Counts (FitTurn start_pages start_sealed made) to-patcher
    counts-pages = record {
      turns = λ a b fit. let did = (did-turn a b fit.step).pushes in (did.pages, (did.pages_are, longer (pushed a.worker.pages) did.pages (pushed b.worker.pages) did.pages_are));
      news = λ a b fit. let did = did-turn a b fit.step in (did.settled, did.settled_are);
    }

    pub counts-sealed : Counts (FitTurn start_pages start_sealed made) to-sender
    counts-sealed = record {
      turns = λ a b fit. let did = (did-turn a b fit.step).pushes in (did.sealed, (did.sealed_are, longer (pushed a.worker.sealed) did.sealed (pushed b.worker.sealed) did.sealed_are));
      news = λ a b fit. let did = did-turn a b fit.step in (did.progress, did.progress_are);
    }

    -- news that stand with no more turns than were made stand with no more items than were pushed
    ripe : {A : Type 0} (by : A → ℕ) (start turns count : ℕ) (items : List A) → made ≤ turns → count + made ≡ start + turns → AreRipe by turns items → AllByRecursion (λ (x : A). (by x - made) + start ≤ count) items
    ripe by start turns count [] more same all = tt
    ripe by start turns count (x ∷ items) more same all = let low = all.0 in (omega (arith, more, same, low), ripe by start turns count items more same all.1)

    pub waits-settled : Waits (FitTurn start_pages start_sealed made) to-patcher (λ (x : Settled). (x.by - made) + start_pages)
    waits-settled a b fit news is =
        let did = did-turn a b fit.step in
        subst (AllByRecursion (λ (x : Settled). (x.by - made) + start_pages ≤ length (pushed a.worker.pages))) (append_cancel_left (popped a.worker.settled) did.settled news (sym did.settled_are ∙ is))
        (ripe settled_by start_pages (length a.worker.turns.items) (length (pushed a.worker.pages)) did.settled fit.more fit.pages did.settled_ripe)

    pub waits-progress : Waits (FitTurn start_pages start_sealed made) to-sender (λ (x : Told). (x.by - made) + start_sealed)
    waits-progress a b fit news is =
        let did = did-turn a b fit.step in
        subst (AllByRecursion (λ (x : Told). (x.by - made) + start_sealed ≤ length (pushed a.worker.sealed))) (append_cancel_left (popped a.worker.progress) did.progress news (sym did.progress_are ∙ is))
        (ripe told_by start_sealed (length a.worker.turns.items) (length (pushed a.worker.sealed)) did.progress fit.more fit.sealed did.progress_ripe)

  -- ---- all that it pushes in its steps are turns one after another

  pub all-pushes : (a c : Handling D N O) (cs : List (Handling D N O)) → Steps (HandlerStep d e o h) a cs c → Pushes a.worker c.worker
  all-pushes a c cs none = pushes-none a.worker a.worker refl refl refl refl
  all-pushes a c cs (then {b = b} {bs = bs} one rest) = pushes-join a.worker b.worker c.worker (did-turn a b one).pushes (all-pushes b c bs rest)
