-- What the seal of a turn that was made comes to, by its answer.
use Rattle.std.proofs.Common.{◌≡◌, ℕ, ◌+◌, max, List, [], ◌∷◌, ◌++◌, Option, Some, None, Ok, Err, IsErrOf, true, slice_set, refl, sym, ap, subst, ◌∙◌}
use Rattle.ken_disk.specs.Fates.{Fate}
use Rattle.ken_disk.specs.Story.{Story, Follows}
use Rattle.ken_links.specs.declared.push_end.PushEnd.{PushEnd}
use Rattle.ken_links.specs.Rings.{free, pushed}
use Rattle.ken_log.specs.declared.faults.SealFault.TheVariants as seals
use Rattle.ken_log.specs.Mounts.{mount_of, with_record}
use Rattle.ken_log.specs.Seals.{Changes}
use Rattle.ken_model.specs.declared.messages.Message.{Message}
use Rattle.ken_model.specs.Handler.{Handler}
use Rattle.ken_order.specs.Consumed.{place}
use Rattle.ken_record.specs.declared.effects.Effects.{Effects}
use Rattle.ken_record.specs.declared.page.Page.{Page}
use Rattle.ken_record.specs.declared.record.Record.{Record}
use Rattle.ken_ship.specs.declared.items.Sealed.{Sealed}
use Rattle.ken_store.proofs.Sealing.{seals_as}
use Rattle.ken_store.specs.declared.faults.StoreFault.{StoreFault}
use Rattle.ken_store.specs.declared.faults.StoreFault.TheVariants as store
use Rattle.ken_store.specs.declared.turning.TurnSide.{TurnSide}
use Rattle.ken_store.specs.Turning.{AreChangedPages, IsSameNode, IsSealed, IsStillBegun, IsUndone, MaySeal, SealsOn, Turning, coming_record, log_answer, turn_pages}
use Rattle.ken_work.specs.declared.items.Frozen.{Frozen}
use Rattle.ken_work.specs.declared.worker.TurnWorker.{TurnWorker}
use Rattle.ken_work.specs.Calls.{IsKept, IsQuiet, IsSameState, Seals}
use Rattle.ken_work.specs.Making.{IsHanded, IsMade, IsMessage, frozen_pages_of}
use Rattle.ken_work.specs.Sealing.{SealsTurn, coming_pages, coming_turn}
use Rattle.ken_work.specs.Workers.{Working}
use Rattle.ken_work.proofs.Begun.{state_undone, turning_on, working_undone}
use Rattle.ken_work.proofs.Kept.{order_kept, working_kept}

-- what a store tells of a seal that failed, and of one that didn't
pub record Fails {D : Type 0} (T : Type 0) (told : D → Option Story) (size count : D → ℕ) (fate : D → Option Fate) (f : StoreFault) (e : Effects) (old new : TurnSide D) : Type 0 where
  pub undone : IsErrOf {T = T} (Err f) store.Memory → IsUndone old new
  pub in_doubt : IsErrOf {T = T} (Err f) store.Disk → IsStillBegun old new
  pub goes_on : IsErrOf {T = T} (Err f) store.Memory → Turning told size new
  pub spent : IsErrOf {T = T} (Err f) store.Disk → new.log.spent ≡ true
  pub log : SealsOn {T = T} told count fate (log_answer {T = T} (Err f)) old.log.end (coming_record old e) old.log.disk new.log.disk
  pub others : IsSameNode old new
  pub sound : (disk place : ℕ) → IsErrOf {T = T} (Err f) (store.Damaged disk place) → ⊥

pub record Succeeds {D T : Type 0} (told : D → Option Story) (count : D → ℕ) (fate : D → Option Fate) (answer : T) (e : Effects) (turn : ℕ) (pages : List Page) (old new : TurnSide D) : Type 0 where
  pub sealed : IsSealed e old turn pages new
  pub changed : AreChangedPages (turn_pages old).heap pages
  pub log : SealsOn {T = T} told count fate (Ok answer) old.log.end (coming_record old e) old.log.disk new.log.disk
  pub others : IsSameNode old new

-- the same of an equal side
pub fails_at : {D T : Type 0} (told : D → Option Story) (size count : D → ℕ) (fate : D → Option Fate) (f : StoreFault) (e : Effects) (mid old new : TurnSide D) → mid ≡ old → Fails T told size count fate f e mid new → Fails T told size count fate f e old new
fails_at {D} {T} told size count fate f e mid old new is fails = subst (λ (x : TurnSide D). Fails T told size count fate f e x new) is fails

pub succeeds_at : {D T : Type 0} (told : D → Option Story) (count : D → ℕ) (fate : D → Option Fate) (x : T) (e : Effects) (turn : ℕ) (pages : List Page) (mid old sealed new : TurnSide D) → mid ≡ old → new ≡ sealed → Succeeds told count fate x e turn pages mid sealed → Succeeds told count fate x e turn pages old new
succeeds_at {D} told count fate x e turn pages mid old sealed new is now succeeds = subst (λ (y : TurnSide D). Succeeds told count fate x e turn pages y new) is (subst (λ (y : TurnSide D). Succeeds told count fate x e turn pages mid y) (sym now) succeeds)

pub pushed_at : {T : Type 0} (mid old new : PushEnd T) (x : T) → mid ≡ old → pushed new ≡ pushed mid ++ x ∷ [] → pushed new ≡ pushed old ++ x ∷ []
pushed_at {T} mid old new x is now = now ∙ ap (λ (p : PushEnd T). pushed p ++ x ∷ []) is

pub free_at : {T : Type 0} (mid old new : PushEnd T) → mid ≡ old → free mid ≡ free new + 1 → free old ≡ free new + 1
free_at {T} mid old new is now = ap (λ (p : PushEnd T). free p) (sym is) ∙ now

-- the same of another answer
changes_as : (T U : Type 0) (x : T) (y : U) (item : Record) (h s : Story) → Changes {T = T} (mount_of h.now.seen) (with_record item (mount_of h.now.seen)) 2 (Ok x) h s → Changes {T = U} (mount_of h.now.seen) (with_record item (mount_of h.now.seen)) 2 (Ok y) h s
changes_as T U x y item h s is = record { any_moment = is.any_moment; ok = is.ok; memory = λ err. absurd cc; in_doubt = λ err. absurd cc }

follows_as : {X : Type 0} (R Q : X → X → Type 0) → ((h s : X) → R h s → Q h s) → (a b : Option X) → Follows R a b → Follows Q a b
follows_as R Q to (Some h) b follow = (follow.0, follow.1, to h follow.0 follow.2)
follows_as R Q to None b follow = follow

log_as : {D T : Type 0} (told : D → Option Story) (count : D → ℕ) (fate : D → Option Fate) (x : T) (place : ℕ) (item : Record) (old new : D) → SealsOn {T = T} told count fate (Ok x) place item old new → SealsOn {T = Unit {0}} told count fate (Ok tt) place item old new
log_as {D} {T} told count fate x place item old new is = record {
  story = follows_as (λ (h s : Story). Changes {T = T} (mount_of h.now.seen) (with_record item (mount_of h.now.seen)) 2 (Ok x) h s) (λ (h s : Story). Changes {T = Unit {0}} (mount_of h.now.seen) (with_record item (mount_of h.now.seen)) 2 (Ok tt) h s) (λ h s c. changes_as T (Unit {0}) x tt item h s c) (told old) (told new) is.story;
  calls = is.calls;
  cause = is.cause;
  fate = is.fate;
}

module _ {D : Type 0} (told : D → Option Story) (size count : D → ℕ) (fate : D → Option Fate) (h : Handler) (before : TurnSide D) (w : TurnWorker D) (m : Message) (e : Effects) (working : Working told size h (record w { side = before })) (made : IsMade h m e before w.side) where
  pub begun_turning : Turning told size w.side
  begun_turning = turning_on told size before w.side working.side made.same made.pages

  module _ (new : TurnWorker D) (rest : new ≡ record w { side = new.side; turns = new.turns }) (turns : new.turns.items ≡ w.turns.items) where
    -- the turn was taken back
    pub taken_back : IsUndone w.side new.side → IsSameNode w.side new.side → Turning told size new.side → IsSameState before new.side × Working told size h new × IsQuiet w new
    taken_back is node turning =
        let state = state_undone before w.side new.side made.same working.idle made.begun made.stood is node in
        let now = working_undone before w.side new.side made.same working.idle made.begun made.stood is node told size h w new.turns working turning turns in
        (state, subst (Working told size h) (sym rest) now, record { rest = rest; turns = turns })

    pub seal_fails : {T : Type 0} (f : StoreFault) → MaySeal w.side e → Fails T told size count fate f e w.side new.side → Seals told size count fate h {T = Unit {0}} (Err f) m e before w new
    seal_fails {T} store.Disk may is = (
      record {
        may = may;
        sealed = tt;
        changed = tt;
        undone = λ err. absurd cc;
        in_doubt = λ err. is.in_doubt refl;
        turning = tt;
        goes_on = λ err. absurd cc;
        spent = λ err. is.spent refl;
        log = seals_as T (Unit {0}) told count fate w.side.log.end (coming_record w.side e) w.side.log.disk new.side.log.disk seals.Disk is.log;
        others = is.others;
      },
      record { rest = rest; turns = turns },
    )
    seal_fails store.Memory may is = taken_back (is.undone refl) is.others (is.goes_on refl)
    seal_fails (store.Damaged disk place) may is = absurd (is.sound disk place refl)

  module _ (new : TurnWorker D) (message : IsMessage w.node w.order m) (rest : new ≡ record w { side = new.side; order = new.order; turns = new.turns; pages = new.pages; sealed = new.sealed })
      (turns : new.turns.items ≡ w.turns.items ++ e ∷ []) (order : new.order ≡ record { nodes = w.order.nodes; stamp = max w.order.stamp m.stamp + 1; consumed = slice_set w.order.consumed (place e.from) e.number }) where
    -- it was sealed, kept and handed over
    pub seal_succeeds : {T : Type 0} (x : T) (turn : ℕ) (pages : List Page) → MaySeal w.side e → Succeeds told count fate x e turn pages w.side new.side → Turning told size new.side
        → (frozen : Frozen) → pushed new.pages ≡ pushed w.pages ++ frozen ∷ [] → frozen_pages_of frozen ≡ (turn, pages)
        → (handed : Sealed) → pushed new.sealed ≡ pushed w.sealed ++ handed ∷ [] → IsHanded (coming_turn w.side) e handed
        → (free w.pages ≡ free new.pages + 1) × (free w.sealed ≡ free new.sealed + 1)
        → SealsTurn told size count fate {T = Unit {0}} (Ok tt) e w.side new.side × IsKept (coming_turn w.side) m e w.side w new × Working told size h new
    seal_succeeds x turn pages may is turning frozen pushed_pages frozen_is handed pushed_sealed handed_is slots =
        let counted : turn ≡ coming_turn w.side = is.sealed.counted in
        let changed : pages ≡ coming_pages w.side = is.sealed.changed in
        let consumed = order_kept told size h before w new m e working made message new.order order in (
          record {
            may = may;
            sealed = subst (λ k. IsSealed e w.side k (coming_pages w.side) new.side) counted (subst (λ ps. IsSealed e w.side turn ps new.side) changed is.sealed);
            changed = subst (AreChangedPages (turn_pages w.side).heap) changed is.changed;
            undone = λ err. absurd cc;
            in_doubt = λ err. absurd cc;
            turning = turning;
            goes_on = λ err. absurd cc;
            spent = λ err. absurd cc;
            log = log_as told count fate x w.side.log.end (coming_record w.side e) w.side.log.disk new.side.log.disk is.log;
            others = is.others;
          },
          record {
            rest = rest;
            turns = turns;
            order = consumed;
            frozen = frozen;
            pages = pushed_pages;
            frozen_is = frozen_is ∙ ap (λ k. (k, pages)) counted ∙ ap (λ ps. (coming_turn w.side, ps)) changed;
            handed = handed;
            sealed = pushed_sealed;
            handed_is = handed_is;
            slots = slots;
          },
          working_kept told size h before w new m e working made message turn pages is.sealed is.others turning (ap (λ (y : TurnWorker D). y.node) rest) (ap (λ (y : TurnWorker D). y.nodes) rest) consumed turns,
        )
