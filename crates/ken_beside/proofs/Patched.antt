-- What a step of the patcher is handed and tells.
use Rattle.std.proofs.Common.{◌≡◌, ℕ, ◌+◌, ◌-◌, ◌≤◌, List, [], ◌∷◌, ◌++◌, length, Bool, Result, Ok, Err, IsErrOf, ⊎_elim, sym, ap, ◌∙◌, subst, append-nil, append_assoc}
use Rattle.std.proofs.lemmas.List.{append_cancel_left}
use Rattle.std.specs.List.{AllByRecursion}
use Rattle.ken_disk.specs.declared.disk.Disk as disk
use Rattle.ken_image.specs.declared.image.Image.{Image}
use Rattle.ken_links.specs.Rings.{pushed, popped}
use Rattle.ken_store.specs.declared.faults.StoreFault.{StoreFault}
use Rattle.ken_store.specs.declared.faults.StoreFault.TheVariants as store
use Rattle.ken_work.specs.declared.items.Frozen.{Frozen}
use Rattle.ken_work.specs.declared.items.Settled.{Settled}
use Rattle.ken_work.specs.declared.patcher.PatchWorker.{PatchWorker}
use Rattle.ken_work.specs.Patches.{MayFollow, PatchesOnce, SettlesOnce, went, no_room, settled_of}
use Rattle.ken_whole.proofs.Rings.{queue-moved}
use Rattle.ken_weave.specs.Workers.{Counts, Ends, Steps, none, then, Tells}
use Rattle.ken_beside.specs.Steps.{PatcherCall, PatcherFault, PatcherStep, patches_once, settles_once, patch_fails, sync_fails}
use Rattle.ken_beside.proofs.Handled.{longer}
use Rattle.ken_beside.proofs.Numbered.{AreKnown, IsKnown, frozen_turn, known-later, known-now, last, last-frozen, may-first, may-later}

-- the patcher's ends of its rings, by which turns are counted as they are popped
abbrev pub patcher-ends : {D : Type 0} → Ends (PatchWorker D) Frozen Settled
patcher-ends = record { turns = λ p. length (popped p.pages); handed = λ p. popped p.pages; told = λ p. pushed p.settled }

module _ {D : Type 0} where
  -- turns left the ring, and are known where they follow
  pub record IsHanded (old new : PatchWorker D) : Type 0 where
    pub turns : List Frozen
    pub popped_are : popped new.pages ≡ popped old.pages ++ turns
    pub known : MayFollow old.side.image.pages old.side.known turns → new.side.known ≡ last frozen_turn old.side.known turns
    pub pages : new.side.image.pages ≡ old.side.image.pages
    -- what is told stands with what was known, and nothing was handed with it
    pub news : List Settled
    pub told : pushed new.settled ≡ pushed old.settled ++ news
    pub by : AllByRecursion (λ (x : Settled). new.side.known ≡ x.by) news

  module _ (d : disk.Ghosts D) where
    patch-handed : (result : Result Bool StoreFault) (old new : PatchWorker D) → PatchesOnce d.told d.size d.faults d.fate result old new → (IsErrOf result store.Memory → ⊥) → IsHanded old new
    patch-handed result old new (no_room err takes) room = absurd (room err)
    patch-handed result old new (went mid over rest is) room = record {
      turns = over.turns;
      popped_are = ap (λ (p : PatchWorker D). popped p.pages) rest ∙ over.popped_are;
      known = λ may. is.known ∙ over.handed.known may ∙ last-frozen old.side.known over.turns;
      pages = is.pages ∙ ap (λ (i : Image D). i.pages) over.handed.image;
      news = [];
      told = ap (λ (p : PatchWorker D). pushed p.settled) rest ∙ ap pushed over.settled ∙ sym (append-nil (pushed old.settled));
      by = tt;
    }

    settle-handed : (old new : PatchWorker D) → SettlesOnce d.told d.size d.faults d.fate {T = Unit {0}} (Ok tt) old new → IsHanded old new
    settle-handed old new is = record {
      turns = [];
      popped_are = ap popped is.pages ∙ sym (append-nil (popped old.pages));
      known = λ may. is.known;
      pages = is.count_is;
      news = settled_of old.side ∷ [];
      told = is.tells;
      by = (is.known, tt);
    }

    -- a sync that failed
    unsettled-handed : (old new : PatchWorker D) → SettlesOnce d.told d.size d.faults d.fate {T = Unit {0}} (Err store.Disk) old new → IsHanded old new
    unsettled-handed old new is = record {
      turns = [];
      popped_are = ap popped is.pages ∙ sym (append-nil (popped old.pages));
      known = λ may. is.known;
      pages = is.count_is;
      news = [];
      told = ap pushed is.untold ∙ sym (append-nil (pushed old.settled));
      by = tt;
    }

    step-handed : (old new : PatchWorker D) → PatcherStep d old new → IsHanded old new
    step-handed old new (patches_once more same is) = patch-handed (Ok more) old new is (λ err. absurd cc)
    step-handed old new (settles_once same is) = settle-handed old new is

    fault-handed : (old new : PatchWorker D) → PatcherFault d old new → IsHanded old new
    fault-handed old new (patch_fails same is) = patch-handed (Err store.Disk) old new is (λ err. absurd cc)
    fault-handed old new (sync_fails same is) = unsettled-handed old new is

    pub handed : (old new : PatchWorker D) → PatcherCall d old new → IsHanded old new
    handed old new call = ⊎_elim (λ step. step-handed old new step) (λ fault. fault-handed old new fault) call

    pub popped-grows : (a c : PatchWorker D) (cs : List (PatchWorker D)) → Steps (PatcherCall d) a cs c → (more : List Frozen) × (popped c.pages ≡ popped a.pages ++ more)
    popped-grows a c cs none = ([], sym (append-nil (popped a.pages)))
    popped-grows a c cs (then {b = b} {bs = bs} one rest) =
        let first = handed a b one in
        let later = popped-grows b c bs rest in
        (first.turns ++ later.0, later.1 ∙ ap (λ (fs : List Frozen). fs ++ later.0) first.popped_are ∙ append_assoc (popped a.pages) first.turns later.0)

    module _ (start made : ℕ) where
      -- a step after which it knows of the turns that it was handed after the start
      pub record FitPatch (old new : PatchWorker D) : Type 0 where
        pub step : PatcherCall d old new
        pub known : IsKnown frozen_turn start made (length (popped new.pages)) new.side.known

      -- all steps are so, where all that is handed may be, and is known one after another
      pub patches-fit : (pages : ℕ) (a c : PatchWorker D) (cs : List (PatchWorker D)) (all queue tail : List Frozen) → Steps (PatcherCall d) a cs c → a.side.image.pages ≡ pages
          → all ≡ popped a.pages ++ queue → all ≡ popped c.pages ++ tail → MayFollow pages a.side.known queue → AreKnown frozen_turn start made (length (popped a.pages)) a.side.known queue
          → Steps FitPatch a cs c
      patches-fit pages a c cs all queue tail none count before after may known = none
      patches-fit pages a c cs all queue tail (then {b = b} {bs = bs} one rest) count before after may known =
          let first = handed a b one in
          let later = popped-grows b c bs rest in
          let left : List Frozen = later.0 ++ tail in
          let middle : all ≡ popped b.pages ++ left = after ∙ ap (λ (fs : List Frozen). fs ++ tail) later.1 ∙ append_assoc (popped b.pages) later.0 tail in
          let parts : queue ≡ first.turns ++ left = queue-moved all (popped a.pages) (popped b.pages) queue first.turns left before first.popped_are middle in
          let both : MayFollow pages a.side.known (first.turns ++ left) = subst (MayFollow pages a.side.known) parts may in
          let here : MayFollow a.side.image.pages a.side.known first.turns = subst (λ (k : ℕ). MayFollow k a.side.known first.turns) (sym count) (may-first pages a.side.known first.turns left both) in
          let now : b.side.known ≡ last frozen_turn a.side.known first.turns = first.known here in
          let size : length (popped b.pages) ≡ length (popped a.pages) + length first.turns = longer (popped a.pages) first.turns (popped b.pages) first.popped_are in
          let next : MayFollow pages b.side.known left = subst (λ (k : ℕ). MayFollow pages k left) (sym now) (may-later pages a.side.known first.turns left both) in
          let all_known = known-later frozen_turn start made (length (popped a.pages)) a.side.known first.turns left (subst (AreKnown frozen_turn start made (length (popped a.pages)) a.side.known) parts known) in
          let next_known : AreKnown frozen_turn start made (length (popped b.pages)) b.side.known left =
          subst (λ (k : ℕ). AreKnown frozen_turn start made k b.side.known left) (sym size) (subst (λ (k : ℕ). AreKnown frozen_turn start made (length (popped a.pages) + length first.turns) k left) (sym now) all_known) in
          then (record { step = one; known = known-now frozen_turn start made (length (popped b.pages)) b.side.known left next_known })
          (patches-fit pages b c bs all left tail rest (first.pages ∙ count) middle after next next_known)

      -- ---- the rules of a worker that runs beside a handler

      pub patcher-counts : Counts FitPatch patcher-ends
      patcher-counts = record {
        turns = λ a b fit. let is = handed a b fit.step in (is.turns, (is.popped_are, longer (popped a.pages) is.turns (popped b.pages) is.popped_are));
        news = λ a b fit. let is = handed a b fit.step in (is.news, is.told);
      }

      low-by : (count known : ℕ) (news : List Settled) → count ≤ (known - made) + start → AllByRecursion (λ (x : Settled). known ≡ x.by) news → AllByRecursion (λ (x : Settled). count ≤ (x.by - made) + start) news
      low-by count known [] low all = tt
      low-by count known (x ∷ news) low all = (subst (λ (k : ℕ). count ≤ (k - made) + start) all.0 low, low-by count known news low all.1)

      pub patcher-tells : Tells FitPatch patcher-ends (λ (x : Settled). (x.by - made) + start)
      patcher-tells a b fit news e =
          let is = handed a b fit.step in
          let same : is.news ≡ news = append_cancel_left (pushed a.settled) is.news news (sym is.told ∙ e) in
          subst (AllByRecursion (λ (x : Settled). length (popped b.pages) ≤ (x.by - made) + start)) same (low-by (length (popped b.pages)) b.side.known is.news fit.known is.by)
