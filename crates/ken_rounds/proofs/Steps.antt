-- The calls of each worker in a round, one after the other, by the fault at which it stopped.
use Rattle.std.proofs.Common.{◌≡◌, ◌≢◌, ◌⊎◌, true, false, List, [], ◌∷◌, ◌++◌, Option, Some, None, Err, inl, inr, refl, sym, subst}
use Rattle.ken_disk.specs.declared.disk.Disk as disk
use Rattle.ken_app.specs.declared.oracle.Oracle as oracle
use Rattle.ken_model.specs.Handler.{Handler}
use Rattle.ken_net.specs.declared.net.Net as net
use Rattle.ken_store.specs.declared.faults.StoreFault.TheVariants as store
use Rattle.ken_ship.specs.declared.faults.NodeFault.{NodeFault}
use Rattle.ken_ship.specs.declared.faults.NodeFault.TheVariants.{Disk, Damaged, Outlet, Memory}
use Rattle.ken_ship.specs.declared.outlet.Outlet as outlet
use Rattle.ken_work.specs.declared.patcher.PatchWorker.{PatchWorker}
use Rattle.ken_weave.specs.Workers.{Steps, none, then}
use Rattle.ken_beside.specs.Seats.{Handling, Sending}
use Rattle.ken_beside.specs.Steps.{EmitsOnce, emits_once, HandlerStep, patch_fails, PatcherCall, PatcherFault, PatcherStep, patches_once, SenderCall, sends_due, settles_once, sync_fails, takes_acks, TurnsOnce}
use Rattle.ken_threads.specs.Ran.{Ran}
use Rattle.ken_threads.specs.Seats.{HandlerFails, PatcherFails, PatcherSteps, PatcherStops, SenderFails, SenderSteps, at_page, at_sync, synced, wrote}
use Rattle.ken_threads.proofs.Following.{one_more}
use Rattle.ken_rounds.specs.Faults.{is_disk}

-- steps are steps of another kind where each is one
kind-of : {W : Type 0} {step step2 : W → W → Type 0} → ((x y : W) → step x y → step2 x y) → {a b : W} {bs : List W} → Steps step a bs b → Steps step2 a bs b
kind-of each none = none
kind-of each (then {a = a} {b = b} one rest) = then (each a b one) (kind-of each rest)

-- ---- the handler

module _ {D N O : Type 0} (d : disk.Ghosts D) (e : net.Ghosts N) (o : oracle.Ghosts O) (h : Handler) where
  -- all its calls ended well
  pub record TurnedWell (a b : Handling D N O) : Type 0 where
    pub states : List (Handling D N O)
    pub steps : Steps (HandlerStep d e o h) a states b

  -- or a disk failed at the last
  pub record TurnedBadly (a b : Handling D N O) : Type 0 where
    pub mid : Handling D N O
    pub well : TurnedWell a mid
    pub last : TurnsOnce d e o h (Err Disk) mid b

  abbrev pub HandlerEnds : Option NodeFault → Handling D N O → Handling D N O → Type 0
  HandlerEnds fault a b = ((is_disk fault ≡ false) × TurnedWell a b) ⊎ ((is_disk fault ≡ true) × TurnedBadly a b)

  pub handler-ends : (fault : Option NodeFault) (a b : Handling D N O) → fault ≢ Some Memory → Ran (HandlerStep d e o h) (HandlerFails d e o h) a b fault → HandlerEnds fault a b
  handler-ends None a b had ran = inl (refl, record { states = ran.states; steps = subst (Steps (HandlerStep d e o h) a ran.states) (sym ran.ends.1) ran.made })
  handler-ends (Some Disk) a b had ran = inr (refl, record { mid = ran.mid; well = record { states = ran.states; steps = ran.made }; last = ran.ends.1 })
  handler-ends (Some Memory) a b had ran = absurd (had refl)
  handler-ends (Some Outlet) a b had ran = let last = ran.ends.1 in absurd last.takes
  handler-ends (Some (Damaged disk place)) a b had ran = let last = ran.ends.1 in absurd last.takes

-- ---- the patcher

module _ {D : Type 0} (d : disk.Ghosts D) where
  pub record PatchedWell (a b : PatchWorker D) : Type 0 where
    pub states : List (PatchWorker D)
    pub steps : Steps (PatcherStep d) a states b

  pub record PatchedBadly (a b : PatchWorker D) : Type 0 where
    pub mid : PatchWorker D
    pub well : PatchedWell a mid
    pub last : PatcherFault d mid b

  abbrev pub PatcherEnds : Option NodeFault → PatchWorker D → PatchWorker D → Type 0
  PatcherEnds fault a b = ((is_disk fault ≡ false) × PatchedWell a b) ⊎ ((is_disk fault ≡ true) × PatchedBadly a b)

  patcher-first : (a b c : PatchWorker D) → PatcherSteps d a b → PatchedWell b c → PatchedWell a c
  patcher-first a b c (wrote one) rest = record { states = b ∷ rest.states; steps = then (patches_once true one.same one.patches) rest.steps }
  patcher-first a b c (synced mid one two) rest = record {
    states = mid ∷ b ∷ rest.states;
    steps = then (patches_once false one.same one.patches) (then (settles_once two.same two.settles) rest.steps);
  }

  patcher-calls : (a b : PatchWorker D) (bs : List (PatchWorker D)) → Steps (PatcherSteps d) a bs b → PatchedWell a b
  patcher-calls a _ _ none = record { states = []; steps = none }
  patcher-calls a c _ (then {b = b} {bs = bs} one rest) = patcher-first a b c one (patcher-calls b c bs rest)

  patcher-last : (a b c : PatchWorker D) → PatchedWell a b → PatcherStops d store.Disk b c → PatchedBadly a c
  patcher-last a b c well (at_page one) = record { mid = b; well = well; last = patch_fails one.same one.patches }
  patcher-last a b c well (at_sync mid one two) = record {
    mid = mid;
    well = record { states = well.states ++ mid ∷ []; steps = one_more well.steps (patches_once false one.same one.patches) };
    last = sync_fails two.same two.settles;
  }

  pub patcher-ends : (fault : Option NodeFault) (a b : PatchWorker D) → fault ≢ Some Memory → Ran (PatcherSteps d) (PatcherFails d) a b fault → PatcherEnds fault a b
  patcher-ends None a b had ran = inl (refl, subst (PatchedWell a) (sym ran.ends.1) (patcher-calls a ran.mid ran.states ran.made))
  patcher-ends (Some Disk) a b had ran = inr (refl, patcher-last a ran.mid b (patcher-calls a ran.mid ran.states ran.made) ran.ends.1)
  patcher-ends (Some Memory) a b had ran = absurd (had refl)
  patcher-ends (Some Outlet) a b had ran = let last = ran.ends.1 in absurd last
  patcher-ends (Some (Damaged disk place)) a b had ran = let last = ran.ends.1 in absurd last

  -- all of them, with the one that failed
  pub record Patched (a b : PatchWorker D) : Type 0 where
    pub states : List (PatchWorker D)
    pub calls : Steps (PatcherCall d) a states b

  pub patched-well : (a b : PatchWorker D) → PatchedWell a b → Patched a b
  patched-well a b well = record { states = well.states; calls = kind-of (λ x y step. inl step) well.steps }

  pub patched-badly : (a b : PatchWorker D) → PatchedBadly a b → Patched a b
  patched-badly a b badly = record { states = badly.well.states ++ b ∷ []; calls = one_more (kind-of (λ x y step. inl step) badly.well.steps) (inr badly.last) }

-- ---- the externaliser

module _ {N U : Type 0} (e : net.Ghosts N) (u : outlet.Ghosts U) where
  pub record Sent (a b : Sending N U) : Type 0 where
    pub states : List (Sending N U)
    pub calls : Steps (SenderCall e u) a states b

  -- at the last its outlet refused an output once too often
  pub record SentBadly (a b : Sending N U) : Type 0 where
    pub mid : Sending N U
    pub well : Sent a mid
    pub last : EmitsOnce e u (Err Outlet) mid b

  abbrev pub SenderEnds : Option NodeFault → Sending N U → Sending N U → Type 0
  SenderEnds fault a b = ((fault ≡ None) × Sent a b) ⊎ ((fault ≡ Some Outlet) × SentBadly a b)

  sender-first : (a b c : Sending N U) → SenderSteps e u a b → Sent b c → Sent a c
  sender-first a b c one rest = record {
    states = one.ships.sent ∷ one.heard ∷ b ∷ rest.states;
    calls = then (inl (sends_due one.ships.sends)) (then (inl (takes_acks one.ships.takes)) (then (inl (emits_once one.answer one.emits)) rest.calls));
  }

  sender-calls : (a b : Sending N U) (bs : List (Sending N U)) → Steps (SenderSteps e u) a bs b → Sent a b
  sender-calls a _ _ none = record { states = []; calls = none }
  sender-calls a c _ (then {b = b} {bs = bs} one rest) = sender-first a b c one (sender-calls b c bs rest)

  pub sender-ends : (fault : Option NodeFault) (a b : Sending N U) → fault ≢ Some Memory → Ran (SenderSteps e u) (SenderFails e u) a b fault → SenderEnds fault a b
  sender-ends None a b had ran = inl (refl, subst (Sent a) (sym ran.ends.1) (sender-calls a ran.mid ran.states ran.made))
  sender-ends (Some Outlet) a b had ran =
      let well = sender-calls a ran.mid ran.states ran.made in
      let last = ran.ends.1 in
      inr (
        refl,
        record {
          mid = last.heard;
          well = record {
            states = (well.states ++ last.ships.sent ∷ []) ++ last.heard ∷ [];
            calls = one_more (one_more well.calls (inl (sends_due last.ships.sends))) (inl (takes_acks last.ships.takes));
          };
          last = last.refused;
        },
      )
  sender-ends (Some Memory) a b had ran = absurd (had refl)
  sender-ends (Some Disk) a b had ran = let last = ran.ends.1 in absurd last
  sender-ends (Some (Damaged disk place)) a b had ran = let last = ran.ends.1 in absurd last

  pub sent-badly : (a b : Sending N U) → SentBadly a b → Sent a b
  sent-badly a b badly = record { states = badly.well.states ++ b ∷ []; calls = one_more badly.well.calls (inr badly.last) }
