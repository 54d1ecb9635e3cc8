-- What each call of a node leaves of the failures of its outlet.
use Rattle.std.proofs.Common.{◌≡◌, ◌≢◌, ◌∙◌, ℕ, ◌+◌, ◌-◌, ◌^◌, ◌<◌, ◌≤◌, ⊎_elim, ◌↔◌, List, length, Bool, Option, Some, None, Result, Ok, Err, slice_index_or, slice_set, refl, sym, ap, subst, arith}
use Rattle.std.specs.List.{Contains}
use Rattle.std.specs.Result.{IsErrAnd}
use Rattle.std.proofs.lemmas.Bool.{cases_eq, cases_lt}
use Rattle.std.proofs.lemmas.List.{get_or-set_other, get_or-set_same}
use Rattle.ken_app.specs.Oracles.{Telling}
use Rattle.ken_disk.specs.Fates as disk
use Rattle.ken_disk.specs.Story.{Story}
use Rattle.ken_model.specs.declared.messages.Out.{Out}
use Rattle.ken_model.specs.Game.{Game}
use Rattle.ken_net.specs.Puts.{Put}
use Rattle.ken_core.specs.Calls.{Doubt}
use Rattle.ken_core.specs.Nodes.{Node}
use Rattle.ken_core.specs.Packets.{Packet}
use Rattle.ken_ship.specs.declared.emit.Emit.TheVariants.{Done, Refused, Nothing}
use Rattle.ken_ship.specs.declared.emit.Emit as emits
use Rattle.ken_ship.specs.declared.faults.NodeFault.{NodeFault}
use Rattle.ken_ship.specs.declared.faults.NodeFault.TheVariants.{Disk, Damaged, Outlet, Memory}
use Rattle.ken_ship.specs.declared.faults.OutFault.{OutFault}
use Rattle.ken_ship.specs.declared.faults.OutFault.TheVariants.{Failed, Memory as NoMemory}
use Rattle.ken_ship.specs.Causes.{HasCause, risen}
use Rattle.ken_ship.specs.Emitting.{outlet_answer}
use Rattle.ken_ship.specs.Fates.{Fate, Follows, Suffers}
use Rattle.ken_node.specs.declared.watched.Watched.{Watched}
use Rattle.ken_node.specs.declared.stage.Stage.{Stage}
use Rattle.ken_work.specs.declared.took.Took.{Took}
use Rattle.ken_work.specs.declared.worker.TurnWorker.{TurnWorker}
use Rattle.ken_node.specs.NodeCalls.{EmitStepsBy, PatchStepsBy, SettleStepsBy, UnlessMemory}
use Rattle.ken_node.specs.NodeTurns.{TurnStepsBy}
use Rattle.ken_node.specs.Stages.{refusals_in}
use Rattle.ken_run.specs.Accounts.{Terms}
use Rattle.ken_run.specs.declared.faults.RunFault.{RunFault}
use Rattle.ken_run.specs.declared.run.Run.{Run}
use Rattle.ken_run.specs.declared.station.Station.{Station}
use Rattle.ken_run.specs.Left.{tries_at}
use Rattle.ken_run.specs.Refusals.{AreRefused, HasFailedLast, IsListedLate, IsRefused, IsUsedUpOf, IsWornOut, LastFail, RefusedBy, RefusedFault, RefusedRunBy, RefusedRunFault, StopsBy}
use Rattle.ken_run.specs.Devices.{MayFailAt}
use Rattle.ken_run.specs.Stations.{RestartsStation}
use Rattle.ken_run.proofs.Leaving.{tries-is}

-- ---- the last calls of an outlet

last-fewer : (often less : ℕ) (f : Fate) → less ≤ often → LastFail often f → LastFail less f
last-fewer often less f low is = record { made = let made = is.made in omega (arith, low, made); each = λ call late most. is.each call (omega (arith, low, late)) most }

-- one more failed, and can be counted
last-more : (often : ℕ) (old new : Fate) → new.calls < 2 ^ 64 - 1 → Suffers {T = Unit {0}} (Err Failed) old new → (old.calls < 2 ^ 64 - 1 → LastFail often old) → LastFail (often + 1) new
last-more often old new room suffers was =
    let calls = ap (λ (f : Fate). f.calls) suffers.1 in
    let fails : new.fails ≡ old.fails = ap (λ (f : Fate). f.fails) suffers.1 in
    let before : old.calls < 2 ^ 64 - 1 = omega (arith, calls, room) in
    let next : new.calls ≡ old.calls + 1 = omega (arith, calls, room, before) in
    let last = was before in
    record {
      made = let made = last.made in omega (arith, made, next);
      each = λ call late most. subst (λ (fs : List ℕ). Contains fs call) (sym fails)
          (⊎_elim
          (λ (below : call < old.calls + 1). last.each call (omega (arith, late, next)) (omega (arith, below)))
          (λ (above : old.calls + 1 ≤ call). let at : call ≡ old.calls + 1 = omega (arith, above, most, next) in subst (Contains old.fails) (sym at) suffers.0)
          (cases_lt call (old.calls + 1)));
    }

-- where an outlet tells its calls
told-more : (often : ℕ) (old new : Option Fate) → ((f : Fate) → old ≡ Some f → f.calls < 2 ^ 64 - 1 → LastFail often f) → Follows (Suffers {T = Unit {0}} (Err Failed)) old new → (f : Fate) → new ≡ Some f → f.calls < 2 ^ 64 - 1 → LastFail (often + 1) f
told-more often None new was follows f is room = let no : None ≡ Some f = sym follows ∙ is in absurd (cc)
told-more often (Some before) new was follows f is room =
    let both : Some follows.0 ≡ Some f = sym follows.1 ∙ is in
    let same : follows.0 ≡ f = cc in
    last-more often before f room (subst (λ (x : Fate). Suffers {T = Unit {0}} (Err Failed) before x) same follows.2) (was before refl)

-- and its number is on the list
listed-now : (old new : Fate) → Suffers {T = Unit {0}} (Err Failed) old new → IsListedLate new
listed-now old new suffers =
    let calls : new.calls ≡ risen old.calls = ap (λ (f : Fate). f.calls) suffers.1 in
    let fails : new.fails ≡ old.fails = ap (λ (f : Fate). f.fails) suffers.1 in
    record { call = old.calls + 1; late = omega (arith, calls); listed = subst (λ (fs : List ℕ). Contains fs (old.calls + 1)) (sym fails) suffers.0 }

told-listed : (old new : Option Fate) → Follows (Suffers {T = Unit {0}} (Err Failed)) old new → (f : Fate) → new ≡ Some f → IsListedLate f
told-listed None new follows f is = let no : None ≡ Some f = sym follows ∙ is in absurd (cc)
told-listed (Some before) new follows f is =
    let both : Some follows.0 ≡ Some f = sym follows.1 ∙ is in
    let same : follows.0 ≡ f = cc in
    listed-now before f (subst (λ (x : Fate). Suffers {T = Unit {0}} (Err Failed) before x) same follows.2)

-- a call that wanted memory, or none, leaves what it tells
told-same : (old new : Option Fate) → Follows (Suffers {T = Unit {0}} (Err NoMemory)) old new → new ≡ old
told-same None new follows = follows
told-same (Some before) new follows = follows.1 ∙ ap Some follows.2

module _ {U : Type 0} (faults : U → ℕ) (fate : U → Option Fate) where
  pub failed-none : (out : U) → HasFailedLast faults fate 0 out
  failed-none out = record { counted = omega arith; listed = λ some. absurd (omega (arith, some)); running = λ f is room. record { made = omega arith; each = λ call late most. absurd (omega (arith, late, most)) } }

  failed-fewer : (often less : ℕ) (out : U) → less ≤ often → HasFailedLast faults fate often out → HasFailedLast faults fate less out
  failed-fewer often less out low is = record { listed = λ some f told. is.listed (omega (arith, some, low)) f told; counted = let counted = is.counted in omega (arith, low, counted); running = λ f told room. last-fewer often less f low (is.running f told room) }

  pub failed-more : (often : ℕ) (out out2 : U) → often ≤ 64 → HasFailedLast faults fate often out → HasCause {T = Unit {0}} (faults out) (faults out2) (Err Failed) → Follows (Suffers {T = Unit {0}} (Err Failed)) (fate out) (fate out2) → HasFailedLast faults fate (often + 1) out2
  failed-more often out out2 few is cause follows = record {
    counted = let counted = is.counted in let rose = cause.1 in omega (arith, counted, rose, few);
    running = told-more often (fate out) (fate out2) is.running follows;
    listed = λ some f told. told-listed (fate out) (fate out2) follows f told;
  }

  pub failed-same : (often : ℕ) (out out2 : U) → HasFailedLast faults fate often out → HasCause {T = Unit {0}} (faults out) (faults out2) (Err NoMemory) → Follows (Suffers {T = Unit {0}} (Err NoMemory)) (fate out) (fate out2) → HasFailedLast faults fate often out2
  failed-same often out out2 is cause follows = record {
    counted = let counted = is.counted in omega (arith, counted, cause);
    running = λ f told room. is.running f (sym (told-same (fate out) (fate out2) follows) ∙ told) room;
    listed = λ some f told. is.listed some f (sym (told-same (fate out) (fate out2) follows) ∙ told);
  }

-- ---- the calls at which it may fail

-- a call leaves the list
list-same : {T : Type 0} (result : Result T OutFault) (old new : Fate) → Suffers result old new → new.fails ≡ old.fails
list-same (Ok x) old new suffers = ap (λ (f : Fate). f.fails) suffers
list-same (Err Failed) old new suffers = ap (λ (f : Fate). f.fails) suffers.1
list-same (Err NoMemory) old new suffers = ap (λ (f : Fate). f.fails) suffers

-- nor whose it is
node-same : {T : Type 0} (result : Result T OutFault) (old new : Fate) → Suffers result old new → new.node ≡ old.node
node-same (Ok x) old new suffers = ap (λ (f : Fate). f.node) suffers
node-same (Err Failed) old new suffers = ap (λ (f : Fate). f.node) suffers.1
node-same (Err NoMemory) old new suffers = ap (λ (f : Fate). f.node) suffers

pub may-fail-still : {T : Type 0} (scripted : Bool) (v : ℕ) (fails : List ℕ) (result : Result T OutFault) (old new : Option Fate) → Follows (Suffers result) old new → MayFailAt scripted v fails old → MayFailAt scripted v fails new
may-fail-still scripted v fails result None new follows may = subst (MayFailAt scripted v fails) (sym follows) may
may-fail-still scripted v fails result (Some f) new follows may =
    subst (MayFailAt scripted v fails) (sym follows.1)
    (node-same result f follows.0 follows.2 ∙ may.0, λ call. subst (λ (fs : List ℕ). Contains fs call ↔ Contains fails call) (sym (list-same result f follows.0 follows.2)) (may.1 call))

-- ---- a call of one node of a run

-- no outlet is told of
abbrev pub NoOutlet : {T : Type 0} → Result T NodeFault → Type 0
NoOutlet (Ok x) = Unit {0}
NoOutlet (Err Disk) = Unit {0}
NoOutlet (Err Memory) = Unit {0}
NoOutlet (Err Outlet) = ⊥
NoOutlet (Err (Damaged disk place)) = Unit {0}

module _ {D O U A : Type 0} (faults : U → ℕ) (fate : U → Option Fate) (terms : Terms) (made : ℕ) (r r2 : Run D O U A) (v : ℕ) (s s2 : Station D O U)
    (low : v < made) (width : v < length r.stations.items) (is : slice_index_or r.stations.items v s ≡ s) (stations : r2.stations.items ≡ slice_set r.stations.items v s2) (are : AreRefused faults fate terms made r) where
  here : (d : Station D O U) → slice_index_or r2.stations.items v d ≡ s2
  here d = ap (λ xs. slice_index_or xs v d) stations ∙ get_or-set_same r.stations.items v s2 d width

  other : (u : ℕ) (d : Station D O U) → u ≢ v → slice_index_or r2.stations.items u d ≡ slice_index_or r.stations.items u d
  other u d ne = ap (λ xs. slice_index_or xs u d) stations ∙ get_or-set_other r.stations.items v u s2 d ne

  was : IsRefused faults fate terms v s
  was = subst (IsRefused faults fate terms v) is (are.each v s low)

  now : IsRefused faults fate terms v s2 → AreRefused faults fate terms made r2
  now by = record {
    each = λ u d below. ⊎_elim
        (λ (at : u ≡ v). subst (λ (x : ℕ). IsRefused faults fate terms x (slice_index_or r2.stations.items x d)) (sym at) (subst (IsRefused faults fate terms v) (sym (here d)) by))
        (λ ne. subst (IsRefused faults fate terms u) (sym (other u d ne)) (are.each u d below))
        (cases_eq u v);
  }

  worn-out : HasFailedLast faults fate 65 s2.out → IsWornOut faults fate terms v r2
  worn-out by = λ d. subst (λ (x : Station D O U). HasFailedLast faults fate 65 x.out) (sym (here d)) by

  -- one that leaves the outlet, and doesn't raise the count
  pub still-refused : refusals_in s2.node.stage ≤ refusals_in s.node.stage → s2.out ≡ s.out → AreRefused faults fate terms made r2
  still-refused fewer out = now (record {
    few = let few = was.few in omega (arith, few, fewer);
    failed = failed-fewer faults fate (refusals_in s.node.stage) (refusals_in s2.node.stage) s2.out fewer (subst (HasFailedLast faults fate (refusals_in s.node.stage)) (sym out) was.failed);
    fails = subst (λ (o : U). MayFailAt terms.scripted v (terms.fails v) (fate o)) (sym out) was.fails;
  })

  pub call-refused : {T : Type 0} (result : Result T NodeFault) → NoOutlet result → refusals_in s2.node.stage ≤ refusals_in s.node.stage → s2.out ≡ s.out → RefusedBy faults fate terms result made v r2
  call-refused (Ok x) told fewer out = still-refused fewer out
  call-refused (Err Disk) told fewer out = still-refused fewer out
  call-refused (Err Memory) told fewer out = tt
  call-refused (Err Outlet) told fewer out = absurd told
  call-refused (Err (Damaged disk place)) told fewer out = tt

  -- an output
  pub emit-refused : (told : Watched D → Option Story) (size : Watched D → ℕ) (g : Game) (n : Node) (took : List Out → Type 0) (result : Result emits.Emit NodeFault) → EmitStepsBy told size result g v n took s.node.stage s2.node.stage
      → UnlessMemory result (HasCause (faults s.out) (faults s2.out) (outlet_answer result)) → UnlessMemory result (Follows (Suffers (outlet_answer result)) (fate s.out) (fate s2.out)) → RefusedBy faults fate terms result made v r2
  emit-refused told size g n took (Ok (Done number)) e cause follows = now (record {
    few = let none = e.refusals in omega (arith, none);
    failed = subst (λ (k : ℕ). HasFailedLast faults fate k s2.out) (sym e.refusals) (failed-none faults fate s2.out);
    fails = may-fail-still terms.scripted v (terms.fails v) (outlet_answer (Ok (Done number))) (fate s.out) (fate s2.out) follows was.fails;
  })
  emit-refused told size g n took (Ok Refused) e cause follows =
      let below : refusals_in s.node.stage < 64 = e.2 in
      now (record {
        few = let more = e.3 in omega (arith, more, below);
        failed = subst (λ (k : ℕ). HasFailedLast faults fate k s2.out) (sym e.3) (failed-more faults fate (refusals_in s.node.stage) s.out s2.out was.few was.failed cause follows);
        fails = may-fail-still terms.scripted v (terms.fails v) (outlet_answer (Ok Refused)) (fate s.out) (fate s2.out) follows was.fails;
      })
  emit-refused told size g n took (Ok Nothing) e cause follows = now (record {
    few = let same = e.2 in let few = was.few in omega (arith, same, few);
    failed = subst (λ (k : ℕ). HasFailedLast faults fate k s2.out) (sym e.2) (failed-same faults fate (refusals_in s.node.stage) s.out s2.out was.failed cause follows);
    fails = may-fail-still terms.scripted v (terms.fails v) (outlet_answer (Ok Nothing)) (fate s.out) (fate s2.out) follows was.fails;
  })
  emit-refused told size g n took (Err Outlet) e cause follows =
      let most : refusals_in s.node.stage ≡ 64 = e.2 in
      let more = failed-more faults fate (refusals_in s.node.stage) s.out s2.out was.few was.failed cause follows in (
        now (record {
          few = let same = e.3 in omega (arith, same, most);
          failed = failed-fewer faults fate (refusals_in s.node.stage + 1) (refusals_in s2.node.stage) s2.out (let same = e.3 in omega (arith, same)) more;
          fails = may-fail-still terms.scripted v (terms.fails v) (outlet_answer (Err Outlet)) (fate s.out) (fate s2.out) follows was.fails;
        }),
        worn-out (subst (λ (k : ℕ). HasFailedLast faults fate (k + 1) s2.out) most more),
      )
  emit-refused told size g n took (Err Memory) e cause follows = tt
  emit-refused told size g n took (Err Disk) e cause follows = absurd e
  emit-refused told size g n took (Err (Damaged disk place)) e cause follows = absurd e

-- ---- one call after another

module _ {D O U A T : Type 0} (faults : U → ℕ) (fate : U → Option Fate) (terms : Terms) (made : ℕ) (r : Run D O U A) where
  -- a fault that is handed on leaves what it left
  pub refused-handed-on : (v : ℕ) (result : Result T NodeFault) (fault : NodeFault) → IsErrAnd result (λ e. e ≡ fault) → RefusedFault faults fate terms fault made v r → RefusedBy faults fate terms result made v r
  refused-handed-on v (Ok x) fault same is = absurd same
  refused-handed-on v (Err e) fault same is = subst (λ (x : NodeFault). RefusedFault faults fate terms x made v r) (sym same) is

  pub run-refused-handed-on : (result : Result T RunFault) (fault : RunFault) → IsErrAnd result (λ e. e ≡ fault) → RefusedRunFault faults fate terms fault made r → RefusedRunBy faults fate terms result made r
  run-refused-handed-on (Ok x) fault same is = absurd same
  run-refused-handed-on (Err e) fault same is = subst (λ (x : RunFault). RefusedRunFault faults fate terms x made r) (sym same) is

-- and what stops a run stops it still
pub stops-handed-on : {D O U A T : Type 0} (told : Watched D → Option Story) (count : Watched D → ℕ) (falls : Watched D → Option disk.Fate) (telling : Telling O) (faults : U → ℕ) (fate : U → Option Fate) (terms : Terms) (g : Game) (made : ℕ) (r : Run D O U A)
    → (result : Result T RunFault) (fault : RunFault) → IsErrAnd result (λ e. e ≡ fault) → StopsBy {T = T} told count falls telling faults fate terms g (Err fault) made r → StopsBy told count falls telling faults fate terms g result made r
stops-handed-on told count falls telling faults fate terms g made r (Ok x) fault same is = absurd same
stops-handed-on {T = T} told count falls telling faults fate terms g made r (Err e) fault same is = subst (λ (x : RunFault). StopsBy {T = T} told count falls telling faults fate terms g (Err x) made r) (sym same) is

-- a node that was restarted as often as it may be
pub used-up-of : {D O U A : Type 0} (v : ℕ) (r : Run D O U A) → v < length r.stations.items → r.restarts ≤ tries_at r.stations.items v → IsUsedUpOf v r
used-up-of v r low many = λ d. let tries = tries-is r.stations.items v d low in omega (arith, many, tries)

-- ---- which calls tell of no outlet

module _ {D : Type 0} (told : Watched D → Option Story) (size : Watched D → ℕ) (g : Game) (v : ℕ) (n : Node) where
  pub turn-tells-none : (gave : List (List ℕ) → Type 0) (put : List Put → Type 0) (drew : List ℕ → Type 0) (nones nones2 : ℕ) (handler : TurnWorker (Watched D)) (stage : Stage (Watched D)) (result : Result Took NodeFault) → TurnStepsBy told size g v n gave put result drew nones nones2 handler stage → NoOutlet result
  turn-tells-none gave put drew nones nones2 handler stage (Ok x) p = tt
  turn-tells-none gave put drew nones nones2 handler stage (Err Disk) p = tt
  turn-tells-none gave put drew nones nones2 handler stage (Err Memory) p = tt
  turn-tells-none gave put drew nones nones2 handler stage (Err Outlet) p = absurd p
  turn-tells-none gave put drew nones nones2 handler stage (Err (Damaged disk place)) p = tt

  pub patch-tells-none : (stage : Stage (Watched D)) (result : Result Bool NodeFault) → PatchStepsBy told size result g v n stage → NoOutlet result
  patch-tells-none stage (Ok x) p = tt
  patch-tells-none stage (Err Disk) p = tt
  patch-tells-none stage (Err Memory) p = tt
  patch-tells-none stage (Err Outlet) p = absurd p
  patch-tells-none stage (Err (Damaged disk place)) p = tt

  pub settle-tells-none : (stage : Stage (Watched D)) (result : Result (Unit {0}) NodeFault) → SettleStepsBy told size result g v n stage → NoOutlet result
  settle-tells-none stage (Ok x) p = tt
  settle-tells-none stage (Err Disk) p = tt
  settle-tells-none stage (Err Memory) p = tt
  settle-tells-none stage (Err Outlet) p = absurd p
  settle-tells-none stage (Err (Damaged disk place)) p = tt

pub restart-tells-none : {D O U : Type 0} (told : Watched D → Option Story) (size : Watched D → ℕ) (g : Game) (v : ℕ) (given : List Packet) (n : Node) (doubt : Doubt) (old new : Station D O U) (result : Result (Unit {0}) NodeFault) → RestartsStation told size result g v given n doubt old new → NoOutlet result
restart-tells-none told size g v given n doubt old new (Ok x) b = tt
restart-tells-none told size g v given n doubt old new (Err Disk) b = tt
restart-tells-none told size g v given n doubt old new (Err Memory) b = tt
restart-tells-none told size g v given n doubt old new (Err Outlet) b = absurd b
restart-tells-none told size g v given n doubt old new (Err (Damaged disk place)) b = tt
