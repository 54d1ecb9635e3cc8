-- The nodes of a script's run join one after the other.
use Rattle.std.proofs.Common.{◌≡◌, ℕ, ◌+◌, ◌<◌, ◌≤◌, List, [], ◌∷◌, length, replicate, slice_index_or, Bool, Option, None, Result, Ok, Err, refl, sym, ap, subst, ◌∙◌, arith}
use Rattle.std.specs.Prelude.{IfOk}
use Rattle.std.specs.Result.{IsErrAnd}
use Rattle.std.proofs.lemmas.List.{length-append}
use Rattle.ken_disk.specs.Fates.{Fate}
use Rattle.ken_disk.specs.Story.{Story}
use Rattle.ken_model.specs.declared.messages.Out.{Out}
use Rattle.ken_model.specs.Game.{Game, game_of}
use Rattle.ken_model.specs.Handler.{Handler}
use Rattle.ken_model.specs.Limits.{IsWithinLimits}
use Rattle.ken_app.specs.Oracles.{Telling}
use Rattle.ken_ship.specs.Fates as ship
use Rattle.ken_store.specs.declared.disks.Disks.{Disks}
use Rattle.ken_work.specs.declared.parts.Parts.{Parts}
use Rattle.ken_node.specs.declared.watched.Watched.{Watched}
use Rattle.ken_work.specs.First.{AreFirst}
use Rattle.ken_run.specs.declared.faults.RunFault.{RunFault}
use Rattle.ken_run.specs.declared.faults.RunFault.TheVariants.{Down}
use Rattle.ken_run.specs.declared.faults.RunFault.TheVariants as run_faults
use Rattle.ken_run.specs.declared.run.Run.{Run}
use Rattle.ken_script.specs.declared.scripts.Script.{Script}
use Rattle.ken_run.specs.declared.station.Station.{Station}
use Rattle.ken_run.specs.Accounts.{IsUsedUp, Terms}
use Rattle.ken_drive.specs.Finishing.{WasKept}
use Rattle.ken_run.specs.Creating.{AddsBy, IsBorn, IsLast, IsStarted, Joins, JoinsAccountsBy, JoinsBy}
use Rattle.ken_drive.specs.Starting.{FillsBy, HasFailedAt, FillsAccountsBy, HasModestActs, HasOwn, HaveStarted, IsGivenBack, IsKeptDown, IsKeptUp, Serves, StartsAccountsBy, StartsBy, fails_for, game_by}
use Rattle.ken_drive.specs.Worlds.{HasKeptNothing}
use Rattle.ken_run.specs.Devices.{MayFailAt}
use Rattle.ken_run.proofs.StartingRun.{each-more, none-started}
use Rattle.ken_drive.proofs.StartingDevices.{new-modest}

-- an error is no Ok
pub failed-not-ok : {T E : Type 0} (P : E → Type 0) (Q : T → Type 0) (result : Result T E) → IsErrAnd result P → IfOk result Q
failed-not-ok P Q (Ok x) is = absurd is
failed-not-ok P Q (Err e) is = tt

-- one of a list that isn't empty
pub one-of : {X : Type 0} (xs : List X) (v : ℕ) → v < length xs → X
one-of [] v low = absurd (omega (arith, low))
one-of (x ∷ xs) v low = x

-- whatever the handler is, a run has the same limits and its nodes are born alike
pub limits-by : (h : Handler) (script : Script) → IsWithinLimits (game_of script.facts) → IsWithinLimits (game_by h script)
limits-by h script is = record { some_node = is.some_node; few_nodes = is.few_nodes; some_turn = is.some_turn; few_turns = is.few_turns; pages = is.pages; few_inputs = is.few_inputs; inputs = is.inputs }

first-by : (h : Handler) (script : Script) (v : ℕ) (parts : Parts) → AreFirst (game_of script.facts) v parts → AreFirst (game_by h script) v parts
first-by h script v parts is = record {
  node = is.node;
  nodes = is.nodes;
  size = is.size;
  cap = is.cap;
  inputs = is.inputs;
  turns = is.turns;
  room = is.room;
  pages = is.pages;
  settled = is.settled;
  sealed = is.sealed;
  progress = is.progress;
  sender = is.sender;
  receivers = is.receivers;
  part = is.part;
}

pub limits-of : (h : Handler) (script : Script) → IsWithinLimits (game_by h script) → IsWithinLimits (game_of script.facts)
limits-of h script is = record { some_node = is.some_node; few_nodes = is.few_nodes; some_turn = is.some_turn; few_turns = is.few_turns; pages = is.pages; few_inputs = is.few_inputs; inputs = is.inputs }

pub first-of : (h : Handler) (script : Script) (v : ℕ) (parts : Parts) → AreFirst (game_by h script) v parts → AreFirst (game_of script.facts) v parts
first-of h script v parts is = record {
  node = is.node;
  nodes = is.nodes;
  size = is.size;
  cap = is.cap;
  inputs = is.inputs;
  turns = is.turns;
  room = is.room;
  pages = is.pages;
  settled = is.settled;
  sealed = is.sealed;
  progress = is.progress;
  sender = is.sender;
  receivers = is.receivers;
  part = is.part;
}

pub born-by : {D O U : Type 0} (told : Watched D → Option Story) (h : Handler) (script : Script) (v : ℕ) (s : Station D O U) → IsBorn told (game_of script.facts) v s → IsBorn told (game_by h script) v s
born-by told h script v s born =
    let is = born.over.uncreated in
    record {
      over = record {
        disks = born.over.disks;
        uncreated = record { limits = limits-by h script is.limits; known = is.known; parts = is.parts; stage_is = is.stage_is; first = first-by h script v is.parts is.first };
        log = born.over.log;
        image = born.over.image;
        second = born.over.second;
      };
      no_restart = born.no_restart;
      no_line = born.no_line;
    }

-- and the other way
abbrev pub born-of : {D O U : Type 0} (told : Watched D → Option Story) (h : Handler) (script : Script) (v : ℕ) (s : Station D O U) → IsBorn told (game_by h script) v s → IsBorn told (game_of script.facts) v s
born-of told h script v s born =
    let is = born.over.uncreated in
    record {
      over = record {
        disks = born.over.disks;
        uncreated = record { limits = limits-of h script is.limits; known = is.known; parts = is.parts; stage_is = is.stage_is; first = first-of h script v is.parts is.first };
        log = born.over.log;
        image = born.over.image;
        second = born.over.second;
      };
      no_restart = born.no_restart;
      no_line = born.no_line;
    }

module _ {D O U A E : Type 0} (told : Watched D → Option Story) (size : Watched D → ℕ) (took : U → Option (List Out)) (handles : A → Handler) where
  -- a run of which no node was made has started
  pub empty-started : (app : A) (script : Script) (result : Result (Run D O U A) E) → IsWithinLimits (game_of script.facts) → Serves (handles app) script
      → IfOk result (λ r. r.app ≡ app) → IfOk result (λ r. (r.nodes ≡ 0) × (r.stations.items ≡ [])) → IfOk result (λ r. r.waiting.mail ≡ replicate script.facts.nodes []) → IfOk result (λ r. r.waiting.acks ≡ replicate script.facts.nodes [])
      → IfOk result (λ r. IsStarted told size took handles (game_by (handles app) script) 0 r)
  empty-started app script (Err e) limits serves same none mail acks = tt
  empty-started app script (Ok r) limits serves same none mail acks =
      none-started told size took handles (game_by (handles app) script) r (limits-by (handles app) script limits) serves.keeps serves.lines none.0 (ap handles same) none.1 mail acks

module _ {D O U A : Type 0} (told : Watched D → Option Story) (size : Watched D → ℕ) (took : U → Option (List Out)) (handles : A → Handler) (scripted : Bool) (telling : Telling O) (faults : U → ℕ) (fate : U → Option ship.Fate) (h : Handler) (script : Script) where
  -- a creation leaves the devices of a node but its disks
  own-still : (v : ℕ) (s last : Station D O U) → last ≡ record s { node = last.node; restarts = last.restarts; lines = last.lines } → HasOwn scripted telling took faults fate script v s → HasOwn scripted telling took faults fate script v last
  own-still v s last is own =
      subst (HasOwn scripted telling took faults fate script v) (sym is)
      (record { clocks = own.clocks; words = own.words; oracle = own.oracle; took_none = own.took_none; no_faults = own.no_faults; fated = own.fated; mail = own.mail; acks = own.acks })

  pub none-have-started : (r : Run D O U A) → IsStarted told size took handles (game_by h script) 0 r → r.restarts ≡ script.restarts → HaveStarted told size took handles scripted telling faults fate h script 0 r
  none-have-started r started most = record { started = started; own = λ v d below. absurd (omega (arith, below)); most = most }

  module _ (made : ℕ) (s : Station D O U) (r : Run D O U A) (have : HaveStarted told size took handles scripted telling faults fate h script made r) (known : made < script.facts.nodes) (own : HasOwn scripted telling took faults fate script made s) where
    -- the next node may join
    pub next-joins : HasModestActs script → IsBorn told (game_of script.facts) made s → Joins told size took handles (game_by h script) made s r
    next-joins modest born = record {
      started = have.started;
      known = known;
      born = born-by told h script made s born;
      silent = own.took_none;
      mail = (script.mail, own.mail);
      acks = (script.acks, own.acks);
      modest = (new-modest made script.facts.nodes script.mail s.mail own.mail modest.0, new-modest made script.facts.nodes script.acks s.acks own.acks modest.1);
    }

    module _ (r2 : Run D O U A) where
      own-more : IsLast told size took handles s r r2 → (v : ℕ) (d : Station D O U) → v < made + 1 → HasOwn scripted telling took faults fate script v (slice_index_or r2.stations.items v d)
      own-more last =
          each-more (HasOwn scripted telling took faults fate script) r.stations.items r2.stations.items last.last made have.started.stands.width last.stations have.own (own-still made s last.last last.is own)

      -- it has
      pub next-joined : r2.restarts ≡ r.restarts → IsLast told size took handles s r r2 → IsStarted told size took handles (game_by h script) (made + 1) r2 → HaveStarted told size took handles scripted telling faults fate h script (made + 1) r2
      next-joined same last started = record { started = started; own = own-more last; most = same ∙ have.most }

      -- or it has failed too often, or memory ran out
      pub next-failed : (fault : RunFault) → AddsBy told size took handles (Err fault) s r r2 → JoinsBy told size took handles (Err fault) (game_by h script) made r2 → FillsBy told size took handles scripted telling faults fate h script (Err fault) r2
      next-failed (Down v) last is = record {
        known = subst (λ (k : ℕ). k < script.facts.nodes) (sym is) known;
        width = ap length last.stations ∙ length-append r.stations.items (last.last ∷ []) ∙ ap (λ (k : ℕ). k + 1) (have.started.stands.width ∙ sym is);
        own = λ u d below. own-more last u d (subst (λ (k : ℕ). u < k + 1) is below);
      }
      next-failed run_faults.Memory adds joins = tt
      next-failed (run_faults.Damaged v disk place) adds joins = absurd joins

  -- the nodes that have started are all
  pub all-have-started : (made : ℕ) (r : Run D O U A) → HaveStarted told size took handles scripted telling faults fate h script made r → script.facts.nodes ≤ made → HaveStarted told size took handles scripted telling faults fate h script script.facts.nodes r
  all-have-started made r have above =
      let few = have.started.stands.few in
      let same : made ≡ script.facts.nodes = omega (arith, few, above) in
      subst (λ (k : ℕ). HaveStarted told size took handles scripted telling faults fate h script k r) same have

  -- an answer is handed on, or wants memory
  pub fills-handed-on : (result : Result (Unit {0}) RunFault) (fault : RunFault) (r : Run D O U A) → IsErrAnd result (λ e. e ≡ fault) → FillsBy told size took handles scripted telling faults fate h script (Err fault) r → FillsBy told size took handles scripted telling faults fate h script result r
  fills-handed-on (Ok x) fault r same is = absurd same
  fills-handed-on (Err e) fault r same is = subst (λ (x : RunFault). FillsBy told size took handles scripted telling faults fate h script (Err x) r) (sym same) is

  pub memory-fills : (result : Result (Unit {0}) RunFault) (r : Run D O U A) → IsErrAnd result (λ e. e ≡ run_faults.Memory) → FillsBy told size took handles scripted telling faults fate h script result r
  memory-fills result r is = fills-handed-on result run_faults.Memory r is tt

  pub memory-starts : (result : Result (Run D O U A) RunFault) (kept : ℕ → Option (Disks D × O × U)) → IsErrAnd result (λ e. e ≡ run_faults.Memory) → HasKeptNothing kept → StartsBy told size took handles scripted telling faults fate h script result kept
  memory-starts (Ok x) kept same none = absurd same
  memory-starts (Err e) kept same none = subst (λ (x : RunFault). StartsBy told size took handles scripted telling faults fate h script (Err x) kept) (sym same) none

  -- ---- the outlets of the nodes that have started

  pub own-fails : (v : ℕ) (s : Station D O U) → HasOwn scripted telling took faults fate script v s → MayFailAt scripted v (fails_for v script.outlets) (fate s.out)
  own-fails v s own = own.fated.may

  -- ---- what a start leaves

  module _ (v : ℕ) (r : Run D O U A) (failed : HasFailedAt told size took handles scripted telling faults fate h script v r) (first mid last : ℕ → Option (Disks D × O × U)) (none : HasKeptNothing first) (same : (u : ℕ) → mid u ≡ first u)
      (given : (u : ℕ) (d : Station D O U) → u < length r.stations.items → WasKept (slice_index_or r.stations.items u d) (last u)) (others : (u : ℕ) → length r.stations.items ≤ u → last u ≡ mid u) where
    width : length r.stations.items ≡ v + 1
    width = failed.width

    pub given-back : (u : ℕ) → u ≤ v → IsGivenBack told size took handles scripted telling faults fate h script u (last u)
    given-back u low =
        let below : u < length r.stations.items = omega (arith, width, low) in
        let d = one-of r.stations.items u below in
        record { station = slice_index_or r.stations.items u d; own = failed.own u d (omega (arith, low)); was = given u d below }

    pub kept-no-other : (u : ℕ) → v < u → last u ≡ None
    kept-no-other u above = others u (omega (arith, width, above)) ∙ same u ∙ none u

-- ---- and of the accounts

module _ {D O U : Type 0} (told : Watched D → Option Story) (count : Watched D → ℕ) (fate : Watched D → Option Fate) (telling : Telling O) (terms : Terms) (g : Game) where
  -- of a node that has failed too often
  pub next-accounts : {A : Type 0} (made : ℕ) (r : Run D O U A) (fault : RunFault) → ((v : ℕ) → fault ≡ Down v → v ≡ made) → JoinsAccountsBy told count fate telling terms g (Err fault) made r → FillsAccountsBy told count fate telling terms g (Err fault) r
  next-accounts made r (Down v) at is = let same = at v refl in subst (λ (k : ℕ). IsUsedUp told count fate telling terms g (k + 1) k r) (sym same) is
  next-accounts made r run_faults.Memory at is = tt
  next-accounts made r (run_faults.Damaged v disk place) at is = tt

  pub accounts-filled : {A : Type 0} (result : Result (Unit {0}) RunFault) (fault : RunFault) (r : Run D O U A) → IsErrAnd result (λ e. e ≡ fault) → FillsAccountsBy told count fate telling terms g (Err fault) r → FillsAccountsBy told count fate telling terms g result r
  accounts-filled (Ok x) fault r same is = absurd same
  accounts-filled (Err e) fault r same is = subst (λ (x : RunFault). FillsAccountsBy told count fate telling terms g (Err x) r) (sym same) is

  pub memory-started : {A : Type 0} (result : Result (Run D O U A) RunFault) (kept : ℕ → Option (Disks D × O × U)) → IsErrAnd result (λ e. e ≡ run_faults.Memory) → StartsAccountsBy told count fate telling terms g result kept
  memory-started {A} (Ok x) kept same = absurd same
  memory-started {A} (Err e) kept same = subst (λ (x : RunFault). StartsAccountsBy told count fate telling terms g {A = A} (Err x) kept) (sym same) tt

  -- the devices that were kept of a node that went down at the start, and of those before it
  pub kept-down : {A : Type 0} (v : ℕ) (r : Run D O U A) (kept : ℕ → Option (Disks D × O × U)) → IsUsedUp told count fate telling terms g (v + 1) v r → v < length r.stations.items
      → ((u : ℕ) (d : Station D O U) → u < length r.stations.items → WasKept (slice_index_or r.stations.items u d) (kept u)) → IsKeptDown told count fate telling terms g v (kept v) × ((u : ℕ) → u < v → IsKeptUp told count fate telling terms g u (kept u))
  kept-down v r kept is low given =
      let d = one-of r.stations.items v low in (
        record { station = slice_index_or r.stations.items v d; held = is.held.held d; none_left = is.none_left d; was = given v d low },
        λ u below.
            let there : u < length r.stations.items = omega (arith, low, below) in
            let e = one-of r.stations.items u there in
            record { station = slice_index_or r.stations.items u e; accounted = is.held.others u e (omega (arith, below)) (λ same. omega (arith, below, same)); was = given u e there },
      )

-- a node that joins and goes down is the next one
pub down-at : {D O U A : Type 0} (told : Watched D → Option Story) (size : Watched D → ℕ) (took : U → Option (List Out)) (handles : A → Handler) (g : Game) (made : ℕ) (r : Run D O U A) (fault : RunFault) → JoinsBy told size took handles (Err fault) g made r → (v : ℕ) → fault ≡ Down v → v ≡ made
down-at told size took handles g made r (Down u) joins v is = let same : u ≡ v = cc in sym same ∙ joins
down-at told size took handles g made r run_faults.Memory joins v is = absurd (cc)
down-at told size took handles g made r (run_faults.Damaged u disk place) joins v is = absurd (cc)
