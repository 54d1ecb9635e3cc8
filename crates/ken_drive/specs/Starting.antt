-- How a run starts.
use Rattle.std.specs.Prelude.{◌≡◌, ℕ, ◌+◌, ◌-◌, ◌^◌, ◌<◌, ◌≤◌, ◌==◌, ◌&&◌, List, [], length, map, filter, slice_index_or, Bool, Option, Some, None, Result, Ok, Err}
use Rattle.ken_disk.specs.Fates.{Fate}
use Rattle.ken_disk.specs.Story.{Story}
use Rattle.ken_memdisk.specs.declared.cut.Cut.{Cut}
use Rattle.ken_memdisk.specs.Calls.{origin_of}
use Rattle.ken_model.specs.declared.messages.Out.{Out}
use Rattle.ken_model.specs.Game.{Game, game_of}
use Rattle.ken_model.specs.Handler.{Handler}
use Rattle.ken_model.specs.Kinds.{handler_of}
use Rattle.ken_net.specs.declared.act.Act.TheVariants.{Hold}
use Rattle.ken_net.specs.declared.act.LinkAct.{LinkAct}
use Rattle.ken_net.specs.Acts.{act_of}
use Rattle.ken_net.specs.History.{AreNew}
use Rattle.ken_app.specs.Limits.{KeepsLimits}
use Rattle.ken_app.specs.Lines.{KeepsLines}
use Rattle.ken_app.specs.Oracles.{HasTold, Telling}
use Rattle.ken_store.specs.declared.disks.Disks.{Disks}
use Rattle.ken_ship.specs.Fates as ship
use Rattle.ken_node.specs.declared.watched.Watched.{Watched}
use Rattle.ken_run.specs.declared.faults.RunFault.{RunFault}
use Rattle.ken_run.specs.declared.faults.RunFault.TheVariants.{Down}
use Rattle.ken_run.specs.declared.faults.RunFault.TheVariants as run_faults
use Rattle.ken_run.specs.declared.run.Run.{Run}
use Rattle.ken_script.specs.declared.scripts.DiskCut.{DiskCut}
use Rattle.ken_script.specs.declared.scripts.OutFail.{OutFail}
use Rattle.ken_script.specs.declared.scripts.Script.{Script}
use Rattle.ken_run.specs.declared.station.Station.{Station}
use Rattle.ken_run.specs.Accounts.{AreAccounted, IsAccounted, IsHeld, IsUsedUp, Terms}
use Rattle.ken_drive.specs.Finishing.{WasKept}
use Rattle.ken_drive.specs.Worlds.{HasKeptNothing, IsFatedOutlet}
use Rattle.ken_run.specs.Devices.{IsNewOracle, TellsNothing}
use Rattle.ken_run.specs.Creating.{IsStarted}

-- what the run of a script is of, with a handler
abbrev pub game_by : Handler → Script → Game
game_by h script = record (game_of script.facts) { handler = h }

-- a handler that nodes of a script's run can have: it keeps the limits of a turn, and its report can be printed
pub record Serves (h : Handler) (script : Script) : Type 0 where
  pub keeps : KeepsLimits script.facts.nodes script.facts.size h
  pub lines : KeepsLines script.facts.nodes script.facts.size h

-- so of the kinds
abbrev pub KindsServe : Type 0
KindsServe = (script : Script) → Serves (handler_of script.facts.kind) script

-- ---- what a script lets fail at one node

-- the cuts of one of its disks, in their order
abbrev pub cut_of : DiskCut → Cut
cut_of c = record { call = c.call; pick = c.pick }

abbrev pub cuts_for : ℕ → ℕ → List DiskCut → List Cut
cuts_for v disk cuts = map cut_of (filter (λ (c : DiskCut). c.node == v && c.disk == disk) cuts)

-- the calls of its outlet that fail
abbrev pub fails_for : ℕ → List OutFail → List ℕ
fails_for v outlets = map (λ (f : OutFail). f.call) (filter (λ (f : OutFail). f.node == v) outlets)

-- no act of these is for the last put that a link can count, and none holds a packet for more than 255 puts
pub record AreModestOf (acts : List LinkAct) : Type 0 where
  pub none_last : (from to : ℕ) → act_of acts from to (2 ^ 64 - 1) ≡ None
  pub holds : (from to n k : ℕ) → act_of acts from to n ≡ Some (Hold k) → k < 256

-- so of a script
abbrev pub HasModestActs : Script → Type 0
HasModestActs script = AreModestOf script.mail × AreModestOf script.acks

-- ---- one node

module _ {D O U : Type 0} (scripted : Bool) (telling : Telling O) (took : U → Option (List Out)) (faults : U → ℕ) (fate : U → Option ship.Fate) where
  -- its oracle, its outlet and its links are those of node v in a run of this script, and nothing was asked, taken or put
  pub record HasOwn (script : Script) (v : ℕ) (s : Station D O U) : Type 0 where
    pub clocks : HasTold telling.always (telling.clocks s.luck) []
    pub words : HasTold telling.always (telling.words s.luck) []
    pub oracle : IsNewOracle scripted telling s.luck v script.seed
    pub took_none : TellsNothing (took s.out)
    pub no_faults : faults s.out ≡ 0
    pub fated : IsFatedOutlet scripted v (fails_for v script.outlets) (fate s.out)
    pub mail : AreNew v script.facts.nodes script.mail s.mail
    pub acks : AreNew v script.facts.nodes script.acks s.acks

  -- so of the first nodes of a run
  abbrev pub HaveOwn : {A : Type 0} → Script → ℕ → Run D O U A → Type 0
  HaveOwn script made r = (v : ℕ) (d : Station D O U) → v < made → HasOwn script v (slice_index_or r.stations.items v d)

-- how many cuts a script has for the disks of node v
abbrev pub cut_count : ℕ → Script → ℕ
cut_count v script = length (cuts_for v 0 script.cuts) + length (cuts_for v 1 script.cuts) + length (cuts_for v 2 script.cuts)

-- the terms of a script's run
abbrev pub terms_of : Bool → Script → Terms
terms_of scripted script = record {
  seed = script.seed;
  most = script.restarts;
  scripted = scripted;
  cuts = λ v. cut_count v script;
  origins = λ v which. origin_of v which (cuts_for v which script.cuts);
  fails = λ v. fails_for v script.outlets;
}

module _ {D O U : Type 0} (told : Watched D → Option Story) (count : Watched D → ℕ) (fate : Watched D → Option Fate) (telling : Telling O) (terms : Terms) (g : Game) where
  -- so of all nodes of a run
  abbrev pub FillsAccountsBy : {A : Type 0} → Result (Unit {0}) RunFault → Run D O U A → Type 0
  FillsAccountsBy (Ok x) r = AreAccounted told count fate telling terms g g.nodes r
  FillsAccountsBy (Err (Down v)) r = IsUsedUp told count fate telling terms g (v + 1) v r
  FillsAccountsBy (Err run_faults.Memory) r = Unit {0}
  FillsAccountsBy (Err (run_faults.Damaged v disk place)) r = Unit {0}

  -- the devices that were kept are those of node v, which is accounted for
  pub record IsKeptUp (v : ℕ) (kept : Option (Disks D × O × U)) : Type 0 where
    pub station : Station D O U
    pub accounted : IsAccounted told count fate telling terms g v station
    pub was : WasKept station kept

  -- or which is down with its restarts used up
  pub record IsKeptDown (v : ℕ) (kept : Option (Disks D × O × U)) : Type 0 where
    pub station : Station D O U
    pub held : IsHeld told count fate telling terms g v station
    pub none_left : station.restarts ≡ terms.most
    pub was : WasKept station kept

  abbrev pub StartsAccountsBy : {A : Type 0} → Result (Run D O U A) RunFault → (ℕ → Option (Disks D × O × U)) → Type 0
  StartsAccountsBy (Ok r) kept = AreAccounted told count fate telling terms g g.nodes r
  StartsAccountsBy (Err (Down v)) kept = IsKeptDown v (kept v) × ((u : ℕ) → u < v → IsKeptUp u (kept u))
  StartsAccountsBy (Err run_faults.Memory) kept = Unit {0}
  StartsAccountsBy (Err (run_faults.Damaged v disk place)) kept = Unit {0}

-- ---- the run

module _ {D O U A : Type 0} (told : Watched D → Option Story) (size : Watched D → ℕ) (took : U → Option (List Out)) (handles : A → Handler) where
  module _ (scripted : Bool) (telling : Telling O) (faults : U → ℕ) (fate : U → Option ship.Fate) (h : Handler) (script : Script) where
    -- so many nodes of the script's run have started, and the devices of each are its own
    pub record HaveStarted (made : ℕ) (r : Run D O U A) : Type 0 where
      pub started : IsStarted told size took handles (game_by h script) made r
      pub own : HaveOwn scripted telling took faults fate script made r
      pub most : r.restarts ≡ script.restarts

    -- all have
    abbrev pub HasStarted : Run D O U A → Type 0
    HasStarted r = HaveStarted script.facts.nodes r

    -- the nodes up to v have joined, of which v has failed too often
    pub record HasFailedAt (v : ℕ) (r : Run D O U A) : Type 0 where
      pub known : v < script.facts.nodes
      pub width : length r.stations.items ≡ v + 1
      pub own : HaveOwn scripted telling took faults fate script (v + 1) r

    abbrev pub FillsBy : Result (Unit {0}) RunFault → Run D O U A → Type 0
    FillsBy (Ok x) r = HasStarted r
    FillsBy (Err (Down v)) r = HasFailedAt v r
    FillsBy (Err run_faults.Memory) r = Unit {0}
    FillsBy (Err (run_faults.Damaged v disk place)) r = ⊥

    -- the devices of node v were given back
    pub record IsGivenBack (v : ℕ) (kept : Option (Disks D × O × U)) : Type 0 where
      pub station : Station D O U
      pub own : HasOwn scripted telling took faults fate script v station
      pub was : WasKept station kept

    -- what a start leaves, by the answer, and what its world has kept then: where a node has failed too often the devices of it and
    -- of those before it
    abbrev pub StartsBy : Result (Run D O U A) RunFault → (ℕ → Option (Disks D × O × U)) → Type 0
    StartsBy (Ok r) kept = HasStarted r × HasKeptNothing kept
    StartsBy (Err (Down v)) kept = (v < script.facts.nodes) × ((u : ℕ) → u ≤ v → IsGivenBack u (kept u)) × ((u : ℕ) → v < u → kept u ≡ None)
    StartsBy (Err run_faults.Memory) kept = HasKeptNothing kept
    StartsBy (Err (run_faults.Damaged v disk place)) kept = ⊥
