-- How a node of a run is created, and joins it.
use Rattle.std.specs.Prelude.{◌≡◌, ◌⊎◌, ℕ, ◌+◌, ◌<◌, ◌≤◌, List, [], ◌∷◌, ◌++◌, slice_index_or, Option, Some, Result, Ok, Err}
use Rattle.ken_disk.specs.Fates.{Fate}
use Rattle.ken_disk.specs.Story.{Story, blank}
use Rattle.ken_model.specs.declared.messages.Out.{Out}
use Rattle.ken_model.specs.Game.{Game}
use Rattle.ken_model.specs.Handler.{Handler}
use Rattle.ken_net.specs.declared.act.LinkAct.{LinkAct}
use Rattle.ken_net.specs.History.{AreNew}
use Rattle.ken_core.specs.Calls.{Doubt, no_doubt}
use Rattle.ken_core.specs.Nodes.{Node, first_node}
use Rattle.ken_core.specs.Packets.{Packet}
use Rattle.ken_app.specs.Oracles.{Telling}
use Rattle.ken_store.specs.declared.disks.Disks.{Disks}
use Rattle.ken_ship.specs.declared.faults.NodeFault.{NodeFault}
use Rattle.ken_ship.specs.declared.faults.NodeFault.TheVariants.{Disk, Damaged, Outlet, Memory}
use Rattle.ken_node.specs.declared.stage.Stage.{Stage}
use Rattle.ken_node.specs.declared.watched.Watched.{Watched}
use Rattle.ken_node.specs.Down.{IsDown}
use Rattle.ken_node.specs.Restarts.{IsUpAgain}
use Rattle.ken_node.specs.Stages.{IsUncreated, emissions_in}
use Rattle.ken_node.specs.Up.{IsUp}
use Rattle.ken_run.specs.declared.faults.RunFault.{RunFault}
use Rattle.ken_run.specs.declared.faults.RunFault.TheVariants.{Down}
use Rattle.ken_run.specs.declared.faults.RunFault.TheVariants as run_faults
use Rattle.ken_run.specs.declared.run.Run.{Run}
use Rattle.ken_run.specs.declared.station.Station.{Station}
use Rattle.ken_run.specs.Accounts.{AreAccounted, AreFated, AreOwnDisks, AreRaised, IsAccounted, IsHeld, IsUsedUp, Terms, faults_of}
use Rattle.ken_run.specs.Ends.{AreModest}
use Rattle.ken_run.specs.Running.{IsRunning, StandsFor}
use Rattle.ken_run.specs.Devices.{TellsNothing}

-- it was restarted no more than so often, while it was created, and went on with no turn where it was at all
pub record HasTried {D O U : Type 0} (most : ℕ) (s : Station D O U) : Type 0 where
  pub few : s.restarts ≤ most
  pub lines : ((s.restarts ≡ 0) × (s.lines.items ≡ [])) ⊎ ((0 < s.restarts) × (s.lines.items ≡ 0 ∷ []))

module _ {D : Type 0} (told : Watched D → Option Story) where
  -- node v of a run, which isn't created yet, over empty disks
  pub record IsBlank (g : Game) (v : ℕ) (stage : Stage (Watched D)) : Type 0 where
    pub disks : Disks (Watched D)
    pub uncreated : IsUncreated g v disks stage
    pub log : told disks.log ≡ Some blank
    pub image : told disks.image ≡ Some blank
    pub second : told disks.second ≡ Some blank

  -- its station, of which no restart was counted
  pub record IsBorn {O U : Type 0} (g : Game) (v : ℕ) (s : Station D O U) : Type 0 where
    pub over : IsBlank g v s.node.stage
    pub no_restart : s.restarts ≡ 0
    pub no_line : s.lines.items ≡ []

  -- of some run
  pub record MayBeBorn {O U : Type 0} (s : Station D O U) : Type 0 where
    pub game : Game
    pub node : ℕ
    pub born : IsBorn game node s

  module _ {O U : Type 0} (size : Watched D → ℕ) where
    -- what restarts of node v leave, one after the other until one answers, which stood for n and had this in doubt: by the answer
    -- it is up again, or down as it was and restarted as often as it may be
    abbrev pub RaisesStation : Result (Unit {0}) NodeFault → Game → ℕ → List Packet → Node → Doubt → ℕ → Station D O U → Station D O U → Type 0
    RaisesStation (Ok x) g v given n doubt most old new = (turns : ℕ) × (IsUpAgain told size g v given n doubt turns new.node.stage × (new.lines.items ≡ old.lines.items ++ turns ∷ []) × (old.restarts < new.restarts) × (new.restarts ≤ most))
    RaisesStation (Err Disk) g v given n doubt most old new = IsDown told g v given n doubt new.node.stage × (new.lines.items ≡ old.lines.items) × (most ≤ new.restarts)
    RaisesStation (Err Memory) g v given n doubt most old new = Unit {0}
    RaisesStation (Err Outlet) g v given n doubt most old new = ⊥
    RaisesStation (Err (Damaged disk place)) g v given n doubt most old new = ⊥

    -- node v was created, perhaps by a restart: it is up, made no turn and emitted nothing
    pub record IsCreatedStation (g : Game) (v most : ℕ) (s : Station D O U) : Type 0 where
      pub turns : ℕ
      pub up : IsUpAgain told size g v [] (first_node g) no_doubt turns s.node.stage
      pub quiet : emissions_in s.node.stage ≡ []
      pub tried : HasTried most s

    -- what its creation leaves, by the answer
    abbrev pub CreatesStation : Result (Unit {0}) NodeFault → Game → ℕ → ℕ → Station D O U → Type 0
    CreatesStation (Ok x) g v most s = IsCreatedStation g v most s
    CreatesStation (Err Disk) g v most s = most ≤ s.restarts
    CreatesStation (Err Memory) g v most s = Unit {0}
    CreatesStation (Err Outlet) g v most s = ⊥
    CreatesStation (Err (Damaged disk place)) g v most s = ⊥

    -- and as a run answers, in which it has this number
    abbrev pub BeginsStation : Result (Unit {0}) RunFault → Game → ℕ → ℕ → ℕ → Station D O U → Type 0
    BeginsStation (Ok x) g v number most s = IsCreatedStation g v most s
    BeginsStation (Err (Down u)) g v number most s = u ≡ number
    BeginsStation (Err run_faults.Memory) g v number most s = Unit {0}
    BeginsStation (Err (run_faults.Damaged u disk place)) g v number most s = ⊥

-- the disks of node v counted no fault, and none is down, with at most so many falls as it has cuts, as far as they tell; in a scripted world
-- they do. They are its own, and none was restarted
pub record IsFresh {D : Type 0} (count : D → ℕ) (fate : D → Option Fate) (terms : Terms) (v : ℕ) (disks : Disks D) : Type 0 where
  pub none : faults_of count disks ≡ 0
  pub fated : AreFated fate terms.scripted (AreRaised (terms.cuts v) 0) disks
  pub own : AreOwnDisks fate terms.scripted (terms.origins v) 0 disks

module _ {D O U : Type 0} (told : Watched D → Option Story) (count : Watched D → ℕ) (fate : Watched D → Option Fate) (telling : Telling O) (terms : Terms) (g : Game) where
  -- what the creation of node v leaves of its accounts, by the answer: it is accounted for, or down with its restarts used up
  abbrev pub BeginsAccounts : Result (Unit {0}) RunFault → ℕ → Station D O U → Type 0
  BeginsAccounts (Ok x) v s = IsAccounted told count fate telling terms g v s
  BeginsAccounts (Err (Down u)) v s = IsHeld told count fate telling terms g v s × (s.restarts ≡ terms.most)
  BeginsAccounts (Err run_faults.Memory) v s = Unit {0}
  BeginsAccounts (Err (run_faults.Damaged u disk place)) v s = Unit {0}

  -- and of those of all, of which it is the last
  abbrev pub JoinsAccountsBy : {A : Type 0} → Result (Unit {0}) RunFault → ℕ → Run D O U A → Type 0
  JoinsAccountsBy (Ok x) made r = AreAccounted told count fate telling terms g (made + 1) r
  JoinsAccountsBy (Err (Down v)) made r = IsUsedUp told count fate telling terms g (made + 1) made r
  JoinsAccountsBy (Err run_faults.Memory) made r = Unit {0}
  JoinsAccountsBy (Err (run_faults.Damaged v disk place)) made r = Unit {0}

-- ---- the run

module _ {D O U A : Type 0} (told : Watched D → Option Story) (size : Watched D → ℕ) (took : U → Option (List Out)) (handles : A → Handler) where
  -- so many nodes of a run have started, in rising order: they are up and made no turn, and nothing was emitted
  pub record IsStarted (g : Game) (made : ℕ) (r : Run D O U A) : Type 0 where
    pub nodes : ℕ → Node
    pub stands : StandsFor told size took handles g made nodes [] r
    pub up : (v : ℕ) (d : Station D O U) → v < made → IsUp told size g v (nodes v) (slice_index_or r.stations.items v d).node.stage
    pub no_turn : (v : ℕ) → (nodes v).turning.turns ≡ []
    pub unmade : (v : ℕ) → made ≤ v → nodes v ≡ first_node g
    pub tried : (v : ℕ) (d : Station D O U) → v < made → HasTried r.restarts (slice_index_or r.stations.items v d)

  -- so it runs
  abbrev pub running_of : (g : Game) (made : ℕ) (r : Run D O U A) → IsStarted g made r → IsRunning told size took handles g made r
  running_of g made r is = record { nodes = is.nodes; emissions = []; stands = is.stands; up = is.up }

  -- a node that isn't created yet may join a run as its next one
  pub record Joins (g : Game) (made : ℕ) (s : Station D O U) (r : Run D O U A) : Type 0 where
    pub started : IsStarted g made r
    pub known : made < g.nodes
    pub born : IsBorn told g made s
    pub silent : TellsNothing (took s.out)
    pub mail : (acts : List LinkAct) × AreNew made g.nodes acts s.mail
    pub acks : (acts : List LinkAct) × AreNew made g.nodes acts s.acks
    pub modest : AreModest s.mail × AreModest s.acks

  pub record MayJoin (s : Station D O U) (r : Run D O U A) : Type 0 where
    pub game : Game
    pub made : ℕ
    pub joins : Joins game made s r

  -- what its creation leaves of the run, by the answer: it is one of the nodes that have started, or it has failed too often
  abbrev pub JoinsBy : Result (Unit {0}) RunFault → Game → ℕ → Run D O U A → Type 0
  JoinsBy (Ok x) g made r = IsStarted g (made + 1) r
  JoinsBy (Err (Down v)) g made r = v ≡ made
  JoinsBy (Err run_faults.Memory) g made r = Unit {0}
  JoinsBy (Err (run_faults.Damaged v disk place)) g made r = ⊥

  -- its station is the last one, whether its creation has failed or not
  pub record IsLast (s : Station D O U) (old new : Run D O U A) : Type 0 where
    pub last : Station D O U
    pub is : last ≡ record s { node = last.node; restarts = last.restarts; lines = last.lines }
    pub stations : new.stations.items ≡ old.stations.items ++ last ∷ []

  abbrev pub AddsBy : Result (Unit {0}) RunFault → Station D O U → Run D O U A → Run D O U A → Type 0
  AddsBy (Ok x) s old new = IsLast s old new
  AddsBy (Err (Down v)) s old new = IsLast s old new
  AddsBy (Err run_faults.Memory) s old new = Unit {0}
  AddsBy (Err (run_faults.Damaged v disk place)) s old new = IsLast s old new
