-- Nodes of a run any of which may be down, as a round leaves them that ended early.
use Rattle.std.specs.Prelude.{◌≡◌, ◌⊎◌, ℕ, ◌<◌, List, slice_index_or, Option, Result, Ok, Err}
use Rattle.std.specs.List.{All}
use Rattle.ken_disk.specs.Fates as disk
use Rattle.ken_disk.specs.Story.{Story}
use Rattle.ken_app.specs.Oracles.{Telling}
use Rattle.ken_model.specs.declared.messages.Out.{Out}
use Rattle.ken_model.specs.declared.reports.Emission.{Emission}
use Rattle.ken_model.specs.Game.{Game}
use Rattle.ken_model.specs.Handler.{Handler}
use Rattle.ken_core.specs.Calls.{Doubt}
use Rattle.ken_core.specs.Clusters.{Cluster, WasPut}
use Rattle.ken_core.specs.Nodes.{Node}
use Rattle.ken_core.specs.Packets.{Packet}
use Rattle.ken_flow.specs.Groups.{group_of}
use Rattle.ken_node.specs.declared.stage.Stage.{Stage}
use Rattle.ken_node.specs.declared.watched.Watched.{Watched}
use Rattle.ken_node.specs.Down.{IsDown}
use Rattle.ken_node.specs.Up.{IsUp}
use Rattle.ken_ship.specs.Fates.{Fate}
use Rattle.ken_run.specs.declared.faults.RunFault.{RunFault}
use Rattle.ken_run.specs.declared.faults.RunFault.TheVariants as run_faults
use Rattle.ken_run.specs.declared.run.Run.{Run}
use Rattle.ken_run.specs.declared.station.Station.{Station}
use Rattle.ken_run.specs.Accounts.{AreAccounted, IsAccounted, IsHeld, Terms}
use Rattle.ken_run.specs.Refusals.{IsWornOut}
use Rattle.ken_run.specs.Running.{IsRunning, StandsFor}

-- node v of a run is up; or it is down, with something in doubt over packets that were put
pub data IsSomehow {D : Type 0} (told : Watched D → Option Story) (size : Watched D → ℕ) (g : Game) (w : Cluster) (v : ℕ) (n : Node) (stage : Stage (Watched D)) : Type 0 where
  up : IsUp told size g v n stage → IsSomehow told size g w v n stage
  down : (given : List Packet) → All (WasPut w) given → (doubt : Doubt) → IsDown told g v given n doubt stage → IsSomehow told size g w v n stage

module _ {D O U A : Type 0} (told : Watched D → Option Story) (size : Watched D → ℕ) (took : U → Option (List Out)) (handles : A → Handler) where
  -- so it is of each node that was made, and they stand for these in accord
  pub record IsShaken (g : Game) (made : ℕ) (r : Run D O U A) : Type 0 where
    pub nodes : ℕ → Node
    pub emissions : List Emission
    pub stands : StandsFor told size took handles g made nodes emissions r
    pub each : (v : ℕ) (d : Station D O U) → v < made → IsSomehow told size g (group_of g nodes emissions) v (nodes v) (slice_index_or r.stations.items v d).node.stage

  -- each node before v is up, and stands for its node
  abbrev pub AreUpBefore : Game → (ℕ → Node) → ℕ → Run D O U A → Type 0
  AreUpBefore g nodes v r = (u : ℕ) (d : Station D O U) → u < v → IsUp told size g u (nodes u) (slice_index_or r.stations.items u d).node.stage

  -- what rounds leave: all nodes are up; or the node that is named is down for good, those before it are up, and those after it may be down
  -- too. Want of memory ends a run
  abbrev pub LeavesRoundsFault : RunFault → Game → ℕ → Run D O U A → Type 0
  LeavesRoundsFault (run_faults.Down v) g made r = (v < made) × (shaken : IsShaken g made r) × AreUpBefore g shaken.nodes v r
  LeavesRoundsFault run_faults.Memory g made r = Unit {0}
  LeavesRoundsFault (run_faults.Damaged v disk place) g made r = ⊥

  abbrev pub LeavesRoundsBy : {T : Type 0} → Result T RunFault → Game → ℕ → Run D O U A → Type 0
  LeavesRoundsBy (Ok x) g made r = IsRunning told size took handles g made r
  LeavesRoundsBy (Err fault) g made r = LeavesRoundsFault fault g made r

module _ {D O U A : Type 0} (told : Watched D → Option Story) (count : Watched D → ℕ) (fate : Watched D → Option disk.Fate) (telling : Telling O) (terms : Terms) (g : Game) where
  -- each node has its accounts, as one that is up or as one that is down
  pub record AreKept (made : ℕ) (r : Run D O U A) : Type 0 where
    pub most : r.restarts ≡ terms.most
    pub each : (v : ℕ) (d : Station D O U) → v < made
        → IsAccounted told count fate telling terms g v (slice_index_or r.stations.items v d) ⊎ IsHeld told count fate telling terms g v (slice_index_or r.stations.items v d)

  -- those before v as ones that are up
  abbrev pub AreAccountedBefore : ℕ → Run D O U A → Type 0
  AreAccountedBefore v r = (u : ℕ) (d : Station D O U) → u < v → IsAccounted told count fate telling terms g u (slice_index_or r.stations.items u d)

  abbrev pub AccountsRoundsFault : RunFault → ℕ → Run D O U A → Type 0
  AccountsRoundsFault (run_faults.Down v) made r = AreKept made r × AreAccountedBefore v r
  AccountsRoundsFault run_faults.Memory made r = Unit {0}
  AccountsRoundsFault (run_faults.Damaged v disk place) made r = Unit {0}

  abbrev pub AccountsRoundsBy : {T : Type 0} → Result T RunFault → ℕ → Run D O U A → Type 0
  AccountsRoundsBy (Ok x) made r = AreAccounted told count fate telling terms g made r
  AccountsRoundsBy (Err fault) made r = AccountsRoundsFault fault made r

  -- node v is down, and was restarted as often as it may be; whatever the others are
  abbrev pub IsDownForGood : ℕ → Run D O U A → Type 0
  IsDownForGood v r = (d : Station D O U) → IsHeld told count fate telling terms g v (slice_index_or r.stations.items v d) × ((slice_index_or r.stations.items v d).restarts ≡ terms.most)

  -- why rounds stop: a node is down for good, or its outlet refused one output once too often
  abbrev pub StopsRoundsBy : {T : Type 0} → (U → ℕ) → (U → Option Fate) → Result T RunFault → Run D O U A → Type 0
  StopsRoundsBy faults out_fate (Ok x) r = Unit {0}
  StopsRoundsBy faults out_fate (Err (run_faults.Down v)) r = IsDownForGood v r ⊎ IsWornOut faults out_fate terms v r
  StopsRoundsBy faults out_fate (Err run_faults.Memory) r = Unit {0}
  StopsRoundsBy faults out_fate (Err (run_faults.Damaged v disk place)) r = Unit {0}
