-- What the nodes of a run stand for: a group in accord, with all that is on its way between them.
use Rattle.std.specs.Prelude.{◌≡◌, ◌≢◌, ℕ, ◌<◌, ◌≤◌, ◌⊎◌, List, length, slice_index_or, Option, Result, Ok, Err}
use Rattle.std.specs.List.{All}
use Rattle.ken_disk.specs.Story.{Story}
use Rattle.ken_model.specs.declared.messages.Out.{Out}
use Rattle.ken_model.specs.declared.reports.Emission.{Emission}
use Rattle.ken_model.specs.Emissions.{emitted_by}
use Rattle.ken_model.specs.Game.{Game}
use Rattle.ken_model.specs.Handler.{Handler}
use Rattle.ken_model.specs.Limits.{IsWithinLimits}
use Rattle.ken_core.specs.Accord.{Accord}
use Rattle.ken_core.specs.Calls.{Doubt}
use Rattle.ken_core.specs.Clusters.{WasPut}
use Rattle.ken_core.specs.Nodes.{Node}
use Rattle.ken_core.specs.Packets.{Packet}
use Rattle.ken_ship.specs.declared.faults.NodeFault.{NodeFault}
use Rattle.ken_ship.specs.declared.faults.NodeFault.TheVariants.{Disk, Damaged, Outlet, Memory}
use Rattle.ken_node.specs.declared.watched.Watched.{Watched}
use Rattle.ken_node.specs.Down.{IsDown}
use Rattle.ken_node.specs.Up.{IsUp}
use Rattle.ken_app.specs.Limits.{KeepsLimits}
use Rattle.ken_app.specs.Lines.{KeepsLines}
use Rattle.ken_flow.specs.Flows.{AreKnown}
use Rattle.ken_flow.specs.Groups.{group_of}
use Rattle.ken_flow.specs.Standstill.{AreShort}
use Rattle.ken_run.specs.declared.faults.RunFault.{RunFault}
use Rattle.ken_run.specs.declared.faults.RunFault.TheVariants.{Down}
use Rattle.ken_run.specs.declared.faults.RunFault.TheVariants as run_faults
use Rattle.ken_run.specs.declared.run.Run.{Run}
use Rattle.ken_run.specs.declared.station.Station.{Station}
use Rattle.ken_run.specs.Ends.{AreModest}
use Rattle.ken_run.specs.Stations.{IsStation}

module _ {D O U A : Type 0} (told : Watched D → Option Story) (size : Watched D → ℕ) (took : U → Option (List Out)) (handles : A → Handler) where
  -- so many nodes of this game were made, they stand for these in accord, which emitted this, and all on its way was put
  pub record StandsFor (g : Game) (made : ℕ) (nodes : ℕ → Node) (emissions : List Emission) (r : Run D O U A) : Type 0 where
    pub limits : IsWithinLimits g
    pub keeps : KeepsLimits g.nodes g.size g.handler
    pub few : made ≤ g.nodes
    pub count : r.nodes ≡ made
    pub lines : KeepsLines g.nodes g.size g.handler
    pub handler : handles r.app ≡ g.handler
    pub width : length r.stations.items ≡ made
    pub accord : Accord g (group_of g nodes emissions)
    pub boxes : (length r.waiting.mail ≡ g.nodes) × (length r.waiting.acks ≡ g.nodes)
    pub mail : AreKnown g (group_of g nodes emissions) r.waiting.mail
    pub acks : AreKnown g (group_of g nodes emissions) r.waiting.acks
    pub each : (v : ℕ) (d : Station D O U) → v < made → IsStation took g (group_of g nodes emissions) v (emitted_by v emissions) (slice_index_or r.stations.items v d)
    pub short : AreShort r.waiting.mail × AreShort r.waiting.acks
    pub modest : (v : ℕ) (d : Station D O U) → v < made → AreModest (slice_index_or r.stations.items v d).mail × AreModest (slice_index_or r.stations.items v d).acks

  -- all that were made are up
  pub record IsRunning (g : Game) (made : ℕ) (r : Run D O U A) : Type 0 where
    pub nodes : ℕ → Node
    pub emissions : List Emission
    pub stands : StandsFor g made nodes emissions r
    pub up : (v : ℕ) (d : Station D O U) → v < made → IsUp told size g v (nodes v) (slice_index_or r.stations.items v d).node.stage

  -- node v is down, with something in doubt over packets that were put, and the others are up
  pub record IsStopped (g : Game) (made v : ℕ) (r : Run D O U A) : Type 0 where
    pub nodes : ℕ → Node
    pub emissions : List Emission
    pub stands : StandsFor g made nodes emissions r
    pub known : v < made
    pub given : List Packet
    pub put : All (WasPut (group_of g nodes emissions)) given
    pub doubt : Doubt
    pub down : (d : Station D O U) → IsDown told g v given (nodes v) doubt (slice_index_or r.stations.items v d).node.stage
    pub others : (u : ℕ) (d : Station D O U) → u < made → u ≢ v → IsUp told size g u (nodes u) (slice_index_or r.stations.items u d).node.stage

  -- a node of the run takes calls
  pub record MayWork (v : ℕ) (r : Run D O U A) : Type 0 where
    pub game : Game
    pub made : ℕ
    pub running : IsRunning game made r
    pub known : v < made

  -- what a call of node v, or several, leave: by the answer all are up, or v is down. Want of memory ends a run
  abbrev pub LeavesFault : NodeFault → Game → ℕ → ℕ → Run D O U A → Type 0
  LeavesFault Disk g made v r = IsStopped g made v r
  LeavesFault Memory g made v r = Unit {0}
  LeavesFault Outlet g made v r = IsRunning g made r
  LeavesFault (Damaged disk place) g made v r = ⊥

  abbrev pub LeavesBy : {T : Type 0} → Result T NodeFault → Game → ℕ → ℕ → Run D O U A → Type 0
  LeavesBy (Ok x) g made v r = IsRunning g made r
  LeavesBy (Err fault) g made v r = LeavesFault fault g made v r

  -- a node of the run is down, and may be restarted
  pub record MayBeRestarted (v : ℕ) (r : Run D O U A) : Type 0 where
    pub game : Game
    pub made : ℕ
    pub stopped : IsStopped game made v r

  -- what visits leave: all nodes are up, or the node that is named has failed once too often. Want of memory ends a run
  abbrev pub LeavesRunFault : RunFault → Game → ℕ → Run D O U A → Type 0
  LeavesRunFault (Down v) g made r = IsStopped g made v r ⊎ ((v < made) × IsRunning g made r)
  LeavesRunFault run_faults.Memory g made r = Unit {0}
  LeavesRunFault (run_faults.Damaged v disk place) g made r = ⊥

  abbrev pub LeavesRunBy : {T : Type 0} → Result T RunFault → Game → ℕ → Run D O U A → Type 0
  LeavesRunBy (Ok x) g made r = IsRunning g made r
  LeavesRunBy (Err fault) g made r = LeavesRunFault fault g made r

  -- a run of some game goes on
  pub record MayGoOn (r : Run D O U A) : Type 0 where
    pub game : Game
    pub made : ℕ
    pub running : IsRunning game made r

  -- where all were up, all still are
  abbrev pub StaysUp : ℕ → Run D O U A → Run D O U A → Type 0
  StaysUp v old new = (g : Game) (made : ℕ) → IsRunning g made old → v < made → IsRunning g made new

  abbrev pub StaysRunning : Run D O U A → Run D O U A → Type 0
  StaysRunning old new = (g : Game) (made : ℕ) → IsRunning g made old → IsRunning g made new

  -- and where node v was down, it is
  abbrev pub StaysDown : ℕ → Run D O U A → Run D O U A → Type 0
  StaysDown v old new = (g : Game) (made : ℕ) → IsStopped g made v old → IsStopped g made v new
