-- A run that has ended, and what it says then.
use Rattle.std.specs.Prelude.{◌≡◌, ℕ, ◌+◌, ◌<◌, ◌≤◌, List, [], ◌∷◌, ◌++◌, map, length, ◌==◌, if◌then◌else◌, slice_index_or, take, sum_by, Option}
use Rattle.std.specs.List.{AllByRecursion}
use Rattle.ken_disk.specs.Story.{Story}
use Rattle.ken_model.specs.declared.messages.Out.{Out}
use Rattle.ken_model.specs.declared.reports.Emission.{Emission}
use Rattle.ken_model.specs.declared.reports.Ending.{Ending}
use Rattle.ken_model.specs.declared.reports.Ending.TheVariants.{Settled, Cut}
use Rattle.ken_model.specs.declared.reports.Lines.{Lines}
use Rattle.ken_model.specs.declared.reports.RestartLine.{RestartLine}
use Rattle.ken_model.specs.declared.values.Value.{Value}
use Rattle.ken_model.specs.Emissions.{AreByNode, AreLegalEmissions, emitted_by}
use Rattle.ken_model.specs.Ending.{Ends, nodes_of}
use Rattle.ken_model.specs.Game.{Game}
use Rattle.ken_model.specs.Handler.{Handler}
use Rattle.ken_model.specs.History.{lines_by}
use Rattle.ken_model.specs.Laws.{steps_of}
use Rattle.ken_model.specs.Network.{outside}
use Rattle.ken_model.specs.Report.{lines_of}
use Rattle.ken_model.specs.Schedule.{IsLegal, play}
use Rattle.ken_model.specs.Spelling.{IsPrintable, IsWord}
use Rattle.ken_model.specs.Restarts.{AreRestartsByNode}
use Rattle.ken_core.specs.Clusters.{IsHistoryOf}
use Rattle.ken_core.specs.Nodes.{Node}
use Rattle.ken_core.specs.Turns.{effects_line}
use Rattle.ken_node.specs.declared.stage.Stage.{Stage}
use Rattle.ken_node.specs.declared.watched.Watched.{Watched}
use Rattle.ken_node.specs.Stages.{HasValue, emissions_in, turns_in}
use Rattle.ken_flow.specs.Groups.{group_of}
use Rattle.ken_flow.specs.Standstill.{HasEnded, waits_on}
use Rattle.ken_drive.specs.declared.report.Summary.{Summary}
use Rattle.ken_run.specs.declared.run.Run.{Run}
use Rattle.ken_run.specs.declared.station.Station.{Station}
use Rattle.ken_run.specs.Running.{IsRunning}

-- the lines are the report of a run: a legal schedule, what playing it shows, legal emissions, restarts of its nodes, and its ending
pub record IsRunOf (g : Game) (l : Lines) : Type 0 where
  pub legal : IsLegal g (steps_of l.turns)
  pub lines : l ≡ lines_of g (steps_of l.turns) l.emissions l.restarts l.ending
  pub emissions : AreLegalEmissions g (play g (steps_of l.turns)) l.emissions
  pub by_node : AreByNode 0 l.emissions
  pub restarts : AreRestartsByNode g.nodes 0 l.restarts
  pub ends : Ends g (play g (steps_of l.turns)) l.emissions l.ending
  pub printable : IsPrintable l

-- how much waits for a node, and for all
abbrev pub waits_for : Game → (ℕ → Node) → ℕ → ℕ
waits_for g nodes v = sum_by (λ u. waits_on g nodes u v) (outside ∷ nodes_of g)

abbrev pub waits_in : Game → (ℕ → Node) → ℕ
waits_in g nodes = sum_by (waits_for g nodes) (nodes_of g)

-- the ending of nodes for which so much waits
abbrev pub ending_of : ℕ → Ending
ending_of waiting = if waiting == 0 then Settled else Cut

-- the restarts of node v that answered, by the turns with which it went on
abbrev pub restart_lines : ℕ → List ℕ → List RestartLine
restart_lines v turns = map (λ n. record { node = v; turns = n }) turns

abbrev pub AreWords : List RestartLine → Type 0
AreWords lines = AllByRecursion (λ (r : RestartLine). IsWord r.node × IsWord r.turns) lines

-- the value of a node's heap stands after these
abbrev pub AddsHeap : {D : Type 0} → Stage D → List Value → List Value → Type 0
AddsHeap stage old new = (value : Value) × HasValue value stage × (new ≡ old ++ value ∷ [])

module _ {D O U : Type 0} where
  -- what nodes have emitted, node by node
  abbrev pub emissions_of : List (Station D O U) → List Emission
  emissions_of [] = []
  emissions_of (s ∷ ss) = emissions_in s.node.stage ++ emissions_of ss

  -- a line for each restart that answered, node by node, from node v on
  abbrev pub restarts_from : ℕ → List (Station D O U) → List RestartLine
  restarts_from v [] = []
  restarts_from v (s ∷ ss) = restart_lines v s.lines.items ++ restarts_from (v + 1) ss

  -- the first so many nodes have said all that they say
  pub record HaveSaid (count : ℕ) (stations : List (Station D O U)) (s : Summary) : Type 0 where
    pub parts : (v : ℕ) (d : Station D O U) → v < count → lines_by v s.timeline ≡ map (effects_line v) (turns_in (slice_index_or stations v d).node.stage)
    pub others : (v : ℕ) → count ≤ v → lines_by v s.timeline ≡ []
    pub emissions : s.emissions.items ≡ emissions_of (take count stations)
    pub restarts : s.restarts.items ≡ restarts_from 0 (take count stations)
    pub words : AreWords s.restarts.items
    pub width : length s.heaps.items ≡ count
    pub heaps : (v : ℕ) (value : Value) (d : Station D O U) → v < count → HasValue (slice_index_or s.heaps.items v value) (slice_index_or stations v d).node.stage

module _ {D O U A : Type 0} (told : Watched D → Option Story) (size : Watched D → ℕ) (took : U → Option (List Out)) (handles : A → Handler) where
  -- all nodes were made and are up, each output was emitted, and what waits is for nodes that have made all their turns
  pub record IsEnded (g : Game) (r : Run D O U A) : Type 0 where
    pub made : ℕ
    pub running : IsRunning told size took handles g made r
    pub all : made ≡ g.nodes
    pub ended : HasEnded g running.emissions running.nodes

  -- a run of some game has ended, and tells what it says
  pub record MayTell (r : Run D O U A) : Type 0 where
    pub game : Game
    pub ended : IsEnded game r

  -- the lines are a report, of the turns that the nodes have sealed, of what they have emitted and of their restarts
  pub record IsReportOf (g : Game) (r : Run D O U A) (e : IsEnded g r) (l : Lines) : Type 0 where
    pub run : IsRunOf g l
    pub history : IsHistoryOf (group_of g e.running.nodes e.running.emissions) l.turns
    pub emissions : l.emissions ≡ emissions_of r.stations.items
    pub emitted : (v : ℕ) → v < g.nodes → emitted_by v l.emissions ≡ emitted_by v e.running.emissions
    pub restarts : l.restarts ≡ restarts_from 0 r.stations.items
    pub ending : l.ending ≡ ending_of (waits_in g e.running.nodes)
