-- What all nodes made at once, each by a run over the packets that it was given.
use Rattle.std.specs.Prelude.{◌≡◌, ℕ, ◌<◌, ◌≤◌, ◌⊎◌, List, [], ◌++◌}
use Rattle.std.specs.List.{All, AllByRecursion, Contains}
use Rattle.ken_model.specs.declared.reports.Emission.{Emission}
use Rattle.ken_model.specs.Emissions.{emitted_by}
use Rattle.ken_model.specs.Game.{Game}
use Rattle.ken_core.specs.declared.events.Event.{Event}
use Rattle.ken_core.specs.Accord.{Accord}
use Rattle.ken_core.specs.Clusters.{WasPut}
use Rattle.ken_core.specs.Nodes.{Node}
use Rattle.ken_core.specs.Packets.{Packet, Mail, Answer, Outgoing}
use Rattle.ken_core.specs.Packets as core
use Rattle.ken_core.specs.Runs.{IsPut, NodeRun}
use Rattle.ken_flow.specs.Groups.{group_of}

-- runs of all nodes, which led each to another
pub record AllRan (g : Game) (nodes nodes2 : ℕ → Node) : Type 0 where
  pub given : ℕ → List Packet
  pub events : ℕ → List Event
  pub out : ℕ → Outgoing
  pub runs : (v : ℕ) → NodeRun g (Contains (given v)) v (nodes v) (events v) (out v) (nodes2 v)
  pub nobody : (v : ℕ) → g.nodes ≤ v → events v ≡ []

-- an acknowledgement by node u that goes at least as far was put
pub record IsAnswered (out : ℕ → Outgoing) (u to through : ℕ) : Type 0 where
  pub from : ℕ
  pub further : ℕ
  pub far : through ≤ further
  pub put : IsPut (Answer (record { from = from; to = to; through = further })) (out u).puts

-- a packet comes from these runs: a mail that one of them put, or an acknowledgement of which its sender put one that goes as far
abbrev pub ComesOf : ℕ → (ℕ → Outgoing) → Packet → Type 0
ComesOf nodes out (Mail m) = (u : ℕ) × ((u < nodes) × IsPut (Mail m) (out u).puts)
ComesOf nodes out (Answer a) = (a.from < nodes) × IsAnswered out a.from a.to a.through

-- the group is in accord then, and all that its nodes put was put
pub record KeepGroup (g : Game) (nodes nodes2 : ℕ → Node) (emissions2 : List Emission) (ran : AllRan g nodes nodes2) : Type 0 where
  pub accord : Accord g (group_of g nodes2 emissions2)
  pub puts : (u : ℕ) → u < g.nodes → All (λ (p : core.Put). WasPut (group_of g nodes2 emissions2) p.packet) (ran.out u).puts

-- where each packet that a node was given was put before, or comes from these runs, in whatever order their events were
abbrev pub RoundsKeepGroup : Type 0
RoundsKeepGroup =
    (g : Game) (nodes nodes2 : ℕ → Node) (emissions emissions2 : List Emission) (ran : AllRan g nodes nodes2) → Accord g (group_of g nodes emissions)
    → ((v : ℕ) → All (λ (p : Packet). WasPut (group_of g nodes emissions) p ⊎ ComesOf g.nodes ran.out p) (ran.given v))
    → ((v : ℕ) → emitted_by v emissions2 ≡ emitted_by v emissions ++ (ran.out v).outs) → AllByRecursion (λ (e : Emission). e.node < g.nodes) emissions2
    → KeepGroup g nodes nodes2 emissions2 ran
