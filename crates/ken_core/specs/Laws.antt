-- What the definitions keep.
use Rattle.std.specs.Prelude.{◌≡◌, ◌≢◌, ℕ, ◌<◌, List, [], ◌∷◌, Some, Bool}
use Rattle.std.specs.List.{All, AllByRecursion, Contains}
use Rattle.ken_model.specs.declared.reports.TurnLine.{TurnLine}
use Rattle.ken_model.specs.declared.reports.Emission.{Emission}
use Rattle.ken_model.specs.Game.{Game}
use Rattle.ken_model.specs.Limits.{IsWithinLimits}
use Rattle.ken_model.specs.Network.{Turn, outside, start as first_network}
use Rattle.ken_model.specs.Schedule.{IsLegal, play, turn_lines}
use Rattle.ken_model.specs.Emissions.{emitted_by, AreEmitted}
use Rattle.ken_model.specs.Laws.{steps_of}
use Rattle.ken_record.specs.declared.page.Page.{Page}
use Rattle.ken_cover.specs.Covers.{Covers, AreTorn}
use Rattle.ken_core.specs.declared.events.Event.{Event}
use Rattle.ken_core.specs.declared.events.Event.TheVariants.{SealCut, Turnover, Crash, Recover}
use Rattle.ken_core.specs.declared.events.Told.{Told}
use Rattle.ken_core.specs.declared.events.Outcome.{Outcome}
use Rattle.ken_core.specs.declared.events.Outcome.TheVariants.{Whole}
use Rattle.ken_model.specs.Reading.{read_value}
use Rattle.ken_core.specs.Turns.{consumed_from, mails_to, IsPlace}
use Rattle.ken_core.specs.Nodes.{Node, heap_pages}
use Rattle.ken_core.specs.Packets.{Packet, Mail, Answer, Put, Outgoing, nothing, outgoing}
use Rattle.ken_core.specs.Enabled.{MaySeal, MayTurn}
use Rattle.ken_core.specs.Steps.{cut_node, turnover_node, crashed_node, recovered_node}
use Rattle.ken_core.specs.Clusters.{Cluster, start, WasPut, Changes, Step, Goes, IsHistoryOf}
use Rattle.ken_core.specs.Accord.{Accord}
use Rattle.ken_core.specs.Runs.{NodeRun, Ran, RanApart}

abbrev pub StartIsInAccord : Type 0
StartIsInAccord = (g : Game) → IsWithinLimits g → Accord g (start g)

abbrev pub StepKeepsAccord : Type 0
StepKeepsAccord = (g : Game) (w : Cluster) (e : Event) (w2 : Cluster) → Accord g w → Step g w e w2 → Accord g w2

-- whatever the events are
abbrev pub EventsKeepAccord : Type 0
EventsKeepAccord = (g : Game) (w : Cluster) (es : List Event) (w2 : Cluster) → Accord g w → Goes g w es w2 → Accord g w2

-- a call of one node, told as events over packets that it was given, all of which were put
abbrev pub CallKeepsAccord : Type 0
CallKeepsAccord = (g : Game) (w : Cluster) (v : ℕ) (given : List Packet) (es : List Event) (out : Outgoing) (w2 : Cluster) → Accord g w → v < g.nodes → All (WasPut w) given → NodeRun g (Contains given) v (w.node v) es out (w2.node v) → Changes v out w w2 → Accord g w2

-- runs of all nodes with no order between them
abbrev pub RunsKeepAccord : Type 0
RunsKeepAccord = (g : Game) (w w2 : Cluster) → Accord g w → Ran g w w2 → Accord g w2

-- the lines are those of a legal schedule, and playing it gives the same values, stamps, numbers and outputs; what was
-- emitted is what it outputs, in order but for repeats
pub record IsPlayedBy (g : Game) (w : Cluster) (lines : List TurnLine) : Type 0 where
  pub legal : IsLegal g (steps_of lines)
  pub lines_are : turn_lines g (first_network g) (steps_of lines) ≡ lines
  pub value : (v : ℕ) → read_value (w.node v).turning.pages.heap ≡ Some ((play g (steps_of lines)).place v).value
  pub place : (v : ℕ) → IsPlace (w.node v).turning.turns ((play g (steps_of lines)).place v)
  pub sent : (u v : ℕ) → u ≢ outside → mails_to u v (w.node u).turning.turns ≡ ((play g (steps_of lines)).link u v).sent
  pub taken : (u v : ℕ) → consumed_from u (w.node v).turning.turns ≡ ((play g (steps_of lines)).link u v).taken
  pub emitted : (v : ℕ) → AreEmitted ((play g (steps_of lines)).place v).outs 0 (emitted_by v w.emissions)
  pub emitters : AllByRecursion (λ (e : Emission). e.node < g.nodes) w.emissions

abbrev pub HistoryIsLegal : Type 0
HistoryIsLegal = (g : Game) (w : Cluster) (lines : List TurnLine) → Accord g w → IsHistoryOf w lines → IsPlayedBy g w lines

-- a restart: the crash left these bytes on the open pages, and the node recovered
abbrev pub restarted_node : List Page → Node → Node
restarted_node torn n = recovered_node (crashed_node torn n)

-- a seal that is in doubt: whichever the disk shows, it is a cut seal, then a crash and a recovery
abbrev pub SealInDoubt : Type 0
SealInDoubt = (g : Game) (given : List Packet) (v : ℕ) (n : Node) (from : ℕ) (draws : List ℕ) (pages torn : List Page) (t : Turn) (landed : Bool) → MaySeal g (Contains given) v n from draws pages t → AreTorn n.patching torn
    → NodeRun g (Contains given) v n (SealCut v from draws pages landed ∷ Crash v torn ∷ Recover v ∷ []) nothing (restarted_node torn (cut_node landed v t pages n))

-- and a turnover
abbrev pub TurnoverInDoubt : Type 0
TurnoverInDoubt = (g : Game) (given : List Packet) (v : ℕ) (n : Node) (outcome : Outcome) (told : Told) (torn : List Page) → outcome ≢ Whole → MayTurn g n told → AreTorn n.patching torn
    → NodeRun g (Contains given) v n (Turnover v outcome told ∷ Crash v torn ∷ Recover v ∷ []) nothing (restarted_node torn (turnover_node outcome (heap_pages g) told n))

-- recovery after a crash, whatever it left on the open pages, gives the heap back
abbrev pub RestartKeepsHeap : Type 0
RestartKeepsHeap = (g : Game) (n : Node) (torn : List Page) → Covers (heap_pages g) n.turning.up n.turning.pages n.patching → AreTorn n.patching torn → (restarted_node torn n).turning.pages.heap ≡ n.turning.pages.heap

-- a mail that is put is one of those that its sender has sealed for the receiver, and an acknowledgement says what it has
-- consumed
abbrev pub IsHandedIn : Put → Packet → Type 0
IsHandedIn p (Mail m) = Contains p.sealed m
IsHandedIn p (Answer a) = a.through ≡ p.consumed

abbrev pub PutsAreHandedIn : Type 0
PutsAreHandedIn = (v : ℕ) (n : Node) (e : Event) → All (λ (p : Put). IsHandedIn p p.packet) (outgoing v n e).puts

-- runs of all nodes with no order between them, told by what the nodes are in the end alone
abbrev pub RunsApartKeepAccord : Type 0
RunsApartKeepAccord = (g : Game) (w w2 : Cluster) → Accord g w → RanApart g w w2 → Accord g w2
