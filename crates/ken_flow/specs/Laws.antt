-- What holds of the group of a run's nodes, and of what is on its way between them.
use Rattle.std.specs.Prelude.{◌≡◌, ℕ, ◌<◌, ◌≤◌, List, [], ◌∷◌, ◌++◌, length, replicate}
use Rattle.std.specs.List.{All, AllByRecursion, Contains}
use Rattle.ken_model.specs.declared.reports.Emission.{Emission}
use Rattle.ken_model.specs.Emissions.{emitted_by}
use Rattle.ken_model.specs.Game.{Game}
use Rattle.ken_model.specs.Limits.{IsWithinLimits}
use Rattle.ken_packet.specs.Reading.{packet_of}
use Rattle.ken_net.specs.declared.act.LinkAct.{LinkAct}
use Rattle.ken_net.specs.History.{AreNew}
use Rattle.ken_net.specs.Inboxes.{all_filed, Gave}
use Rattle.ken_net.specs.Puts.{Put}
use Rattle.ken_net.specs.Standings.{Standing, Leaving, after_puts, all_passed}
use Rattle.ken_core.specs.declared.events.Event.{Event}
use Rattle.ken_core.specs.Accord.{Accord}
use Rattle.ken_core.specs.Clusters.{Cluster, WasPut, emissions_by}
use Rattle.ken_core.specs.Nodes.{Node, first_node}
use Rattle.ken_core.specs.Packets as core
use Rattle.ken_core.specs.Packets.{Packet, Answer, Receipt, Outgoing}
use Rattle.ken_core.specs.Runs.{NodeRun}
use Rattle.ken_core.specs.Turns.{mails_to}
use Rattle.ken_ship.specs.Laws.{packet_from, packets_from}
use Rattle.ken_flow.specs.Flows.{IsKnown, AreKnown, KeepKnown, PutsAreKnown}
use Rattle.ken_flow.specs.Groups.{group_of, with_node}

-- nodes at the start are in accord
abbrev pub FirstIsInAccord : Type 0
FirstIsInAccord = (g : Game) → IsWithinLimits g → Accord g (group_of g (λ v. first_node g) [])

-- a call of one node, told as events over packets that it was given, all of which were put, keeps accord
abbrev pub CallKeepsGroup : Type 0
CallKeepsGroup = (g : Game) (nodes : ℕ → Node) (emissions : List Emission) (v : ℕ) (given : List Packet) (es : List Event) (out : Outgoing) (after : Node) → Accord g (group_of g nodes emissions) → v < g.nodes → All (WasPut (group_of g nodes emissions)) given → NodeRun g (Contains given) v (nodes v) es out after
    → Accord g (group_of g (with_node v after nodes) (emissions ++ emissions_by v out.outs))

-- runs of all nodes at once, in whatever order their events were, over packets that were put in the end, keep accord
abbrev pub RunsKeepGroup : Type 0
RunsKeepGroup =
    (g : Game) (nodes nodes2 : ℕ → Node) (emissions emissions2 : List Emission) (events : ℕ → List Event) (out : ℕ → Outgoing) → Accord g (group_of g nodes emissions)
    → ((v : ℕ) → NodeRun g (WasPut (group_of g nodes2 emissions2)) v (nodes v) (events v) (out v) (nodes2 v)) → ((v : ℕ) → g.nodes ≤ v → events v ≡ [])
    → ((v : ℕ) → emitted_by v emissions2 ≡ emitted_by v emissions ++ (out v).outs) → AllByRecursion (λ (e : Emission). e.node < g.nodes) emissions2
    → Accord g (group_of g nodes2 emissions2)

-- what was put stays put, whatever a node does and was given
abbrev pub PutStaysPut : Type 0
PutStaysPut = (g : Game) (nodes : ℕ → Node) (emissions emissions2 : List Emission) (v : ℕ) (given : List Packet) (es : List Event) (out : Outgoing) (after : Node) → NodeRun g (Contains given) v (nodes v) es out after
    → (p : Packet) → WasPut (group_of g nodes emissions) p → WasPut (group_of g (with_node v after nodes) emissions2) p

-- and what it puts was put
abbrev pub PutsArePut : Type 0
PutsArePut = (g : Game) (nodes : ℕ → Node) (emissions emissions2 : List Emission) (v : ℕ) (given : List Packet) (es : List Event) (out : Outgoing) (after : Node) → Accord g (group_of g nodes emissions) → v < g.nodes → NodeRun g (Contains given) v (nodes v) es out after
    → All (λ (p : core.Put). WasPut (group_of g (with_node v after nodes) emissions2) p.packet) out.puts

-- an acknowledgement to a node that was put goes no further than what the node has sealed
abbrev pub AcksGoNoFurther : Type 0
AcksGoNoFurther = (g : Game) (nodes : ℕ → Node) (emissions : List Emission) (v : ℕ) (a : Receipt) → Accord g (group_of g nodes emissions) → v < g.nodes → WasPut (group_of g nodes emissions) (Answer a) → a.to ≡ v → a.through ≤ length (mails_to v a.from (nodes v).turning.turns)

-- what is known of one group is known of another
pub record StaysKnown (g : Game) (w w2 : Cluster) : Type 0 where
  pub bytes : (bytes : List ℕ) → IsKnown g w bytes → IsKnown g w2 bytes
  pub boxes : (boxes : List (List (List ℕ))) → AreKnown g w boxes → AreKnown g w2 boxes
  pub links : (links : List Standing) → KeepKnown g w links → KeepKnown g w2 links

-- it is where what was put stays put
abbrev pub KnownStays : Type 0
KnownStays = (g : Game) (w w2 : Cluster) → ((p : Packet) → WasPut w p → WasPut w2 p) → StaysKnown g w w2

-- of known inboxes, what was given was put, and what is left is known
abbrev pub GivenAreKnown : Type 0
GivenAreKnown = (g : Game) (w : Cluster) (v : ℕ) (old new : List (List (List ℕ))) (given : List (List ℕ)) → AreKnown g w old → Gave v old new given → AreKnown g w new × All (WasPut w) (packets_from g.nodes given)

-- after puts on links, all that they passed on and keep is known, and so are the inboxes that it is filed in
pub record ArePassed (g : Game) (w : Cluster) (puts : List Put) (links : List Standing) : Type 0 where
  pub passed : PutsAreKnown g w (all_passed puts links)
  pub kept : KeepKnown g w (after_puts puts links)
  pub filed : (boxes : List (List (List ℕ))) → AreKnown g w boxes → AreKnown g w (all_filed (all_passed puts links) boxes)

abbrev pub PassedAreKnown : Type 0
PassedAreKnown = (g : Game) (w : Cluster) (puts : List Put) (links : List Standing) → PutsAreKnown g w puts → KeepKnown g w links → ArePassed g w puts links

-- empty inboxes and new links have nothing unknown
pub record StartsKnown (g : Game) (w : Cluster) : Type 0 where
  pub boxes : (n : ℕ) → AreKnown g w (replicate n [])
  pub links : (from nodes : ℕ) (acts : List LinkAct) (l : Leaving) → AreNew from nodes acts l → KeepKnown g w l.links

abbrev pub FirstAreKnown : Type 0
FirstAreKnown = (g : Game) (w : Cluster) → StartsKnown g w

-- bytes that spell a packet that was put are known
abbrev pub SpelledAreKnown : Type 0
SpelledAreKnown = (g : Game) (w : Cluster) (p : Put) (q : core.Put) → packet_from g.nodes (packet_of p.bytes) ≡ q.packet ∷ [] → WasPut w q.packet → IsKnown g w p.bytes
