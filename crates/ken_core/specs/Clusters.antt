-- A group of nodes, and what each event makes of it.
use Rattle.std.specs.Prelude.{◌≡◌, ◌≢◌, ℕ, ◌<◌, ◌⊎◌, List, [], ◌∷◌, ◌++◌, map, ◌==◌, ◌&&◌, if◌then◌else◌, Bool, true, false, IsTrue, Option, Some, None}
use Rattle.ken_model.specs.declared.messages.Message.{Message}
use Rattle.ken_model.specs.declared.messages.Out.{Out}
use Rattle.ken_model.specs.declared.reports.Emission.{Emission}
use Rattle.ken_model.specs.declared.reports.TurnLine.{TurnLine}
use Rattle.ken_model.specs.Game.{Game}
use Rattle.ken_model.specs.History.{lines_by, Rises}
use Rattle.ken_core.specs.declared.events.Event.{Event}
use Rattle.ken_core.specs.declared.events.Event.TheVariants.{Seal, SealCut, Patch, SyncImage, Turnover, Send, Ack, TakeAck, Emit, Crash, Recover}
use Rattle.ken_core.specs.Turns.{effects_line}
use Rattle.ken_core.specs.Nodes.{Node, first_node}
use Rattle.ken_core.specs.Packets.{Packet, Mail, Answer, Put, Outgoing, outgoing}
use Rattle.ken_core.specs.Steps.{NodeStep}

-- the nodes, and beside them all packets ever put, as a set: of each link and number the mail, where it was put, and whether
-- an acknowledgement was; and all emissions, in order
pub record Cluster : Type 0 where
  pub node : ℕ → Node
  pub mail : ℕ → ℕ → ℕ → Option Message
  pub answer : ℕ → ℕ → ℕ → Bool
  pub emissions : List Emission

-- every node is created, and nothing is sealed, put or emitted
abbrev pub start : Game → Cluster
start g = record { node = λ v. first_node g; mail = λ u v number. None; answer = λ u v through. false; emissions = [] }

-- a packet was put
abbrev pub WasPut : Cluster → Packet → Type 0
WasPut w (Mail m) = w.mail m.from m.to m.number ≡ Some m
WasPut w (Answer a) = IsTrue (w.answer a.from a.to a.through)

-- the mail of a link and number, after one more packet was put
abbrev pub mail_put : ℕ → ℕ → ℕ → Packet → Option Message → Option Message
mail_put u v number (Mail m) old = if m.from == u && m.to == v && m.number == number then Some m else old
mail_put u v number (Answer a) old = old

abbrev pub mail_after : ℕ → ℕ → ℕ → List Put → Option Message → Option Message
mail_after u v number [] old = old
mail_after u v number (p ∷ ps) old = mail_after u v number ps (mail_put u v number p.packet old)

-- whether an acknowledgement was put, after one more packet
abbrev pub answer_put : ℕ → ℕ → ℕ → Packet → Bool → Bool
answer_put u v through (Mail m) old = old
answer_put u v through (Answer a) old = if a.from == u && a.to == v && a.through == through then true else old

abbrev pub answer_after : ℕ → ℕ → ℕ → List Put → Bool → Bool
answer_after u v through [] old = old
answer_after u v through (p ∷ ps) old = answer_after u v through ps (answer_put u v through p.packet old)

abbrev pub emissions_by : ℕ → List Out → List Emission
emissions_by v outs = map (λ (o : Out). record { node = v; out = o }) outs

-- the node at which an event happens
abbrev pub node_of : Event → ℕ
node_of (Seal node from draws pages) = node
node_of (SealCut node from draws pages landed) = node
node_of (Patch node page) = node
node_of (SyncImage node) = node
node_of (Turnover node outcome told) = node
node_of (Send node to i) = node
node_of (Ack node from) = node
node_of (TakeAck node from through) = node
node_of (Emit node) = node
node_of (Crash node pages) = node
node_of (Recover node) = node

-- only node v changed, which put and emitted this
pub record Changes (v : ℕ) (out : Outgoing) (w w2 : Cluster) : Type 0 where
  pub others : (u : ℕ) → u ≢ v → w2.node u ≡ w.node u
  pub mail : (from to number : ℕ) → w2.mail from to number ≡ mail_after from to number out.puts (w.mail from to number)
  pub answer : (from to through : ℕ) → w2.answer from to through ≡ answer_after from to through out.puts (w.answer from to through)
  pub emissions : w2.emissions ≡ w.emissions ++ emissions_by v out.outs

-- the event is enabled, and makes w2 of w
pub record Step (g : Game) (w : Cluster) (e : Event) (w2 : Cluster) : Type 0 where
  pub known : node_of e < g.nodes
  pub node : NodeStep g (WasPut w) (node_of e) (w.node (node_of e)) e (w2.node (node_of e))
  pub rest : Changes (node_of e) (outgoing (node_of e) (w.node (node_of e)) e) w w2

-- the event isn't enabled
abbrev pub IsBarred : Game → Cluster → Event → Type 0
IsBarred g w e = (w2 : Cluster) → Step g w e w2 → ⊥

-- the group after a list of events, where those that aren't enabled change nothing
abbrev pub Goes : Game → Cluster → List Event → Cluster → Type 0
Goes g w [] w2 = w2 ≡ w
Goes g w (e ∷ es) w2 = (mid : Cluster) × ((Step g w e mid ⊎ (IsBarred g w e × (mid ≡ w))) × Goes g mid es w2)

-- the lines are those of each node's sealed turns, in the order of (stamp, node)
pub record IsHistoryOf (w : Cluster) (lines : List TurnLine) : Type 0 where
  pub parts : (v : ℕ) → lines_by v lines ≡ map (effects_line v) (w.node v).turning.turns
  pub rises : Rises 0 0 lines
