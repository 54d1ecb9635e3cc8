-- Events of one node after each other, and events of all nodes without an order between them.
use Rattle.std.specs.Prelude.{◌≡◌, ℕ, ◌-◌, ◌<◌, ◌≤◌, ◌⊎◌, List, [], ◌∷◌, ◌++◌, Some, IsTrue, slice_get}
use Rattle.std.specs.List.{AllByRecursion, Contains}
use Rattle.ken_model.specs.declared.messages.Message.{Message}
use Rattle.ken_model.specs.declared.reports.Emission.{Emission}
use Rattle.ken_model.specs.Game.{Game}
use Rattle.ken_model.specs.Emissions.{emitted_by}
use Rattle.ken_core.specs.declared.events.Event.{Event}
use Rattle.ken_core.specs.Nodes.{Node}
use Rattle.ken_core.specs.Packets.{Packet, Mail, Answer, Put, Outgoing, nothing, one_after_other, outgoing}
use Rattle.ken_core.specs.Steps.{NodeStep}
use Rattle.ken_core.specs.Clusters.{Cluster, WasPut, node_of}
use Rattle.ken_core.specs.Accord.{IsAt}
use Rattle.ken_core.specs.Turns.{consumed_from, mails_to}

-- events of node v, each enabled in its place where these packets were put, lead from n to n2, and put and emit this
abbrev pub NodeRun : Game → (Packet → Type 0) → ℕ → Node → List Event → Outgoing → Node → Type 0
NodeRun g put v n [] out n2 = (out ≡ nothing) × (n2 ≡ n)
NodeRun g put v n (e ∷ es) out n2 = (mid : Node) × ((later : Outgoing) × ((node_of e ≡ v) × NodeStep g put v n e mid × (out ≡ one_after_other (outgoing v n e) later) × NodeRun g put v mid es later n2))

-- the packet is one of those that were put
pub record IsPut (packet : Packet) (puts : List Put) : Type 0 where
  pub put : Put
  pub one : Contains puts put
  pub is : put.packet ≡ packet

-- the sender of a packet
abbrev pub sender_of : Packet → ℕ
sender_of (Mail m) = m.from
sender_of (Answer a) = a.from

-- what was put in the end was put before or in a run, and each node emitted what it had, and then what its run did
pub record Becomes (g : Game) (out : ℕ → Outgoing) (w w2 : Cluster) : Type 0 where
  pub mail : (u v number : ℕ) (m : Message) → w2.mail u v number ≡ Some m → (w.mail u v number ≡ Some m) ⊎ (IsAt u v number m × IsPut (Mail m) (out u).puts)
  pub answer : (u v through : ℕ) → IsTrue (w2.answer u v through) → IsTrue (w.answer u v through) ⊎ IsPut (Answer (record { from = u; to = v; through = through })) (out u).puts
  pub emitted : (v : ℕ) → emitted_by v w2.emissions ≡ emitted_by v w.emissions ++ (out v).outs
  pub emitters : AllByRecursion (λ (e : Emission). e.node < g.nodes) w.emissions → AllByRecursion (λ (e : Emission). e.node < g.nodes) w2.emissions

-- a packet was put before, or by its sender's run
abbrev pub IsOut : Cluster → (ℕ → Outgoing) → Packet → Type 0
IsOut w out packet = WasPut w packet ⊎ IsPut packet (out (sender_of packet)).puts

-- a run of each node, in whatever order their events were: w became w2, and each packet that one of them took was put before
-- or in some run, its own too
pub record Ran (g : Game) (w w2 : Cluster) : Type 0 where
  pub events : ℕ → List Event
  pub out : ℕ → Outgoing
  pub runs : (v : ℕ) → NodeRun g (IsOut w out) v (w.node v) (events v) (out v) (w2.node v)
  pub nobody : (v : ℕ) → g.nodes ≤ v → events v ≡ []
  pub rest : Becomes g out w w2

-- a message that its sender, a node of the run, has sealed under its number
pub record IsSealedBy (g : Game) (nodes : ℕ → Node) (m : Message) : Type 0 where
  pub known : m.from < g.nodes
  pub number : 0 < m.number
  pub stands : slice_get (mails_to m.from m.to (nodes m.from).turning.turns) (m.number - 1) ≡ Some m

-- a packet that these nodes may put: a mail that is sealed, or an acknowledgement through no more than is consumed
abbrev pub MayCome : Game → (ℕ → Node) → Packet → Type 0
MayCome g nodes (Mail m) = IsSealedBy g nodes m
MayCome g nodes (Answer a) = (a.from < g.nodes) × (a.through ≤ consumed_from a.to (nodes a.from).turning.turns)

-- a run of each node, in whatever order their events were, where each packet that one of them took is one that the nodes may put in
-- the end
pub record RanApart (g : Game) (w w2 : Cluster) : Type 0 where
  pub events : ℕ → List Event
  pub out : ℕ → Outgoing
  pub runs : (v : ℕ) → NodeRun g (MayCome g w2.node) v (w.node v) (events v) (out v) (w2.node v)
  pub nobody : (v : ℕ) → g.nodes ≤ v → events v ≡ []
  pub mail : (u v number : ℕ) (m : Message) → w2.mail u v number ≡ Some m → IsAt u v number m × MayCome g w2.node (Mail m)
  pub answer : (u v through : ℕ) → IsTrue (w2.answer u v through) → MayCome g w2.node (Answer (record { from = u; to = v; through = through }))
  pub emitted : (v : ℕ) → emitted_by v w2.emissions ≡ emitted_by v w.emissions ++ (out v).outs
  pub emitters : AllByRecursion (λ (e : Emission). e.node < g.nodes) w.emissions → AllByRecursion (λ (e : Emission). e.node < g.nodes) w2.emissions
