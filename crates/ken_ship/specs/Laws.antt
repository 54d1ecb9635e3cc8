-- What the calls of an externaliser are as events of its node.
use Rattle.std.specs.Prelude.{◌≡◌, ℕ, ◌<◌, ◌≤◌, ◌⊎◌, nat_lt, if◌then◌else◌, List, [], ◌∷◌, ◌++◌, map, drop, length, slice_index, slice_index_or, Option, Some, None, IsTrue}
use Rattle.std.specs.List.{AllByRecursion, Contains, flat_map}
use Rattle.ken_model.specs.declared.messages.Message.{Message}
use Rattle.ken_model.specs.declared.messages.Out.{Out}
use Rattle.ken_model.specs.declared.states.State.{State}
use Rattle.ken_model.specs.Game.{Game}
use Rattle.ken_model.specs.Network.{Turn}
use Rattle.ken_record.specs.declared.effects.Effects.{Effects}
use Rattle.ken_packet.specs.declared.packet.Packet.{Packet as Spelled}
use Rattle.ken_packet.specs.declared.packet.Packet.TheVariants.{Mail as SpelledMail, Ack}
use Rattle.ken_packet.specs.Reading.{packet_of}
use Rattle.ken_net.specs.Puts.{Put}
use Rattle.ken_outbox.specs.Waiting.{Unacked, Waiting, no_line, sent_to, resumed, nothing as nothing_waits}
use Rattle.ken_core.specs.declared.events.Event.{Event}
use Rattle.ken_core.specs.declared.events.Event.TheVariants.{TakeAck}
use Rattle.ken_core.specs.Turns.{mails_to, outs_of, sealed}
use Rattle.ken_core.specs.Nodes.{Node, first_node}
use Rattle.ken_core.specs.Packets.{Packet, Mail, Answer, Outgoing, put_by, nothing}
use Rattle.ken_core.specs.Steps.{emitted_node}
use Rattle.ken_core.specs.Calls.{Call, AreSends, AreSomeSends, AreTaken, IsEmit}
use Rattle.ken_ship.specs.declared.items.Sealed.{Sealed}
use Rattle.ken_ship.specs.Handing.{mails_of, with_turn, with_turns}
use Rattle.ken_ship.specs.Sending.{mail_put, all_due}
use Rattle.ken_ship.specs.Taking.{acks_in, acks_taken, after_acks, handed_by}

-- a line has what v sent past a number
pub record IsPast (acked : ℕ) (sent : List Message) (l : Unacked) : Type 0 where
  pub number : l.acked ≡ acked
  pub waits : l.messages ≡ drop acked sent

-- what an externaliser was handed is what the turns of its node v, which is up, sent and output: what waits of it is what
-- the node has past the acknowledged and emitted numbers
pub record IsDueOf (g : Game) (v : ℕ) (n : Node) (w : Waiting) : Type 0 where
  pub up : IsTrue n.turning.up
  pub own : List Turn
  pub turns : n.turning.turns ≡ sealed v own
  pub width : length n.sending.acked ≡ g.nodes
  pub lines : (u : ℕ) → u < g.nodes → IsPast (slice_index n.sending.acked u) (mails_to v u n.turning.turns) (slice_index_or w.lines u no_line)
  pub long : g.nodes ≤ length w.lines
  pub emitted : w.emitted ≡ n.sending.emitted
  pub outs : w.outs ≡ drop n.sending.emitted (outs_of n.turning.turns)

-- what node v puts where it sends these
abbrev pub mails_out : ℕ → Node → List Message → Outgoing
mails_out v n messages = record { puts = map (λ (m : Message). put_by v m.to n (Mail m)) messages; outs = [] }

-- the node's run of events that puts these
pub record IsSending (g : Game) (v : ℕ) (n : Node) (says : List Event → Type 0) (puts : List Put) : Type 0 where
  pub messages : List Message
  pub put : puts ≡ map mail_put messages
  pub call : Call g v [] says n (mails_out v n messages) n

-- where all that is due was put, it was sent
abbrev pub SendsAreEvents : Type 0
SendsAreEvents = (g : Game) (v : ℕ) (n : Node) (w : Waiting) → IsDueOf g v n w → IsSending g v n (AreSends g v n) (map mail_put (all_due g.nodes w.lines))

-- and where a front of it was, some of it
abbrev pub SomeSendsAreEvents : Type 0
SomeSendsAreEvents = (g : Game) (v : ℕ) (n : Node) (w : Waiting) (puts rest : List Put) → IsDueOf g v n w → map mail_put (all_due g.nodes w.lines) ≡ puts ++ rest → IsSending g v n (AreSomeSends g v n) puts

-- the packet that bytes are, where it is one from one of so many nodes
abbrev pub packet_from : ℕ → Option Spelled → List Packet
packet_from nodes (Some (SpelledMail m)) = if nat_lt m.from nodes then Mail m ∷ [] else []
packet_from nodes (Some (Ack from to through)) = if nat_lt from nodes then Answer (record { from = from; to = to; through = through }) ∷ [] else []
packet_from nodes None = []

abbrev pub packets_from : ℕ → List (List ℕ) → List Packet
packets_from nodes given = flat_map (λ (bytes : List ℕ). packet_from nodes (packet_of bytes)) given

-- node v takes these acknowledgements, one after the other
abbrev pub TakeThese : ℕ → List (ℕ × ℕ) → List Event → Type 0
TakeThese v acks es = es ≡ map (λ (a : ℕ × ℕ). TakeAck v a.0 a.1) acks

-- the run of those acknowledgements that were taken, which changes nothing but the acknowledged numbers
pub record IsTaking (g : Game) (v : ℕ) (n : Node) (given : List (List ℕ)) (w : Waiting) : Type 0 where
  pub after : Node
  pub call : Call g v (packets_from g.nodes given) (TakeThese v (acks_taken (acks_in v g.nodes given) w.lines)) n nothing after
  pub acked : List ℕ
  pub changes : after ≡ record n { sending = record n.sending { acked = acked } }
  pub due : IsDueOf g v after (record w { lines = after_acks (acks_in v g.nodes given) w.lines })

abbrev pub AcksAreEvents : Type 0
AcksAreEvents = (g : Game) (v : ℕ) (n : Node) (w : Waiting) (given : List (List ℕ)) → IsDueOf g v n w → IsTaking g v n given w

-- how far the messages to a node go that an externaliser was handed
abbrev pub handed_to : Waiting → ℕ → ℕ
handed_to w u = handed_by (slice_index_or w.lines u no_line)

-- acknowledgements, each by its sender and how far it goes: they go no further than that
abbrev pub GoNoFurther : Waiting → List (ℕ × ℕ) → Type 0
GoNoFurther w acks = AllByRecursion (λ (a : ℕ × ℕ). a.1 ≤ handed_to w a.0) acks

-- where none of those that were given goes further, all are taken
abbrev pub AllAreTaken : Type 0
AllAreTaken = (g : Game) (v : ℕ) (n : Node) (w : Waiting) (given : List (List ℕ)) → IsDueOf g v n w → GoNoFurther w (acks_in v g.nodes given)
    → (es : List Event) → TakeThese v (acks_taken (acks_in v g.nodes given) w.lines) es → AreTaken v (packets_from g.nodes given) es

-- an emission, which changes nothing but the emitted number
pub record IsEmitting (g : Game) (v : ℕ) (n : Node) (out : Out) (w : Waiting) : Type 0 where
  pub call : Call g v [] (IsEmit v) n (record { puts = []; outs = out ∷ [] }) (emitted_node n)
  pub due : IsDueOf g v (emitted_node n) w

abbrev pub EmissionIsEvent : Type 0
EmissionIsEvent = (g : Game) (v : ℕ) (n : Node) (w : Waiting) (out : Out) (rest : List Out) → IsDueOf g v n w → w.outs ≡ out ∷ rest → IsEmitting g v n out (record w { emitted = out.number; outs = rest })

-- nothing waits at the start
abbrev pub NothingIsDueFirst : Type 0
NothingIsDueFirst = (g : Game) (v : ℕ) → g.nodes ≤ 8 → IsDueOf g v (first_node g) (nothing_waits 8)

-- what happens to a node's pages, its log and its other numbers changes nothing of it
abbrev pub OthersKeepDue : Type 0
OthersKeepDue = (g : Game) (v : ℕ) (n n2 : Node) (w : Waiting) → IsDueOf g v n w → IsTrue n2.turning.up → n2.turning.turns ≡ n.turning.turns → n2.sending ≡ n.sending → IsDueOf g v n2 w

-- the turn that was handed over is this one of the node's
pub record IsTurnOf (s : Sealed) (e : Effects) : Type 0 where
  pub stamp : s.stamp ≡ e.stamp
  pub sends : s.sends ≡ e.sends
  pub outs : s.outs ≡ e.outs

-- the node sent and output what is acknowledged and emitted
pub record HasSent (g : Game) (v : ℕ) (n : Node) : Type 0 where
  pub acked : (u : ℕ) → u < g.nodes → slice_index n.sending.acked u ≤ length (mails_to v u n.turning.turns)
  pub emitted : n.sending.emitted ≤ length (outs_of n.turning.turns)

-- where the node seals a turn more, which is handed over, what waits is again what it has
abbrev pub HandedOverIsDue : Type 0
HandedOverIsDue = (g : Game) (v : ℕ) (n n2 : Node) (w : Waiting) (s : Sealed) (e : Effects) (own : List Turn) → IsDueOf g v n w → HasSent g v n → IsTrue n2.turning.up → n2.turning.turns ≡ n.turning.turns ++ e ∷ [] → n2.turning.turns ≡ sealed v own → n2.sending ≡ n.sending → IsTurnOf s e → IsDueOf g v n2 (with_turn v s w)

-- a state has what the node sent and output, and of it what isn't acknowledged or emitted
pub record IsStateOf (g : Game) (v : ℕ) (n : Node) (s : State) : Type 0 where
  pub width : length s.sent ≡ 8
  pub sent : (u : ℕ) → u < g.nodes → slice_index s.sent u ≡ length (mails_to v u n.turning.turns)
  pub messages : (u : ℕ) → u < g.nodes → sent_to u s.messages ≡ drop (slice_index n.sending.acked u) (mails_to v u n.turning.turns)
  pub outputs : s.outputs ≡ length (outs_of n.turning.turns)
  pub outs : s.outs ≡ drop n.sending.emitted (outs_of n.turning.turns)

-- what waits where such a state resumes is what the node has
abbrev pub ResumedIsDue : Type 0
ResumedIsDue = (g : Game) (v : ℕ) (n : Node) (s : State) (own : List Turn) → g.nodes ≤ 8 → IsTrue n.turning.up → n.turning.turns ≡ sealed v own → length n.sending.acked ≡ g.nodes → HasSent g v n → IsStateOf g v n s → IsDueOf g v n (resumed 8 s)

-- the line of a node
abbrev pub line_of : List Unacked → ℕ → Unacked
line_of lines u = slice_index_or lines u no_line

-- whatever acknowledgements are taken, no acknowledged number falls
abbrev pub NumbersRise : Type 0
NumbersRise = (acks : List (ℕ × ℕ)) (lines : List Unacked) (u : ℕ) → (line_of lines u).acked ≤ (line_of (after_acks acks lines) u).acked

-- and each is what it was, or what one of them says
abbrev pub NumbersWereTold : Type 0
NumbersWereTold = (acks : List (ℕ × ℕ)) (lines : List Unacked) (u : ℕ) → ((line_of (after_acks acks lines) u).acked ≡ (line_of lines u).acked) ⊎ Contains acks (u, (line_of (after_acks acks lines) u).acked)

-- what waits then waited before
abbrev pub WaitedBefore : Type 0
WaitedBefore = (acks : List (ℕ × ℕ)) (lines : List Unacked) (u : ℕ) (m : Message) → Contains (line_of (after_acks acks lines) u).messages m → Contains (line_of lines u).messages m

-- a message to u that one of these turns of v sent
pub record WasSentBy (v : ℕ) (turns : List Sealed) (u : ℕ) (m : Message) : Type 0 where
  pub turn : Sealed
  pub one : Contains turns turn
  pub sent : Contains (mails_of v turn) m
  pub to : m.to ≡ u

-- what waits where turns are handed over waited before, or one of them sent it
abbrev pub WasHandedOver : Type 0
WasHandedOver = (v : ℕ) (turns : List Sealed) (w : Waiting) (u : ℕ) (m : Message) → Contains (line_of (with_turns v turns w).lines u).messages m → Contains (line_of w.lines u).messages m ⊎ WasSentBy v turns u m
