-- Passes over the nodes of a run in which nothing happens: then the run has ended.
use Rattle.std.specs.Prelude.{◌≡◌, ◌≢◌, ℕ, ◌+◌, ◌-◌, ◌*◌, ◌^◌, ◌<◌, ◌≤◌, ◌⊎◌, ◌==◌, if◌then◌else◌, max, min, List, [], ◌∷◌, length, slice_get, slice_index, slice_index_or, slice_set, Some, None, sum_by}
use Rattle.std.specs.List.{Contains}
use Rattle.ken_model.specs.declared.messages.Message.{Message}
use Rattle.ken_model.specs.declared.reports.Emission.{Emission}
use Rattle.ken_model.specs.Emissions.{emitted_by, largest_of}
use Rattle.ken_model.specs.Ending.{nodes_of}
use Rattle.ken_model.specs.Game.{Game}
use Rattle.ken_model.specs.Network.{inputs_for, outside}
use Rattle.ken_packet.specs.Reading.{packet_of}
use Rattle.ken_net.specs.declared.act.Act.{Act}
use Rattle.ken_net.specs.declared.act.Act.TheVariants.{Hold}
use Rattle.ken_net.specs.declared.link.Kept.{Kept}
use Rattle.ken_net.specs.History.{AreFor, puts_for}
use Rattle.ken_net.specs.Inboxes.{Gave, all_filed}
use Rattle.ken_net.specs.declared.inbox.TheConstants.{MAX_INBOX}
use Rattle.ken_net.specs.Puts.{Put}
use Rattle.ken_net.specs.Standings.{Standing, act_at, after_puts, all_passed, link_to}
use Rattle.ken_core.specs.Nodes.{Node}
use Rattle.ken_core.specs.Packets.{Packet, Mail, Answer, Receipt}
use Rattle.ken_core.specs.Turns.{consumed_from, mails_to, outs_of}
use Rattle.ken_ship.specs.Laws.{packet_from, packets_from}

-- ---- the nodes of a run and what is on its way between them, at a moment

-- the nodes as the core has them; what waits for each handler, and for each externaliser; the links that leave each node, for mail
-- and for acknowledgements; and how often the output that is due at a node was refused running
pub record Flow : Type 0 where
  pub nodes : ℕ → Node
  pub mail : List (List (List ℕ))
  pub acks : List (List (List ℕ))
  pub mail_links : List (List Standing)
  pub ack_links : List (List Standing)
  pub refusals : List ℕ

-- no act of a link is for the last put that its count can tell, at which the count stands still, and none holds a packet for more
-- than 255 puts
pub record AreModestActs (s : Standing) : Type 0 where
  pub none_last : act_at (2 ^ 64 - 1) s ≡ None
  pub holds : (n k : ℕ) → act_at n s ≡ Some (Hold k) → k < 256

-- a place for each node
pub record HasPlaces (g : Game) (f : Flow) : Type 0 where
  pub mail : length f.mail ≡ g.nodes
  pub acks : length f.acks ≡ g.nodes
  pub mail_links : length f.mail_links ≡ g.nodes
  pub ack_links : length f.ack_links ≡ g.nodes
  pub refusals : length f.refusals ≡ g.nodes
  pub mail_to_each : (v : ℕ) → v < g.nodes → length (slice_index_or f.mail_links v []) ≡ g.nodes
  pub acks_to_each : (v : ℕ) → v < g.nodes → length (slice_index_or f.ack_links v []) ≡ g.nodes
  pub mail_acts : (v w : ℕ) → AreModestActs (link_to w (slice_index_or f.mail_links v []))
  pub ack_acts : (v w : ℕ) → AreModestActs (link_to w (slice_index_or f.ack_links v []))
  pub acked : (v : ℕ) → v < g.nodes → length (f.nodes v).sending.acked ≡ g.nodes

-- no inbox has more than it may
abbrev pub AreShort : List (List (List ℕ)) → Type 0
AreShort boxes = (v : ℕ) → length (slice_index_or boxes v []) ≤ MAX_INBOX

-- ---- how much is still open

-- the number of the last put that has an act
unfoldable pub last_act : List (ℕ × Act) → ℕ
last_act [] = 0
last_act (a ∷ acts) = max a.0 (last_act acts)

-- what a link still has to do beside passing on each packet once: it falls with each put, until it is 0. A packet waits for at most
-- 256 puts, its own among them, and a count goes no further than its last value
abbrev pub left_on : Standing → ℕ
left_on s = 300 * (min (last_act s.acts) (2 ^ 64 - 1) - s.puts) + sum_by (λ (k : Kept). k.wait + 1) s.kept

-- how many messages of v to w are unacknowledged
abbrev pub unacked_to : ℕ → ℕ → Node → ℕ
unacked_to v w n = length (mails_to v w n.turning.turns) - slice_index n.sending.acked w

-- what is open on the links between a node and the others, and of what it has sent them
abbrev pub open_to : Flow → ℕ → ℕ → ℕ
open_to f v w = left_on (link_to w (slice_index_or f.mail_links v [])) + left_on (link_to w (slice_index_or f.ack_links v [])) + unacked_to v w (f.nodes v)

-- and of its outputs: each is refused at most 64 times running before it is emitted
abbrev pub open_outs : Flow → ℕ → ℕ
open_outs f v = 65 * (length (outs_of (f.nodes v).turning.turns) - (f.nodes v).sending.emitted) - slice_index f.refusals v

abbrev pub open_at : Game → Flow → ℕ → ℕ
open_at g f v = sum_by (open_to f v) (nodes_of g) + open_outs f v

-- what is open in all
abbrev pub open_in : Game → Flow → ℕ
open_in g f = sum_by (open_at g f) (nodes_of g)

-- ---- the calls of a visit that make no turn

-- node v seals no turn, and nothing changes at the others
pub record MakesNoTurn (v : ℕ) (nodes nodes2 : ℕ → Node) : Type 0 where
  pub turns : (nodes2 v).turning.turns ≡ (nodes v).turning.turns
  pub others : (u : ℕ) → u ≢ v → nodes2 u ≡ nodes u

-- a packet from a node of the run is one of those that were taken
abbrev pub IsGiven : ℕ → List (List ℕ) → Packet → Type 0
IsGiven nodes given p = Contains (packets_from nodes given) p

-- an acknowledgement by v was put for the sender of a mail, of all that v has consumed of it
pub record IsAnswered (g : Game) (v : ℕ) (n : Node) (puts : List Put) (from : ℕ) : Type 0 where
  pub put : Put
  pub one : Contains puts put
  pub to : put.to ≡ from
  pub bytes : packet_from g.nodes (packet_of put.bytes) ≡ Answer (record { from = v; to = from; through = consumed_from from n.turning.turns }) ∷ []

-- the handler of a node with turns to make emptied its inbox and found no next mail, nor an input; mail that was consumed before is
-- acknowledged again
pub record IsIdle (g : Game) (v : ℕ) (f f2 : Flow) : Type 0 where
  pub unmade : length (f.nodes v).turning.turns < g.turns
  pub given : List (List ℕ)
  pub gave : Gave v f.mail f2.mail given
  pub emptied : slice_index_or f2.mail v [] ≡ []
  pub none_next : (m : Message) → IsGiven g.nodes given (Mail m) → m.to ≡ v → m.number ≡ consumed_from m.from (f.nodes v).turning.turns + 1 → 2 ^ 63 ≤ m.stamp
  pub no_input : length (inputs_for g v) ≤ consumed_from outside (f.nodes v).turning.turns
  pub puts : List Put
  pub few : length puts ≤ length given
  pub known : AreFor g.nodes puts
  pub again : (m : Message) → IsGiven g.nodes given (Mail m) → m.to ≡ v → m.number ≤ consumed_from m.from (f.nodes v).turning.turns → IsAnswered g v (f.nodes v) puts m.from
  pub flow : f2 ≡ record f {
    nodes = f2.nodes;
    mail = f2.mail;
    acks = all_filed (all_passed puts (slice_index_or f.ack_links v [])) f.acks;
    ack_links = slice_set f.ack_links v (after_puts puts (slice_index_or f.ack_links v []));
  }

-- or it has made all its turns, and takes nothing
pub record IsOver (g : Game) (v : ℕ) (f f2 : Flow) : Type 0 where
  pub made : g.turns ≤ length (f.nodes v).turning.turns
  pub flow : f2 ≡ record f { nodes = f2.nodes }

-- a call of the handler that made no turn
pub record Rested (g : Game) (v : ℕ) (f f2 : Flow) : Type 0 where
  pub no_turn : MakesNoTurn v f.nodes f2.nodes
  pub sending : (f2.nodes v).sending ≡ (f.nodes v).sending
  pub how : IsIdle g v f f2 ⊎ IsOver g v f f2

-- pages were written and synced
pub record Written (v : ℕ) (f f2 : Flow) : Type 0 where
  pub no_turn : MakesNoTurn v f.nodes f2.nodes
  pub sending : (f2.nodes v).sending ≡ (f.nodes v).sending
  pub flow : f2 ≡ record f { nodes = f2.nodes }

-- the oldest unacknowledged message of v to w is among what was put
pub record IsResent (g : Game) (v w : ℕ) (n : Node) (puts : List Put) : Type 0 where
  pub message : Message
  pub first : slice_get (mails_to v w n.turning.turns) (slice_index n.sending.acked w) ≡ Some message
  pub put : Put
  pub one : Contains puts put
  pub to : put.to ≡ w
  pub bytes : packet_from g.nodes (packet_of put.bytes) ≡ Mail message ∷ []

-- what is due was sent: at most 16 messages to each node, the oldest unacknowledged one among them
pub record Posted (g : Game) (v : ℕ) (f f2 : Flow) : Type 0 where
  pub no_turn : MakesNoTurn v f.nodes f2.nodes
  pub sending : (f2.nodes v).sending ≡ (f.nodes v).sending
  pub puts : List Put
  pub known : AreFor g.nodes puts
  pub few : (w : ℕ) → length (puts_for w puts) ≤ 16
  pub first : (w : ℕ) → w < g.nodes → 0 < unacked_to v w (f.nodes v) → IsResent g v w (f.nodes v) puts
  pub flow : f2 ≡ record f {
    nodes = f2.nodes;
    mail = all_filed (all_passed puts (slice_index_or f.mail_links v [])) f.mail;
    mail_links = slice_set f.mail_links v (after_puts puts (slice_index_or f.mail_links v []));
  }

-- the externaliser emptied its inbox, and took note of each acknowledgement
pub record Heard (g : Game) (v : ℕ) (f f2 : Flow) : Type 0 where
  pub no_turn : MakesNoTurn v f.nodes f2.nodes
  pub given : List (List ℕ)
  pub gave : Gave v f.acks f2.acks given
  pub emptied : slice_index_or f2.acks v [] ≡ []
  pub width : length (f2.nodes v).sending.acked ≡ length (f.nodes v).sending.acked
  pub rises : (w : ℕ) → slice_index (f.nodes v).sending.acked w ≤ slice_index (f2.nodes v).sending.acked w
  pub taken : (a : Receipt) → IsGiven g.nodes given (Answer a) → a.to ≡ v → a.through ≤ slice_index (f2.nodes v).sending.acked a.from
  pub emitted : (f2.nodes v).sending.emitted ≡ (f.nodes v).sending.emitted
  pub flow : f2 ≡ record f { nodes = f2.nodes; acks = f2.acks }

-- outputs were emitted until none was due, or until one was refused
pub record Emits (v : ℕ) (f f2 : Flow) : Type 0 where
  pub no_turn : MakesNoTurn v f.nodes f2.nodes
  pub acked : (f2.nodes v).sending.acked ≡ (f.nodes v).sending.acked
  pub how : (open_outs f2 v < open_outs f v) ⊎ ((open_outs f2 v ≡ open_outs f v) × (length (outs_of (f2.nodes v).turning.turns) ≤ (f2.nodes v).sending.emitted))
  pub flow : f2 ≡ record f { nodes = f2.nodes; refusals = slice_set f.refusals v (slice_index f2.refusals v) }

-- a visit of node v in which it made no turn and was not restarted
pub record Visited (g : Game) (v : ℕ) (f f2 : Flow) : Type 0 where
  pub rested : Flow
  pub written : Flow
  pub posted : Flow
  pub heard : Flow
  pub rests : Rested g v f rested
  pub writes : Written v rested written
  pub posts : Posted g v written posted
  pub hears : Heard g v posted heard
  pub emits : Emits v heard f2

-- visits of the nodes from v on to u, each once
pub data VisitedTo (g : Game) (v : ℕ) : ℕ → Flow → Flow → Type 0 where
  none : (f : Flow) → VisitedTo g v v f f
  then : {u : ℕ} {f mid f2 : Flow} → VisitedTo g v u f mid → Visited g u mid f2 → VisitedTo g v (u + 1) f f2

-- a pass in which no node made a turn or was restarted
abbrev pub Passed : Game → Flow → Flow → Type 0
Passed g f f2 = VisitedTo g 0 g.nodes f f2

-- ---- the end of a run

-- what was ever sent to v by u, which is a node or the outside
abbrev pub sent_on : Game → (ℕ → Node) → ℕ → ℕ → List Message
sent_on g nodes u v = if u == outside then inputs_for g v else mails_to u v (nodes u).turning.turns

-- how much of it waits
abbrev pub waits_on : Game → (ℕ → Node) → ℕ → ℕ → ℕ
waits_on g nodes u v = length (sent_on g nodes u v) - consumed_from u (nodes v).turning.turns

-- each output was emitted once at least, whatever restarts have due again, and what waits is for nodes that have made all their turns
pub record HasEnded (g : Game) (emissions : List Emission) (nodes : ℕ → Node) : Type 0 where
  pub emitted : (v : ℕ) → v < g.nodes → length (outs_of (nodes v).turning.turns) ≤ largest_of 0 (emitted_by v emissions)
  pub waits : (u v : ℕ) → (u < g.nodes) ⊎ (u ≡ outside) → v < g.nodes → 0 < waits_on g nodes u v → g.turns ≤ length (nodes v).turning.turns
