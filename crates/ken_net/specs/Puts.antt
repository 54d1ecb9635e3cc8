-- What is put on a network, and what may be.
use Rattle.std.specs.Prelude.{◌≡◌, ℕ, ◌≤◌, ◌==◌, ◌&&◌, Bool, false, List, [], ◌∷◌, Option, Some, None, Result, Ok, Err}
use Rattle.std.specs.List.{Contains}
use Rattle.ken_model.specs.declared.messages.Message.{Message}
use Rattle.ken_packet.specs.declared.packet.Packet.{Packet}
use Rattle.ken_packet.specs.declared.packet.Packet.TheVariants.{Mail, Ack}
use Rattle.ken_packet.specs.Packets.{sender}
use Rattle.ken_packet.specs.Reading.{packet_of}

-- bytes that were put for a node, and what was handed in with them: sealed messages, and nodes, each with a number up to
-- which its messages were consumed
pub record Put : Type 0 where
  pub to : ℕ
  pub bytes : List ℕ
  pub sealed : List Message
  pub consumed : List (ℕ × ℕ)

-- bytes for a node with what is handed in
abbrev pub handing : ℕ → List Message → List (ℕ × ℕ) → List ℕ → Put
handing to sealed consumed bytes = record { to = to; bytes = bytes; sealed = sealed; consumed = consumed }

-- what was put, by the answer
abbrev pub if_put : {T E : Type 0} → Result T E → Put → List Put
if_put (Ok _) p = p ∷ []
if_put (Err _) p = []

-- the node that a packet goes to
abbrev pub receiver : Packet → ℕ
receiver (Mail m) = m.to
receiver (Ack from to through) = to

-- a mail is one of the messages handed in, and an acknowledgement says at most a number handed in for its receiver
abbrev pub IsHandedIn : List Message → List (ℕ × ℕ) → Packet → Type 0
IsHandedIn sealed consumed (Mail m) = Contains sealed m
IsHandedIn sealed consumed (Ack from to n) = (k : ℕ) × Contains consumed (to, k) × (n ≤ k)

-- the bytes are a packet from one node to another that stands in what is handed in
pub record MayPut (from to : ℕ) (sealed : List Message) (consumed : List (ℕ × ℕ)) (bytes : List ℕ) : Type 0 where
  pub packet : Packet
  pub is : packet_of bytes ≡ Some packet
  pub of_node : sender packet ≡ from
  pub for_node : receiver packet ≡ to
  pub handed : IsHandedIn sealed consumed packet

-- it may be put by that node, with what is handed in
abbrev pub MayBe : ℕ → Put → Type 0
MayBe from p = MayPut from p.to p.sealed p.consumed p.bytes

-- whether that is a packet from one node to another
abbrev pub is_between : ℕ → ℕ → Option Packet → Bool
is_between from to (Some p) = (sender p == from) && (receiver p == to)
is_between from to None = false

-- what a packet hands in by itself: its own mail or number alone
abbrev pub own_sealed : Option Packet → List Message
own_sealed (Some (Mail m)) = m ∷ []
own_sealed (Some (Ack from to through)) = []
own_sealed None = []

abbrev pub own_consumed : Option Packet → List (ℕ × ℕ)
own_consumed (Some (Mail m)) = []
own_consumed (Some (Ack from to through)) = (to, through) ∷ []
own_consumed None = []

-- a put that hands in no more than its own packet
abbrev pub alone : ℕ → List ℕ → Put
alone to bytes = handing to (own_sealed (packet_of bytes)) (own_consumed (packet_of bytes)) bytes
