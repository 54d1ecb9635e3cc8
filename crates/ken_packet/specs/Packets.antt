-- Which packets have a spelling, and what it is.
use Rattle.std.specs.Prelude.{ℕ, List, ◌<◌, ◌++◌}
use Rattle.ken_model.specs.declared.messages.Message.{Message}
use Rattle.ken_record.specs.Spelling.{number, text}
use Rattle.ken_record.specs.Grammar.{IsCount, IsText}
use Rattle.ken_packet.specs.declared.packet.Packet.{Packet}
use Rattle.ken_packet.specs.declared.packet.Packet.TheVariants.{Mail, Ack}

-- a message of a node to a node
pub record IsMail (m : Message) : Type 0 where
  pub from : m.from < 8
  pub to : m.to < 8
  pub number : IsCount m.number
  pub stamp : IsCount m.stamp
  pub bytes : IsText m.bytes

-- from a node to a node, and at least one message was consumed
abbrev pub IsAck : ℕ → ℕ → ℕ → Type 0
IsAck from to through = (from < 8) × (to < 8) × IsCount through

abbrev pub IsPacket : Packet → Type 0
IsPacket (Mail m) = IsMail m
IsPacket (Ack from to through) = IsAck from to through

-- the node that it comes from
abbrev pub sender : Packet → ℕ
sender (Mail m) = m.from
sender (Ack from to through) = from

-- the kind, and the two ends
abbrev pub head : ℕ → ℕ → ℕ → List ℕ
head kind from to = number 1 kind ++ (number 1 from ++ number 1 to)

abbrev pub counts : ℕ → ℕ → List ℕ
counts n stamp = number 8 n ++ number 8 stamp

abbrev pub mail_bytes : Message → List ℕ
mail_bytes m = head 1 m.from m.to ++ (counts m.number m.stamp ++ text m.bytes)

abbrev pub ack_bytes : ℕ → ℕ → ℕ → List ℕ
ack_bytes from to through = head 2 from to ++ number 8 through

-- its one spelling
abbrev pub packet_bytes : Packet → List ℕ
packet_bytes (Mail m) = mail_bytes m
packet_bytes (Ack from to through) = ack_bytes from to through
