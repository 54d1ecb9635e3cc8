-- The packet that bytes are, read from left to right.
use Rattle.std.specs.Prelude.{◌≡◌, ℕ, List, length, Bool, ◌&&◌, nat_lt, ◌<◌, ◌==◌, if◌then◌else◌, slice_index, Option, Some, None}
use Rattle.ken_model.specs.declared.messages.Message.{Message}
use Rattle.ken_record.specs.Reading.{◌>>=◌, number_at, seq, text_at}
use Rattle.ken_packet.specs.declared.packet.Packet.{Packet}
use Rattle.ken_packet.specs.declared.packet.Packet.TheVariants.{Mail, Ack}

-- What a function returned, seen by view, is what reading gives.
abbrev pub Shows : {X Y : Type 0} → (X → Y) → Option X → Option Y → Type 0
Shows view (Some x) read = read ≡ Some (view x)
Shows view None read = read ≡ None

-- a list of bytes
abbrev pub AreBytes : List ℕ → Type 0
AreBytes bytes = (i : ℕ) → slice_index bytes i < 256

-- the kind, the sender and the receiver
unfoldable pub head_at : List ℕ → Option ((ℕ × (ℕ × ℕ)) × List ℕ)
head_at bytes = seq (number_at 1) (seq (number_at 1) (number_at 1)) bytes

-- the number and the stamp
unfoldable pub counts_at : List ℕ → Option ((ℕ × ℕ) × List ℕ)
counts_at bytes = seq (number_at 8) (number_at 8) bytes

-- the number, the stamp and the bytes of a message
unfoldable pub body_at : List ℕ → Option (((ℕ × ℕ) × List ℕ) × List ℕ)
body_at bytes = seq counts_at text_at bytes

-- whether both ends are nodes
abbrev pub are_nodes : ℕ → ℕ → Bool
are_nodes from to = nat_lt from 8 && nat_lt to 8

-- what is read, where nothing follows it
abbrev pub alone : {A : Type 0} → Option (A × List ℕ) → Option A
alone read = read >>= λ x. if length x.1 == 0 then Some x.0 else None

-- a message between two ends, where they are nodes and its counts aren't 0
unfoldable pub mail_between : ℕ → ℕ → List ℕ → Option Message
mail_between from to bytes = do
  x ← alone (body_at bytes)
  if are_nodes from to && nat_lt 0 x.0.0 && nat_lt 0 x.0.1 then Some (record { from = from; to = to; number = x.0.0; stamp = x.0.1; bytes = x.1 }) else None

-- how far an acknowledgement between two ends goes
unfoldable pub through_between : ℕ → ℕ → List ℕ → Option ℕ
through_between from to bytes = do
  through ← alone (number_at 8 bytes)
  if are_nodes from to && nat_lt 0 through then Some through else None

-- the packet that the bytes are
unfoldable pub packet_of : List ℕ → Option Packet
packet_of bytes = do
  x ← head_at bytes
  if x.0.0 == 1 then (mail_between x.0.1.0 x.0.1.1 x.1 >>= λ m. Some (Mail m)) else
      if x.0.0 == 2 then (through_between x.0.1.0 x.0.1.1 x.1 >>= λ through. Some (Ack x.0.1.0 x.0.1.1 through)) else None

-- the bytes are a mail
abbrev pub AreMail : List ℕ → Type 0
AreMail bytes = (m : Message) × (packet_of bytes ≡ Some (Mail m))

-- the node that the bytes say they come from
abbrev pub sender_in : List ℕ → ℕ
sender_in bytes = slice_index bytes 1
