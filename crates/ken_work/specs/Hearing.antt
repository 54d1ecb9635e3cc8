-- What a node's handler makes of packets that it is given.
use Rattle.std.specs.Prelude.{◌≡◌, ℕ, ◌+◌, ◌^◌, ◌<◌, ◌≤◌, ◌⊎◌, ◌==◌, ◌&&◌, nat_lt, nat_le, if◌then◌else◌, List, [], ◌∷◌, ◌++◌, length, slice_get, Option, Some, None, Result, Ok, Err}
use Rattle.std.specs.List.{AllByRecursion, flat_map}
use Rattle.ken_model.specs.declared.messages.Message.{Message}
use Rattle.ken_model.specs.Network.{outside}
use Rattle.ken_packet.specs.declared.packet.Packet.{Packet}
use Rattle.ken_packet.specs.declared.packet.Packet.TheVariants.{Mail, Ack}
use Rattle.ken_packet.specs.Packets.{ack_bytes}
use Rattle.ken_packet.specs.Reading.{packet_of}
use Rattle.ken_net.specs.Counts.{risen}
use Rattle.ken_net.specs.Puts.{Put, handing}
use Rattle.ken_order.specs.Consumed.{Consumed, consumed_from}
use Rattle.ken_ship.specs.declared.hearing.TheConstants.{MOST_TAKEN}
use Rattle.ken_work.specs.Making.{IsMessage}
use Rattle.ken_work.specs.declared.hearing.Heard.{Heard}
use Rattle.ken_work.specs.declared.hearing.Heard.TheVariants.{Next, Again, Lost}

-- a mail to node v from a node of the run, by its number: it is the next of its sender, or was consumed before, or comes early.
-- A stamp that no node in accord reaches makes it early
abbrev pub heard_mail : Consumed → Message → Heard
heard_mail c m =
    if nat_le m.number (consumed_from c m.from) then Again m.from else
    if (m.number == consumed_from c m.from + 1) && nat_lt m.stamp (2 ^ 63) then Next m else Lost

-- what node v, which has consumed c, makes of a packet; what is no mail to it from a node of the run is let go
abbrev pub heard : ℕ → Consumed → Option Packet → Heard
heard v c (Some (Mail m)) = if (m.to == v) && nat_lt m.from c.nodes then heard_mail c m else Lost
heard v c (Some (Ack from to through)) = Lost
heard v c None = Lost

-- a next mail may be taken, and of a sender whose mail comes again some was consumed
abbrev pub MayBeHeard : ℕ → Consumed → Heard → Type 0
MayBeHeard v c (Next m) = IsMessage v c m
MayBeHeard v c (Again from) = (from < c.nodes) × (0 < consumed_from c from)
MayBeHeard v c Lost = Unit {0}

-- the acknowledgement of all that was consumed of a sender, as it is put
abbrev pub ack_put : ℕ → Consumed → ℕ → Put
ack_put v c from = handing from [] ((from, consumed_from c from) ∷ []) (ack_bytes v from (consumed_from c from))

-- a mail that was consumed before is acknowledged again
abbrev pub again_put : ℕ → Consumed → Heard → List Put
again_put v c (Again from) = ack_put v c from ∷ []
again_put v c (Next m) = []
again_put v c Lost = []

abbrev pub again_puts : ℕ → Consumed → List (List ℕ) → List Put
again_puts v c packets = flat_map (λ (bytes : List ℕ). again_put v c (heard v c (packet_of bytes))) packets

-- it isn't a next mail
abbrev pub IsPassed : Heard → Type 0
IsPassed (Next m) = ⊥
IsPassed (Again from) = Unit {0}
IsPassed Lost = Unit {0}

abbrev pub ArePassed : ℕ → Consumed → List (List ℕ) → Type 0
ArePassed v c packets = AllByRecursion (λ (bytes : List ℕ). IsPassed (heard v c (packet_of bytes))) packets

-- how the taking of packets ended: with a next mail, or where the count of takes that gave none rose or 4,096 were given
abbrev pub EndsWith : ℕ → Consumed → ℕ → ℕ → ℕ → Option Message → List (List ℕ) → Type 0
EndsWith v c passed nones nones2 (Some m) last = (bytes : List ℕ) × ((last ≡ bytes ∷ []) × (heard v c (packet_of bytes) ≡ Next m))
EndsWith v c passed nones nones2 None last = (last ≡ []) × ((passed ≡ MOST_TAKEN) ⊎ (risen nones ≤ nones2))

-- packets were given to node v, none of them a next mail but the last where it came to one; those that were consumed before are
-- acknowledged again, and the rest is let go
pub record Listened (v : ℕ) (c : Consumed) (gave : List (List ℕ) → Type 0) (put : List Put → Type 0) (nones nones2 : ℕ) (found : Option Message) : Type 0 where
  pub passed : List (List ℕ)
  pub last : List (List ℕ)
  pub given : gave (passed ++ last)
  pub most : length (passed ++ last) ≤ MOST_TAKEN
  pub each : ArePassed v c passed
  pub ends : EndsWith v c (length passed) nones nones2 found last
  pub acks : put (again_puts v c passed)

-- where memory ran out: some were given, and a front of the acknowledgements was put
pub record StoppedListening (v : ℕ) (c : Consumed) (gave : List (List ℕ) → Type 0) (put : List Put → Type 0) : Type 0 where
  pub packets : List (List ℕ)
  pub puts : List Put
  pub rest : List Put
  pub given : gave packets
  pub most : length packets ≤ MOST_TAKEN
  pub acks : put puts
  pub some : again_puts v c packets ≡ puts ++ rest

abbrev pub Listens : {E : Type 0} → ℕ → Consumed → (List (List ℕ) → Type 0) → (List Put → Type 0) → ℕ → ℕ → Result (Option Message) E → Type 0
Listens v c gave put nones nones2 (Ok found) = Listened v c gave put nones nones2 found
Listens v c gave put nones nones2 (Err fault) = StoppedListening v c gave put

-- the message of a turn: the mail that came, or else the next input
abbrev pub chosen : List Message → Consumed → Option Message → Option Message
chosen inputs c (Some m) = Some m
chosen inputs c None = slice_get inputs (consumed_from c outside)
