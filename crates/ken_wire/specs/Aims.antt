-- For which node packets are.
use Rattle.std.specs.Prelude.{ℕ, Bool, true, false, ◌&&◌, ◌==◌, List, [], ◌∷◌, Option, Some, None}
use Rattle.ken_packet.specs.declared.packet.Packet.{Packet}
use Rattle.ken_packet.specs.Reading.{packet_of}
use Rattle.ken_net.specs.Puts.{receiver}
use Rattle.ken_wire.specs.declared.view.Sent.{Sent}

abbrev pub goes_to : ℕ → Option Packet → Bool
goes_to to (Some p) = receiver p == to
goes_to to None = false

-- each is a packet for that node
abbrev pub all_go_to : ℕ → List (List ℕ) → Bool
all_go_to to [] = true
all_go_to to (bytes ∷ others) = goes_to to (packet_of bytes) && all_go_to to others

-- so is all that these nodes put
abbrev pub all_sent_to : ℕ → List Sent → Bool
all_sent_to to [] = true
all_sent_to to (s ∷ ss) = all_go_to to s.put && all_sent_to to ss
