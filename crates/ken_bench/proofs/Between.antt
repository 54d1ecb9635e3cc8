-- What is spelled is between the two ends.
use Rattle.std.proofs.Common.{◌≡◌, ◌∙◌, ℕ, true, ◌==◌, List, Some, refl, ap, eq-eqb}
use Rattle.ken_model.specs.declared.messages.Message.{Message}
use Rattle.ken_packet.specs.declared.packet.Packet.{Packet}
use Rattle.ken_packet.specs.declared.packet.Packet.TheVariants.{Mail}
use Rattle.ken_packet.specs.Packets.{IsMail, IsPacket, packet_bytes, mail_bytes}
use Rattle.ken_packet.specs.Reading.{packet_of}
use Rattle.ken_net.specs.Puts.{is_between}
use Rattle.ken_net.proofs.Both.{both}

abbrev pub IsReadAgain : Type 0
IsReadAgain = (p : Packet) → IsPacket p → packet_of (packet_bytes p) ≡ Some p

pub mail_between : (m : Message) (bytes : List ℕ) → IsReadAgain → IsMail m → bytes ≡ mail_bytes m → is_between m.from m.to (packet_of bytes) ≡ true
mail_between m bytes again mail spelled =
    rw (ap packet_of spelled ∙ again (Mail m) mail) (both (m.from == m.from) (m.to == m.to) (eq-eqb m.from m.from refl) (eq-eqb m.to m.to refl))
