-- A mail that hands itself in.
use Rattle.std.proofs.Common.{◌≡◌, ℕ, List, [], ◌∷◌, Some, refl, ap, ◌∙◌, arith}
use Rattle.ken_model.specs.declared.messages.Message.{Message}
use Rattle.ken_packet.specs.declared.packet.Packet.{Packet}
use Rattle.ken_packet.specs.declared.packet.Packet.TheVariants.{Mail}
use Rattle.ken_packet.specs.Packets.{IsMail, IsPacket, packet_bytes, mail_bytes}
use Rattle.ken_packet.specs.Reading.{packet_of}
use Rattle.ken_net.specs.Puts.{MayPut}

pub mail_may : (from to : ℕ) (m : Message) (bytes : List ℕ) → ((p : Packet) → IsPacket p → packet_of (packet_bytes p) ≡ Some p) → IsMail m → bytes ≡ mail_bytes m → m.from ≡ from → m.to ≡ to → MayPut from to (m ∷ []) [] bytes
mail_may from to m bytes again mail spelled is_from is_to = record {
  packet = Mail m;
  is = ap packet_of spelled ∙ again (Mail m) mail;
  of_node = is_from;
  for_node = is_to;
  handed = (0, omega arith, refl);
}
