use Rattle.std.proofs.Common.{◌≡◌, ◌∙◌, Option, Some, refl, sym, ap, subst, arith, rules}
use Rattle.std.specs.List.{Contains}
use Rattle.ken_model.specs.declared.messages.Message.{Message}
use Rattle.ken_packet.specs.declared.packet.Packet.{Packet}
use Rattle.ken_packet.specs.declared.packet.Packet.TheVariants.{Mail}
use Rattle.ken_packet.specs.Packets.{IsMail}
use Rattle.ken_packet.specs.Reading.{packet_of}
use Rattle.ken_packet.proofs.Whole.{packet_again}
use Rattle.ken_net.specs.Puts.{own_sealed}
use Rattle.ken_rows_packets.proofs.net.Ship.put.Goals as goal

pub put_as-requires-clause-may : goal.put_as-requires-clause-may
put_as-requires-clause-may c =
    let m : Message = c.in_ok-mail.mail in
    let is : IsMail m = search rules in
    let read : packet_of c.in_ok-bytes.bytes ≡ Some (Mail m) = ap packet_of c.in_ok-bytes.ensures ∙ packet_again (Mail m) is in
    record {
      packet = Mail m;
      is = read;
      of_node = c.in_ok-mail.ensures.0 ∙ sym c.args.self.now.first.0.0;
      for_node = refl;
      handed = subst (λ (o : Option Packet). Contains (own_sealed o) m) (sym read) (0, omega arith, refl);
    }
