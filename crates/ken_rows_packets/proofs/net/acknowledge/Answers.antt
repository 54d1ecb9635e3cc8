use Rattle.std.proofs.Common.{◌≡◌, ◌∙◌, ℕ, Option, Some, refl, sym, ap, subst, arith, rules}
use Rattle.ken_packet.specs.declared.packet.Packet.{Packet}
use Rattle.ken_packet.specs.declared.packet.Packet.TheVariants.{Ack}
use Rattle.ken_packet.specs.Packets.{IsAck}
use Rattle.ken_packet.specs.Reading.{packet_of}
use Rattle.ken_packet.proofs.Whole.{packet_again}
use Rattle.ken_net.specs.Puts.{own_sealed, own_consumed, IsHandedIn}
use Rattle.ken_rows_packets.proofs.net.acknowledge.Goals as goal

pub put_as-requires-clause-may : goal.put_as-requires-clause-may
put_as-requires-clause-may c =
    let from : ℕ = c.args.from in
    let to : ℕ = c.in_ok-to.to in
    let through : ℕ = c.in_ok-through.through in
    let is : IsAck from to through = search rules in
    let read : packet_of c.in_ok-bytes.bytes ≡ Some (Ack from to through) = ap packet_of c.in_ok-bytes.ensures ∙ packet_again (Ack from to through) is in
    record {
      packet = Ack from to through;
      is = read;
      of_node = sym c.requires.1.0;
      for_node = refl;
      handed = subst (λ (o : Option Packet). IsHandedIn (own_sealed o) (own_consumed o) (Ack from to through)) (sym read) (through, (0, omega arith, refl), omega arith);
    }
