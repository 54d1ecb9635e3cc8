use Rattle.std.proofs.Common.{◌≡◌, Some, arith}
use Rattle.ken_packet.specs.declared.packet.Packet.TheVariants.{Mail}
use Rattle.ken_packet.specs.Reading.{packet_of}
use Rattle.ken_packet.proofs.Whole.{packet_takes}
use Rattle.ken_work.proofs.hearing.Heard.of.Goals as goal

pub mail-requires-clause-mail : goal.mail-requires-clause-mail
mail-requires-clause-mail c =
    let read : packet_of c.args.bytes.now ≡ Some (Mail c.in-Ok-Mail.message) = rw c.in-Ok-Mail.field-0-is at c.in-Ok-Mail.ensures.read in
    (packet_takes c.args.bytes.now (Mail c.in-Ok-Mail.message) (λ i. omega (arith, c.type_inv.bytes i)) read).0
