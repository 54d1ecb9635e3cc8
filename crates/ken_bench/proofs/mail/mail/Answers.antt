use Rattle.std.proofs.Common.{rules}
use Rattle.ken_model.specs.declared.messages.Message.{Message}
use Rattle.ken_packet.specs.Packets.{IsMail}
use Rattle.ken_bench.proofs.Between.{mail_between}
use Rattle.ken_bench.proofs.mail.mail.Goals as goal

pub returns : goal.returns
returns c =
    let m : Message = record { from = c.args.from; to = c.args.to; number = 1; stamp = 1; bytes = c.in_ok-copied.field-0 } in
    let mail : IsMail m = search rules in
    mail_between m c.in_ok-bytes.bytes c.reading.ensures.again mail c.in_ok-bytes.ensures
