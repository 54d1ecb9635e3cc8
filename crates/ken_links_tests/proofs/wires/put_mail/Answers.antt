use Rattle.std.proofs.Common.{◌≡◌, rules}
use Rattle.ken_packet.specs.Packets.{IsMail}
use Rattle.ken_wire.specs.Ends.{from_of, to_of}
use Rattle.ken_links_tests.proofs.Mails.{mail_may}
use Rattle.ken_links_tests.proofs.wires.put_mail.Goals as goal

pub put_of-requires : goal.put_of-requires
put_of-requires g c =
    let m = c.in_ok-message.message in
    let end = c.args.end.now in
    let mail : IsMail m = search rules in
    let from : m.from ≡ from_of end = search rules in
    let to : m.to ≡ to_of end = search rules in
    mail_may (from_of end) (to_of end) m c.in_ok-bytes.bytes c.reading.ensures.again mail c.in_ok-bytes.ensures from to
