use Rattle.std.proofs.Common.{◌≡◌, rules}
use Rattle.ken_packet.specs.Packets.{IsMail}
use Rattle.ken_links_tests.proofs.Mails.{mail_may}
use Rattle.ken_links_tests.proofs.wires.send.Goals as goal

pub put_as-requires-clause-may : goal.put_as-requires-clause-may
put_as-requires-clause-may g c =
    let m = c.in_ok-message.message in
    let net = c.args.net.now in
    let mail : IsMail m = search rules in
    let from : m.from ≡ g.N.Net.node net = search rules in
    let to : m.to ≡ c.args.to = search rules in
    mail_may (g.N.Net.node net) c.args.to m c.in_ok-bytes.bytes c.reading.ensures.again mail c.in_ok-bytes.ensures from to
