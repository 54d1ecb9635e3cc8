use Rattle.std.proofs.Common.{refl}
use Rattle.ken_packet.specs.Reading.{packet_of}
use Rattle.ken_packet.proofs.decoding.decode.Goals as goal

pub returns-in_err-own-in-Some-mail_between-clause-memory :
    goal.returns-in_err-own-in-Some-mail_between-clause-memory
unfolding packet_of
returns-in_err-own-in-Some-mail_between-clause-memory c =
    let lent = c.in-Some-mail_between.lent in
    λ memory. (
      record { from = lent.from; to = lent.to; number = lent.number; stamp = lent.stamp; bytes = lent.bytes.now },
      rw (c.in-Some.ensures, c.in-1.is, c.in-Some-mail_between.ensures) refl,
    )
