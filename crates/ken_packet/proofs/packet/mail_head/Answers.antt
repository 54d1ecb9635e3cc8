-- The bytes of a mail's head, one by one.
use Rattle.std.proofs.Common.{◌≡◌, ℕ, ◌<◌, List, ◌∷◌, ◌++◌, refl, arith}
use Rattle.std.specs.Int.{byte_at}
use Rattle.ken_record.specs.Spelling.{number}
use Rattle.ken_packet.specs.Packets.{head, counts}
use Rattle.ken_packet.proofs.packet.mail_head.Goals as goal

front : (from to : ℕ) (rest : List ℕ) → from < 256 → to < 256 → 1 ∷ from ∷ to ∷ rest ≡ head 1 from to ++ rest
unfolding number
front from to rest low small =
    let f : byte_at 0 from ≡ from = omega (arith, low) in
    let t : byte_at 0 to ≡ to = omega (arith, small) in
    rw (f, t) refl

pub returns : goal.returns
unfolding number
returns c =
    rw (c.to_be_bytes-number.ensures, c.to_be_bytes-stamp.ensures, c.to_be_bytes-len.ensures)
    (front c.args.message.now.from c.args.message.now.to (counts c.args.message.now.number c.args.message.now.stamp ++ number 2 c.args.len) (omega (arith, c.requires.from)) (omega (arith, c.requires.to)))
