use Rattle.std.proofs.Common.{ℕ, List, [], ◌∷◌, sym, subst, refl, arith}
use Rattle.ken_packet.specs.Packets.{ack_bytes}
use Rattle.ken_net.specs.Puts.{MayPut}
use Rattle.ken_net.proofs.MayPut.{ack_may}
use Rattle.ken_work.proofs.listening.put_ack.Goals as goal

pub put_as-requires-clause-may : goal.put_as-requires-clause-may
put_as-requires-clause-may g c =
    let v : ℕ = c.args.node in
    let to : ℕ = c.args.to in
    let n : ℕ = c.args.through in
    let own : List (ℕ × ℕ) = (to, n) ∷ [] in
    let may : MayPut v to [] own (ack_bytes v to n) = ack_may v to n n [] own (c.requires.nodes.0, c.requires.nodes.1, (omega arith, c.ranges.through.fits)) (0, omega arith, refl) (omega arith) in
    subst (λ (u : ℕ). MayPut u to [] own c.in_ok-bytes.bytes) (sym c.requires.end) (subst (λ (bytes : List ℕ). MayPut v to [] own bytes) (sym c.in_ok-bytes.ensures) may)
