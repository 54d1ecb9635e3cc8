use Rattle.std.proofs.Common.{ℕ, List, [], ◌∷◌, sym, subst, refl, arith}
use Rattle.ken_model.specs.declared.messages.Message.{Message}
use Rattle.ken_packet.specs.Packets.{mail_bytes}
use Rattle.ken_net.specs.Puts.{MayPut}
use Rattle.ken_net.proofs.MayPut.{mail_may}
use Rattle.ken_ship.proofs.sending.put_mail.Goals as goal

pub put_as-requires-clause-may : goal.put_as-requires-clause-may
put_as-requires-clause-may g c =
    let m : Message = c.args.message.now in
    let may : MayPut m.from m.to (m ∷ []) [] (mail_bytes m) = mail_may m (m ∷ []) [] c.requires.mail (0, omega arith, refl) in
    subst (λ (v : ℕ). MayPut v m.to (m ∷ []) [] c.in_ok-bytes.bytes) (sym c.requires.from) (subst (λ (bytes : List ℕ). MayPut m.from m.to (m ∷ []) [] bytes) (sym c.in_ok-bytes.ensures) may)
