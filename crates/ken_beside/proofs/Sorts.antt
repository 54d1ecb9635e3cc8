-- A handler puts acknowledgements, and an externaliser mail.
use Rattle.std.proofs.Common.{ℕ, List, [], ◌∷◌, ◌++◌}
use Rattle.ken_model.specs.declared.messages.Message.{Message}
use Rattle.ken_core.specs.Nodes.{Node}
use Rattle.ken_core.specs.Packets.{Packet}
use Rattle.ken_core.specs.Packets as core
use Rattle.ken_ship.specs.Laws.{mails_out}
use Rattle.ken_whole.specs.TurnLaws.{acks_out}
use Rattle.ken_beside.specs.Puts.{AreOf, IsAnswer, IsMail}

pub acks-out : (v : ℕ) (n : Node) (froms : List ℕ) → AreOf IsAnswer (acks_out v n froms).puts
acks-out v n [] = tt
acks-out v n (from ∷ froms) = (tt, acks-out v n froms)

pub mails-out : (v : ℕ) (n : Node) (ms : List Message) → AreOf IsMail (mails_out v n ms).puts
mails-out v n [] = tt
mails-out v n (m ∷ ms) = (tt, mails-out v n ms)

pub of-then : (sort : Packet → Type 0) (ps qs : List core.Put) → AreOf sort ps → AreOf sort qs → AreOf sort (ps ++ qs)
of-then sort [] qs one two = two
of-then sort (p ∷ ps) qs one two = (one.0, of-then sort ps qs one.1 two)
