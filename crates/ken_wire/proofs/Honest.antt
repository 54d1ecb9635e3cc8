-- What is handed in grows.
use Rattle.std.proofs.Common.{ℕ, List, ◌++◌, subst, inl, inr}
use Rattle.std.proofs.lemmas.List.Elements.{Contains-append_left, Contains-append_right, Contains-push_cases}
use Rattle.ken_model.specs.declared.messages.Message.{Message}
use Rattle.ken_packet.specs.declared.packet.Packet.{Packet}
use Rattle.ken_packet.specs.declared.packet.Packet.TheVariants.{Mail, Ack}
use Rattle.ken_wire.specs.declared.view.Sent.{Sent}
use Rattle.ken_net.specs.Puts.{IsHandedIn, MayPut}
use Rattle.ken_wire.specs.Views.{after_put}
use Rattle.ken_wire.specs.Rule.{IsHonest}

-- what was handed in before
before : (sealed new : List Message) (consumed to : List (ℕ × ℕ)) (p : Packet) → IsHandedIn sealed consumed p → IsHandedIn (sealed ++ new) (consumed ++ to) p
before sealed new consumed to (Mail m) h = Contains-append_left sealed new m h
before sealed new consumed to (Ack from node n) h = (h.0, Contains-append_left consumed to (node, h.0) h.1, h.2)

-- what is handed in now
now : (sealed new : List Message) (consumed to : List (ℕ × ℕ)) (p : Packet) → IsHandedIn new to p → IsHandedIn (sealed ++ new) (consumed ++ to) p
now sealed new consumed to (Mail m) h = Contains-append_right sealed new m h
now sealed new consumed to (Ack from node n) h = (h.0, Contains-append_right consumed to (node, h.0) h.1, h.2)

may_before : (from to : ℕ) (sealed new : List Message) (consumed more : List (ℕ × ℕ)) (bytes : List ℕ) → MayPut from to sealed consumed bytes → MayPut from to (sealed ++ new) (consumed ++ more) bytes
may_before from to sealed new consumed more bytes m = record { packet = m.packet; is = m.is; of_node = m.of_node; for_node = m.for_node; handed = before sealed new consumed more m.packet m.handed }

may_now : (from to : ℕ) (sealed new : List Message) (consumed more : List (ℕ × ℕ)) (bytes : List ℕ) → MayPut from to new more bytes → MayPut from to (sealed ++ new) (consumed ++ more) bytes
may_now from to sealed new consumed more bytes m = record { packet = m.packet; is = m.is; of_node = m.of_node; for_node = m.for_node; handed = now sealed new consumed more m.packet m.handed }

-- a put keeps a node honest
pub honest_put : (from to : ℕ) (sealed : List Message) (consumed : List (ℕ × ℕ)) (bytes : List ℕ) (s : Sent) → MayPut from to sealed consumed bytes → IsHonest from s → IsHonest from (after_put sealed consumed bytes s)
honest_put from to sealed consumed bytes s may honest b there =
    elim (Contains-push_cases s.put bytes b there) [
      | inl old ↦ let m = honest b old in (m.0, may_before from m.0 s.sealed sealed s.consumed consumed b m.1)
      | inr new ↦ (to, subst (MayPut from to (s.sealed ++ sealed) (s.consumed ++ consumed)) new (may_now from to s.sealed sealed s.consumed consumed bytes may))
    ]
