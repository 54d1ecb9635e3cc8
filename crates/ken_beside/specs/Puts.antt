-- What two workers put side by side.
use Rattle.std.specs.Prelude.{ℕ, List, [], ◌∷◌, map}
use Rattle.std.specs.List.{AllByRecursion, Contains}
use Rattle.ken_model.specs.declared.messages.Message.{Message}
use Rattle.ken_packet.specs.Packets.{ack_bytes}
use Rattle.ken_net.specs.Puts.{Put, handing}
use Rattle.ken_core.specs.Packets.{Packet, Mail, Answer}
use Rattle.ken_core.specs.Packets as core
use Rattle.ken_core.specs.Runs.{IsPut}
use Rattle.ken_ship.specs.Sending.{mail_put}
use Rattle.ken_node.specs.NodeCalls.{AreSpelled}

-- two lists were brought into one, each in its own order
pub data Shuffled {A : Type 0} : List A → List A → List A → Type 0 where
  none : Shuffled [] [] []
  first : {x : A} {xs ys all : List A} → Shuffled xs ys all → Shuffled (x ∷ xs) ys (x ∷ all)
  second : {y : A} {xs ys all : List A} → Shuffled xs ys all → Shuffled xs (y ∷ ys) (y ∷ all)

-- a packet is mail, or an acknowledgement
abbrev pub IsMail : Packet → Type 0
IsMail (Mail m) = Unit {0}
IsMail (Answer a) = ⊥

abbrev pub IsAnswer : Packet → Type 0
IsAnswer (Mail m) = ⊥
IsAnswer (Answer a) = Unit {0}

-- all puts are of one sort
abbrev pub AreOf : (Packet → Type 0) → List core.Put → Type 0
AreOf sort ps = AllByRecursion (λ (p : core.Put). sort p.packet) ps

-- a packet as it is put on a network: it alone is handed in
abbrev pub put_of : Packet → Put
put_of (Mail m) = mail_put m
put_of (Answer a) = handing a.to [] ((a.to, a.through) ∷ []) (ack_bytes a.from a.to a.through)

abbrev pub puts_of : List core.Put → List Put
puts_of ps = map (λ (p : core.Put). put_of p.packet) ps

-- a network was given just these to put, in order
pub record WerePut (nodes : ℕ) (put : List Put → Type 0) (ps : List core.Put) : Type 0 where
  pub were_put : put (puts_of ps)
  pub spelled : AreSpelled nodes (puts_of ps) ps

-- what is handed in with these puts stands for packets that are among them
pub record HandInThemselves (ps : List core.Put) : Type 0 where
  pub mail : (p : Put) (m : Message) → Contains (puts_of ps) p → Contains p.sealed m → IsPut (Mail m) ps
  pub answer : (p : Put) (to through : ℕ) → Contains (puts_of ps) p → Contains p.consumed (to, through) → (from : ℕ) × IsPut (Answer (record { from = from; to = to; through = through })) ps

abbrev pub PutsHandInThemselves : Type 0
PutsHandInThemselves = (ps : List core.Put) → HandInThemselves ps

-- and what is put by one of two is among what both put
pub record AreAmong (xs ys all : List core.Put) : Type 0 where
  pub left : (packet : Packet) → IsPut packet xs → IsPut packet all
  pub right : (packet : Packet) → IsPut packet ys → IsPut packet all

abbrev pub ShuffledAreAmong : Type 0
ShuffledAreAmong = (xs ys all : List core.Put) → Shuffled xs ys all → AreAmong xs ys all
