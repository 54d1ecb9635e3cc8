-- What may be put.
use Rattle.std.proofs.Common.{◌≡◌, ℕ, ◌≤◌, true, ◌==◌, List, Option, Some, None, refl, arith}
use Rattle.std.specs.List.{Contains}
use Rattle.std.proofs.lemmas.Bool.{eqb-true}
use Rattle.ken_model.specs.declared.messages.Message.{Message}
use Rattle.ken_packet.specs.declared.packet.Packet.{Packet}
use Rattle.ken_packet.specs.declared.packet.Packet.TheVariants.{Mail, Ack}
use Rattle.ken_packet.specs.Packets.{IsMail, IsAck, sender, mail_bytes, ack_bytes}
use Rattle.ken_packet.specs.Reading.{packet_of}
use Rattle.ken_packet.proofs.Whole.{packet_again}
use Rattle.ken_net.proofs.Both.{parts}
use Rattle.ken_net.specs.Puts.{MayPut, IsHandedIn, receiver, is_between, own_sealed, own_consumed}

pub mail_may : (m : Message) (sealed : List Message) (consumed : List (ℕ × ℕ)) → IsMail m → Contains sealed m → MayPut m.from m.to sealed consumed (mail_bytes m)
mail_may m sealed consumed is there = record { packet = Mail m; is = packet_again (Mail m) is; of_node = refl; for_node = refl; handed = there }

pub ack_may : (from to n k : ℕ) (sealed : List Message) (consumed : List (ℕ × ℕ)) → IsAck from to n → Contains consumed (to, k) → n ≤ k → MayPut from to sealed consumed (ack_bytes from to n)
ack_may from to n k sealed consumed is there most = record { packet = Ack from to n; is = packet_again (Ack from to n) is; of_node = refl; for_node = refl; handed = (k, there, most) }

itself : (p : Packet) → IsHandedIn (own_sealed (Some p)) (own_consumed (Some p)) p
itself (Mail m) = (0, omega arith, refl)
itself (Ack from to n) = (n, (0, omega arith, refl), omega arith)

some_may : (from to : ℕ) (bytes : List ℕ) (read : Option Packet) → packet_of bytes ≡ read → is_between from to read ≡ true → MayPut from to (own_sealed read) (own_consumed read) bytes
some_may from to bytes None is between = absurd cc
some_may from to bytes (Some p) is between =
    let ends = parts (sender p == from) (receiver p == to) between in
    record { packet = p; is = is; of_node = eqb-true (sender p) from ends.0; for_node = eqb-true (receiver p) to ends.1; handed = itself p }

pub alone_may : (from to : ℕ) (bytes : List ℕ) → is_between from to (packet_of bytes) ≡ true → MayPut from to (own_sealed (packet_of bytes)) (own_consumed (packet_of bytes)) bytes
alone_may from to bytes between = some_may from to bytes (packet_of bytes) refl between
