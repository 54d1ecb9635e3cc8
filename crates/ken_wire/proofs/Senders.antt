-- The sender of a packet is its second byte.
use Rattle.std.proofs.Common.{◌≡◌, ℕ, ◌⊎◌, Bool, true, false, cond, ◌&&◌, ◌==◌, nat_lt, List, length, drop, Option, Some, None, sym, ap, ◌∙◌, arith, inl, inr}
use Rattle.std.specs.Prelude.{slice_index}
use Rattle.std.proofs.lemmas.List.{get_or-drop}
use Rattle.byteorder.specs.Endian.{big_number}
use Rattle.ken_model.specs.declared.messages.Message.{Message}
use Rattle.ken_record.specs.Reading.{◌>>=◌, number_at, seq}
use Rattle.ken_record.proofs.Forms.{bind_some, if_none, if_some, some_is}
use Rattle.ken_packet.specs.declared.packet.Packet.{Packet}
use Rattle.ken_packet.specs.declared.packet.Packet.TheVariants.{Mail, Ack}
use Rattle.ken_packet.specs.Packets.{sender}
use Rattle.ken_packet.specs.Reading.{head_at, body_at, are_nodes, alone, mail_between, through_between, packet_of, sender_in}

abbrev Body : Type 0
Body = (ℕ × ℕ) × List ℕ

abbrev message_of : ℕ → ℕ → Body → Message
message_of from to x = record { from = from; to = to; number = x.0.0; stamp = x.0.1; bytes = x.1 }

abbrev Head : Type 0
Head = (ℕ × (ℕ × ℕ)) × List ℕ

number_of : (bytes : List ℕ) (x : ℕ × List ℕ) → number_at 1 bytes ≡ Some x → (x.0 ≡ slice_index bytes 0) × (x.1 ≡ drop 1 bytes)
unfolding number_at
number_of bytes x e =
    let t = if_none (nat_lt (length bytes) 1) (Some (big_number 1 bytes, drop 1 bytes)) x e in
    let same : (big_number 1 bytes, drop 1 bytes) ≡ x = some_is (big_number 1 bytes, drop 1 bytes) x t.1 in
    (sym (ap (λ (y : ℕ × List ℕ). y.0) same) ∙ omega arith, sym (ap (λ (y : ℕ × List ℕ). y.1) same))

dropped : (bytes rest : List ℕ) → rest ≡ drop 1 bytes → slice_index rest 0 ≡ slice_index bytes 1
dropped bytes rest e = ap (λ (t : List ℕ). slice_index t 0) e ∙ get_or-drop 1 bytes 0 0

first_of : (m n : ℕ) (rest : List ℕ) (y : (ℕ × ℕ) × List ℕ) → Some ((m, n), rest) ≡ Some y → m ≡ y.0.0
first_of m n rest y e = ap (λ (z : (ℕ × ℕ) × List ℕ). z.0.0) (some_is ((m, n), rest) y e)

head_sender : (bytes : List ℕ) (x : Head) → head_at bytes ≡ Some x → sender_in bytes ≡ x.0.1.0
unfolding head_at
head_sender bytes x e =
    let a = bind_some (number_at 1 bytes) (λ (a : ℕ × List ℕ). seq (number_at 1) (number_at 1) a.1 >>= λ (b : (ℕ × ℕ) × List ℕ). Some ((a.0, b.0), b.1)) x e in
    let b = bind_some (seq (number_at 1) (number_at 1) a.0.1) (λ (b : (ℕ × ℕ) × List ℕ). Some ((a.0.0, b.0), b.1)) x a.2 in
    let c = bind_some (number_at 1 a.0.1) (λ (c : ℕ × List ℕ). number_at 1 c.1 >>= λ (d : ℕ × List ℕ). Some ((c.0, d.0), d.1)) b.0 b.1 in
    let d = bind_some (number_at 1 c.0.1) (λ (d : ℕ × List ℕ). Some ((c.0.0, d.0), d.1)) b.0 c.2 in
    let first = number_of bytes a.0 a.1 in
    let second = number_of a.0.1 c.0 c.1 in
    let ends : c.0.0 ≡ b.0.0.0 = first_of c.0.0 d.0.0 d.0.1 b.0 d.2 in
    let whole : b.0.0.0 ≡ x.0.1.0 = ap (λ (y : Head). y.0.1.0) (some_is ((a.0.0, b.0.0), b.0.1) x b.2) in
    sym (dropped bytes a.0.1 first.1) ∙ sym second.0 ∙ ends ∙ whole

chosen : (b c : Bool) (x y : Option Packet) (p : Packet) → cond b x (cond c y None) ≡ Some p → (x ≡ Some p) ⊎ (y ≡ Some p)
chosen true c x y p e = inl e
chosen false true x y p e = inr e
chosen false false x y p e = absurd cc

mail_sender : (from to : ℕ) (rest : List ℕ) (p : Packet) → (mail_between from to rest >>= λ m. Some (Mail m)) ≡ Some p → from ≡ sender p
unfolding mail_between
mail_sender from to rest p e =
    let a = bind_some (mail_between from to rest) (λ (m : Message). Some (Mail m)) p e in
    let m : Message = a.0 in
    let b = bind_some (alone (body_at rest)) (λ (x : Body). cond (are_nodes from to && nat_lt 0 x.0.0 && nat_lt 0 x.0.1) (Some (message_of from to x)) None) m a.1 in
    let t = if_some (are_nodes from to && nat_lt 0 b.0.0.0 && nat_lt 0 b.0.0.1) (Some (message_of from to b.0)) m b.2 in
    ap (λ (n : Message). n.from) (some_is (message_of from to b.0) m t.1) ∙ ap sender (some_is (Mail m) p a.2)

ack_sender : (from to : ℕ) (rest : List ℕ) (p : Packet) → (through_between from to rest >>= λ consumed. Some (Ack from to consumed)) ≡ Some p → from ≡ sender p
ack_sender from to rest p e =
    let a = bind_some (through_between from to rest) (λ (consumed : ℕ). Some (Ack from to consumed)) p e in
    ap sender (some_is (Ack from to a.0) p a.2)

pub packet_sender : (bytes : List ℕ) (p : Packet) → packet_of bytes ≡ Some p → sender_in bytes ≡ sender p
unfolding packet_of
packet_sender bytes p e =
    let a = bind_some (head_at bytes) (λ (x : Head). cond (x.0.0 == 1) (mail_between x.0.1.0 x.0.1.1 x.1 >>= λ m. Some (Mail m)) (cond (x.0.0 == 2) (through_between x.0.1.0 x.0.1.1 x.1 >>= λ consumed. Some (Ack x.0.1.0 x.0.1.1 consumed)) None)) p e in
    let x : ℕ × (ℕ × ℕ) = a.0.0 in
    let rest : List ℕ = a.0.1 in
    head_sender bytes a.0 a.1 ∙ elim (chosen (x.0 == 1) (x.0 == 2) (mail_between x.1.0 x.1.1 rest >>= λ m. Some (Mail m)) (through_between x.1.0 x.1.1 rest >>= λ consumed. Some (Ack x.1.0 x.1.1 consumed)) p a.2) [
      | inl l ↦ mail_sender x.1.0 x.1.1 rest p l
      | inr r ↦ ack_sender x.1.0 x.1.1 rest p r
    ]
