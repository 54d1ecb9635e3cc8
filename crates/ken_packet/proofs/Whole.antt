-- A packet is read as it is spelled, and spelled as it is read.
use Rattle.std.proofs.Common.{◌≡◌, ℕ, ◌<◌, ◌≤◌, ◌^◌, ◌⊎◌, Bool, true, false, cond, ◌&&◌, ◌==◌, nat_lt, List, [], ◌++◌, Option, Some, None, refl, sym, ap, subst, ◌∙◌, append_assoc, arith, inl, inr}
use Rattle.std.specs.Prelude.{slice_index}
use Rattle.std.proofs.lemmas.Bool.{eqb-true}
use Rattle.std.proofs.lemmas.Bool.Decides.{nat_tests}
use Rattle.std.specs.Int.{byte_at}
use Rattle.ken_model.specs.declared.messages.Message.{Message}
use Rattle.ken_record.specs.Spelling.{number, text}
use Rattle.ken_record.specs.Reading.{◌>>=◌, number_at}
use Rattle.ken_record.proofs.Forms.{bind_some, if_some, some_is, number_8}
use Rattle.ken_packet.specs.declared.packet.Packet.{Packet}
use Rattle.ken_packet.specs.declared.packet.Packet.TheVariants.{Mail, Ack}
use Rattle.ken_packet.specs.Packets.{IsMail, IsAck, IsPacket, sender, head, counts, mail_bytes, ack_bytes, packet_bytes}
use Rattle.ken_packet.specs.Reading.{AreBytes, head_at, body_at, are_nodes, alone, mail_between, through_between, packet_of, sender_in}
use Rattle.ken_packet.proofs.Members.{head_form, body_form}
use Rattle.ken_packet.proofs.Alone.{alone_takes, alone_again, one_front}

nodes_and : (from to n s : ℕ) → are_nodes from to && nat_lt 0 n && nat_lt 0 s ≡ true → (from < 8) × (to < 8) × (1 ≤ n) × (1 ≤ s)
nodes_and from to n s e = grind (arith, nat_tests)

and_nodes : (from to n s : ℕ) → from < 8 → to < 8 → 1 ≤ n → 1 ≤ s → are_nodes from to && nat_lt 0 n && nat_lt 0 s ≡ true
and_nodes from to n s a b c d = grind (arith, nat_tests)

nodes_and_one : (from to n : ℕ) → are_nodes from to && nat_lt 0 n ≡ true → (from < 8) × (to < 8) × (1 ≤ n)
nodes_and_one from to n e = grind (arith, nat_tests)

one_and_nodes : (from to n : ℕ) → from < 8 → to < 8 → 1 ≤ n → are_nodes from to && nat_lt 0 n ≡ true
one_and_nodes from to n a b c = grind (arith, nat_tests)

-- ---- mails

abbrev Body : Type 0
Body = (ℕ × ℕ) × List ℕ

abbrev body_of : Message → Body
body_of m = ((m.number, m.stamp), m.bytes)

abbrev message_of : ℕ → ℕ → Body → Message
message_of from to x = record { from = from; to = to; number = x.0.0; stamp = x.0.1; bytes = x.1 }

-- what was read between two ends
record MailTook (from to : ℕ) (bytes : List ℕ) (m : Message) : Type 0 where
  pub is : IsMail m
  pub from_is : from ≡ m.from
  pub to_is : to ≡ m.to
  pub parts : bytes ≡ counts m.number m.stamp ++ text m.bytes

mail_takes : (from to : ℕ) (bytes : List ℕ) (m : Message) → AreBytes bytes → mail_between from to bytes ≡ Some m → MailTook from to bytes m
unfolding mail_between
mail_takes from to bytes m are e =
    let a = bind_some (alone (body_at bytes)) (λ (x : Body). cond (are_nodes from to && nat_lt 0 x.0.0 && nat_lt 0 x.0.1) (Some (message_of from to x)) None) m e in
    let t = if_some (are_nodes from to && nat_lt 0 a.0.0.0 && nat_lt 0 a.0.0.1) (Some (message_of from to a.0)) m a.2 in
    let p = alone_takes body_form bytes a.0 are a.1 in
    let n = nodes_and from to a.0.0.0 a.0.0.1 t.0 in
    let whole : MailTook from to bytes (message_of from to a.0) = record {
      is = record { from = n.0; to = n.1; number = (n.2, p.0.0.0); stamp = (n.3, p.0.0.1); bytes = p.0.1 };
      from_is = refl;
      to_is = refl;
      parts = p.1;
    } in
    subst (MailTook from to bytes) (some_is (message_of from to a.0) m t.1) whole

mail_again : (m : Message) → IsMail m → mail_between m.from m.to (counts m.number m.stamp ++ text m.bytes) ≡ Some m
unfolding mail_between
mail_again m is =
    let read = alone_again body_form (body_of m) ((is.number.1, is.stamp.1), is.bytes) in
    let passes = and_nodes m.from m.to m.number m.stamp is.from is.to is.number.0 is.stamp.0 in
    rw (read, passes) refl

-- ---- acknowledgements

through_takes : (from to : ℕ) (bytes : List ℕ) (through : ℕ) → AreBytes bytes → through_between from to bytes ≡ Some through → IsAck from to through × (bytes ≡ number 8 through)
unfolding through_between
through_takes from to bytes through are e =
    let a = bind_some (alone (number_at 8 bytes)) (λ (n : ℕ). cond (are_nodes from to && nat_lt 0 n) (Some n) None) through e in
    let t = if_some (are_nodes from to && nat_lt 0 a.0) (Some a.0) through a.2 in
    let p = alone_takes number_8 bytes a.0 are a.1 in
    let n = nodes_and_one from to a.0 t.0 in
    subst (λ (k : ℕ). IsAck from to k × (bytes ≡ number 8 k)) (some_is a.0 through t.1) ((n.0, n.1, (n.2, p.0)), p.1)

through_again : (from to through : ℕ) → IsAck from to through → through_between from to (number 8 through) ≡ Some through
unfolding through_between
through_again from to through is = rw (alone_again number_8 through is.2.1, one_and_nodes from to through is.0 is.1 is.2.0) refl

-- ---- packets

chosen : (b c : Bool) (x y : Option Packet) (p : Packet) → cond b x (cond c y None) ≡ Some p → ((b ≡ true) × (x ≡ Some p)) ⊎ ((c ≡ true) × (y ≡ Some p))
chosen true c x y p e = inl (refl, e)
chosen false true x y p e = inr (refl, e)
chosen false false x y p e = absurd cc

heads : (kind from to k f t : ℕ) → kind ≡ k → from ≡ f → to ≡ t → head kind from to ≡ head k f t
heads kind from to k f t a b c = rw (a, b, c) refl

abbrev Spelled : List ℕ → Packet → Type 0
Spelled bytes p = IsPacket p × (bytes ≡ packet_bytes p)

mail_spelled : (bytes rest : List ℕ) (kind from to : ℕ) (p : Packet) → AreBytes rest → bytes ≡ head kind from to ++ rest → kind ≡ 1 → (mail_between from to rest >>= λ m. Some (Mail m)) ≡ Some p → Spelled bytes p
mail_spelled bytes rest kind from to p are parts one e =
    let a = bind_some (mail_between from to rest) (λ (m : Message). Some (Mail m)) p e in
    let m : Message = a.0 in
    let q = mail_takes from to rest m are a.1 in
    let ends = heads kind from to 1 m.from m.to one q.from_is q.to_is in
    let all : bytes ≡ mail_bytes m = parts ∙ ap (λ (t : List ℕ). head kind from to ++ t) q.parts ∙ ap (λ (t : List ℕ). t ++ (counts m.number m.stamp ++ text m.bytes)) ends in
    subst (Spelled bytes) (some_is (Mail m) p a.2) (q.is, all)

ack_spelled : (bytes rest : List ℕ) (kind from to : ℕ) (p : Packet) → AreBytes rest → bytes ≡ head kind from to ++ rest → kind ≡ 2 → (through_between from to rest >>= λ through. Some (Ack from to through)) ≡ Some p → Spelled bytes p
ack_spelled bytes rest kind from to p are parts two e =
    let a = bind_some (through_between from to rest) (λ (through : ℕ). Some (Ack from to through)) p e in
    let q = through_takes from to rest a.0 are a.1 in
    let all : bytes ≡ ack_bytes from to a.0 = parts ∙ ap (λ (t : List ℕ). head kind from to ++ t) q.1 ∙ ap (λ (k : ℕ). head k from to ++ number 8 a.0) two in
    subst (Spelled bytes) (some_is (Ack from to a.0) p a.2) (q.0, all)

pub packet_takes : (bytes : List ℕ) (p : Packet) → AreBytes bytes → packet_of bytes ≡ Some p → IsPacket p × (bytes ≡ packet_bytes p)
unfolding packet_of
packet_takes bytes p are e =
    let a = bind_some (head_at bytes) (λ (x : (ℕ × (ℕ × ℕ)) × List ℕ). cond (x.0.0 == 1) (mail_between x.0.1.0 x.0.1.1 x.1 >>= λ m. Some (Mail m)) (cond (x.0.0 == 2) (through_between x.0.1.0 x.0.1.1 x.1 >>= λ through. Some (Ack x.0.1.0 x.0.1.1 through)) None)) p e in
    let h = head_form.takes bytes a.0.0 a.0.1 are a.1 in
    let x : ℕ × (ℕ × ℕ) = a.0.0 in
    let rest : List ℕ = a.0.1 in
    elim (chosen (x.0 == 1) (x.0 == 2) (mail_between x.1.0 x.1.1 rest >>= λ m. Some (Mail m)) (through_between x.1.0 x.1.1 rest >>= λ through. Some (Ack x.1.0 x.1.1 through)) p a.2) [
      | inl l ↦ mail_spelled bytes rest x.0 x.1.0 x.1.1 p h.rest_bytes h.parts (eqb-true _ _ l.0) l.1
      | inr r ↦ ack_spelled bytes rest x.0 x.1.0 x.1.1 p h.rest_bytes h.parts (eqb-true _ _ r.0) r.1
    ]

pub packet_again : (p : Packet) → IsPacket p → packet_of (packet_bytes p) ≡ Some p
unfolding packet_of
packet_again (Mail m) is =
    let front = head_form.again (1, (m.from, m.to)) (counts m.number m.stamp ++ text m.bytes) (omega arith, (omega (arith, is.from), omega (arith, is.to))) in
    rw (front, mail_again m is) refl
packet_again (Ack from to through) is =
    let front = head_form.again (2, (from, to)) (number 8 through) (omega arith, (omega (arith, is.0), omega (arith, is.1))) in
    rw (front, through_again from to through is) refl

-- ---- one spelling

abbrev Head : Type 0
Head = ℕ × (ℕ × ℕ)

abbrev head_bytes : Head → List ℕ
head_bytes x = head x.0 x.1.0 x.1.1

-- two packets at the front of the same bytes have one head, and the rest is the same
same_head : (a b : Head) (s t x y : List ℕ) → (a.0 < 256) × ((a.1.0 < 256) × (a.1.1 < 256)) → (b.0 < 256) × ((b.1.0 < 256) × (b.1.1 < 256)) → (head_bytes a ++ s) ++ x ≡ (head_bytes b ++ t) ++ y → (a ≡ b) × (s ++ x ≡ t ++ y)
same_head a b s t x y fa fb same =
    one_front head_form a b (s ++ x) (t ++ y) fa fb (sym (append_assoc (head_bytes a) s x) ∙ same ∙ append_assoc (head_bytes b) t y)

mail_head : (m : Message) → IsMail m → (1 < 256) × ((m.from < 256) × (m.to < 256))
mail_head m is = (omega arith, (omega (arith, is.from), omega (arith, is.to)))

ack_head : (from to through : ℕ) → IsAck from to through → (2 < 256) × ((from < 256) × (to < 256))
ack_head from to through is = (omega arith, (omega (arith, is.0), omega (arith, is.1)))

two_kinds : (m : Message) (from to through : ℕ) (x y : List ℕ) → IsMail m → IsAck from to through → mail_bytes m ++ x ≡ ack_bytes from to through ++ y → ⊥
two_kinds m from to through x y im ia same =
    let heads_are = same_head (1, (m.from, m.to)) (2, (from, to)) (counts m.number m.stamp ++ text m.bytes) (number 8 through) x y (mail_head m im) (ack_head from to through ia) same in
    let kinds : 1 ≡ 2 = ap (λ (h : Head). h.0) heads_are.0 in
    absurd (omega (arith, kinds))

pub one_packet : (a b : Packet) (x y : List ℕ) → IsPacket a → IsPacket b → packet_bytes a ++ x ≡ packet_bytes b ++ y → (a ≡ b) × (x ≡ y)
one_packet (Mail m) (Mail n) x y im mn same =
    let ends = same_head (1, (m.from, m.to)) (1, (n.from, n.to)) (counts m.number m.stamp ++ text m.bytes) (counts n.number n.stamp ++ text n.bytes) x y (mail_head m im) (mail_head n mn) same in
    let bodies = one_front body_form (body_of m) (body_of n) x y ((im.number.1, im.stamp.1), im.bytes) ((mn.number.1, mn.stamp.1), mn.bytes) ends.1 in
    (ap (λ (h : Head). Mail (message_of h.1.0 h.1.1 (body_of m))) ends.0 ∙ ap (λ (b : Body). Mail (message_of n.from n.to b)) bodies.0, bodies.1)
one_packet (Ack f t k) (Ack g u l) x y ia ib same =
    let ends = same_head (2, (f, t)) (2, (g, u)) (number 8 k) (number 8 l) x y (ack_head f t k ia) (ack_head g u l ib) same in
    let numbers = one_front number_8 k l x y ia.2.1 ib.2.1 ends.1 in
    (ap (λ (h : Head). Ack h.1.0 h.1.1 k) ends.0 ∙ ap (λ (n : ℕ). Ack g u n) numbers.0, numbers.1)
one_packet (Mail m) (Ack g u l) x y im ib same = absurd (two_kinds m g u l x y im ib same)
one_packet (Ack f t k) (Mail n) x y ia mn same = absurd (two_kinds n f t k y x mn ia (sym same))

-- ---- the sender

second : (kind from to : ℕ) (rest : List ℕ) → from < 8 → slice_index (head kind from to ++ rest) 1 ≡ from
unfolding number
second kind from to rest low =
    let is : byte_at 0 from ≡ from = omega (arith, low) in
    is

pub sender_told : (p : Packet) → IsPacket p → sender_in (packet_bytes p) ≡ sender p
sender_told (Mail m) is = second 1 m.from m.to (counts m.number m.stamp ++ text m.bytes) is.from
sender_told (Ack from to through) is = second 2 from to (number 8 through) is.0
