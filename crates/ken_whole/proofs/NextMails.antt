-- What a handler makes of packets that it is given.
use Rattle.std.proofs.Common.{◌≡◌, ℕ, zero, suc, ◌+◌, ◌^◌, ◌<◌, Bool, true, false, ◌==◌, ◌&&◌, nat_lt, nat_le, if◌then◌else◌, List, [], ◌∷◌, ◌++◌, map, length, take, Contains, Option, Some, None, refl, sym, ap, subst, ◌∙◌, arith}
use Rattle.std.specs.List.{AllByRecursion}
use Rattle.std.proofs.lemmas.Bool.{eqb-true, leb-true, ltb-true, ltb-false}
use Rattle.std.proofs.lemmas.List.{take_at, take-map}
use Rattle.std.proofs.lemmas.List.Elements.{Contains-append_left, Contains-append_right}
use Rattle.ken_model.specs.declared.messages.Message.{Message}
use Rattle.ken_packet.specs.declared.packet.Packet.{Packet as Spelled}
use Rattle.ken_packet.specs.declared.packet.Packet.TheVariants.{Mail as SpelledMail, Ack}
use Rattle.ken_packet.specs.Reading.{alone, are_nodes, body_at, head_at, mail_between, packet_of, through_between}
use Rattle.ken_record.specs.Reading.{◌>>=◌}
use Rattle.ken_net.specs.Puts.{Put}
use Rattle.ken_core.specs.Packets.{Mail}
use Rattle.ken_order.specs.Consumed.{Consumed, consumed_from}
use Rattle.ken_ship.specs.Laws.{packet_from, packets_from}
use Rattle.ken_work.specs.declared.hearing.Heard.{Heard}
use Rattle.ken_work.specs.declared.hearing.Heard.TheVariants.{Next, Again, Lost}
use Rattle.ken_work.specs.Hearing.{ack_put, again_put, again_puts, heard, heard_mail}
use Rattle.ken_whole.proofs.NumbersAfter.{and-left, and-right}

-- ---- a next mail

pub record IsNextMail (v : ℕ) (c : Consumed) (p : Option Spelled) (m : Message) : Type 0 where
  pub mail : p ≡ Some (SpelledMail m)
  pub to : m.to ≡ v
  pub from : m.from < c.nodes
  pub number : m.number ≡ consumed_from c m.from + 1

mail-next : (c : Consumed) (x m : Message) → heard_mail c x ≡ Next m → (x ≡ m) × (x.number ≡ consumed_from c x.from + 1)
mail-next c x m e = first (nat_le x.number (consumed_from c x.from)) e
  where
    second : (b : Bool) → ((x.number == consumed_from c x.from + 1) && nat_lt x.stamp (2 ^ 63)) ≡ b → (if b then Next x else Lost) ≡ Next m → (x ≡ m) × (x.number ≡ consumed_from c x.from + 1)
    second true is e = (cc, eqb-true x.number (consumed_from c x.from + 1) (and-left (x.number == consumed_from c x.from + 1) (nat_lt x.stamp (2 ^ 63)) is))
    second false is e = absurd cc

    first : (b : Bool) → (if b then Again x.from else if (x.number == consumed_from c x.from + 1) && nat_lt x.stamp (2 ^ 63) then Next x else Lost) ≡ Next m → (x ≡ m) × (x.number ≡ consumed_from c x.from + 1)
    first true e = absurd cc
    first false e = second ((x.number == consumed_from c x.from + 1) && nat_lt x.stamp (2 ^ 63)) refl e

pub next-mail : (v : ℕ) (c : Consumed) (p : Option Spelled) (m : Message) → heard v c p ≡ Next m → IsNextMail v c p m
next-mail v c None m e = absurd cc
next-mail v c (Some (Ack from to through)) m e = absurd cc
next-mail v c (Some (SpelledMail x)) m e = here ((x.to == v) && nat_lt x.from c.nodes) refl e
  where
    here : (b : Bool) → ((x.to == v) && nat_lt x.from c.nodes) ≡ b → (if b then heard_mail c x else Lost) ≡ Next m → IsNextMail v c (Some (SpelledMail x)) m
    here false is e = absurd cc
    here true is e =
        let it = mail-next c x m e in
        let same : x ≡ m = it.0 in
        record {
          mail = ap (λ (y : Message). Some (SpelledMail y)) same;
          to = ap (λ (y : Message). y.to) (sym same) ∙ eqb-true x.to v (and-left (x.to == v) (nat_lt x.from c.nodes) is);
          from = subst (λ (y : Message). y.from < c.nodes) same (ltb-true x.from c.nodes (and-right (x.to == v) (nat_lt x.from c.nodes) is));
          number = subst (λ (y : Message). y.number ≡ consumed_from c y.from + 1) same it.1;
        }

-- it is one of the packets from nodes of the run
packet-from : (nodes : ℕ) (p : Option Spelled) (m : Message) → p ≡ Some (SpelledMail m) → m.from < nodes → Contains (packet_from nodes p) (Mail m)
packet-from nodes p m is low = subst (λ (o : Option Spelled). Contains (packet_from nodes o) (Mail m)) (sym is) (here (nat_lt m.from nodes) refl)
  where
    here : (b : Bool) → nat_lt m.from nodes ≡ b → Contains (if b then Mail m ∷ [] else []) (Mail m)
    here true e = (0, omega arith, refl)
    here false e = let not = ltb-false m.from nodes e in absurd (omega (arith, low, not))

pub mail-given : (nodes : ℕ) (passed : List (List ℕ)) (bytes : List ℕ) (m : Message) → packet_of bytes ≡ Some (SpelledMail m) → m.from < nodes → Contains (packets_from nodes (passed ++ bytes ∷ [])) (Mail m)
mail-given nodes [] bytes m is low = Contains-append_left (packet_from nodes (packet_of bytes)) [] (Mail m) (packet-from nodes (packet_of bytes) m is low)
mail-given nodes (x ∷ passed) bytes m is low = Contains-append_right (packet_from nodes (packet_of x)) (packets_from nodes (passed ++ bytes ∷ [])) (Mail m) (mail-given nodes passed bytes m is low)

-- ---- mail that was consumed before

-- a mail that is read is numbered from 1
between-numbered : (from to : ℕ) (bytes : List ℕ) (m : Message) → mail_between from to bytes ≡ Some m → 0 < m.number
unfolding mail_between
between-numbered from to bytes m e = by (alone (body_at bytes)) e
  where
    one : (x : (ℕ × ℕ) × List ℕ) (b : Bool) → (are_nodes from to && nat_lt 0 x.0.0 && nat_lt 0 x.0.1) ≡ b → (if b then Some (record { from = from; to = to; number = x.0.0; stamp = x.0.1; bytes = x.1 }) else None) ≡ Some m → 0 < m.number
    one x true is e =
        let it : record { from = from; to = to; number = x.0.0; stamp = x.0.1; bytes = x.1 } ≡ m = cc in
        let low : 0 < x.0.0 = ltb-true 0 x.0.0 (and-right (are_nodes from to) (nat_lt 0 x.0.0) (and-left (are_nodes from to && nat_lt 0 x.0.0) (nat_lt 0 x.0.1) is)) in
        subst (λ (y : Message). 0 < y.number) it low
    one x false is e = absurd cc

    by : (o : Option ((ℕ × ℕ) × List ℕ)) → (o >>= λ x. if are_nodes from to && nat_lt 0 x.0.0 && nat_lt 0 x.0.1 then Some (record { from = from; to = to; number = x.0.0; stamp = x.0.1; bytes = x.1 }) else None) ≡ Some m → 0 < m.number
    by None e = absurd cc
    by (Some x) e = one x (are_nodes from to && nat_lt 0 x.0.0 && nat_lt 0 x.0.1) refl e

-- what was read between two ends
pub record IsRead (m : Message) : Type 0 where
  pub from : ℕ
  pub to : ℕ
  pub rest : List ℕ
  pub between : mail_between from to rest ≡ Some m

pub mail-read : (bytes : List ℕ) (m : Message) → packet_of bytes ≡ Some (SpelledMail m) → IsRead m
unfolding packet_of
mail-read bytes m e = by (head_at bytes) e
  where
    mail : (x : (ℕ × (ℕ × ℕ)) × List ℕ) (o : Option Message) → mail_between x.0.1.0 x.0.1.1 x.1 ≡ o → (o >>= λ y. Some (SpelledMail y)) ≡ Some (SpelledMail m) → IsRead m
    mail x None is e = absurd cc
    mail x (Some y) is e = let it : y ≡ m = cc in record { from = x.0.1.0; to = x.0.1.1; rest = x.1; between = is ∙ ap (λ (z : Message). Some z) it }

    receipt : (x : (ℕ × (ℕ × ℕ)) × List ℕ) (o : Option ℕ) → (o >>= λ through. Some (Ack x.0.1.0 x.0.1.1 through)) ≡ Some (SpelledMail m) → IsRead m
    receipt x None e = absurd cc
    receipt x (Some through) e = absurd cc

    second : (x : (ℕ × (ℕ × ℕ)) × List ℕ) (b : Bool) → (if b then (through_between x.0.1.0 x.0.1.1 x.1 >>= λ through. Some (Ack x.0.1.0 x.0.1.1 through)) else None) ≡ Some (SpelledMail m) → IsRead m
    second x true e = receipt x (through_between x.0.1.0 x.0.1.1 x.1) e
    second x false e = absurd cc

    first : (x : (ℕ × (ℕ × ℕ)) × List ℕ) (b : Bool)
        → (if b then (mail_between x.0.1.0 x.0.1.1 x.1 >>= λ y. Some (SpelledMail y)) else if x.0.0 == 2 then (through_between x.0.1.0 x.0.1.1 x.1 >>= λ through. Some (Ack x.0.1.0 x.0.1.1 through)) else None) ≡ Some (SpelledMail m) → IsRead m
    first x true e = mail x (mail_between x.0.1.0 x.0.1.1 x.1) refl e
    first x false e = second x (x.0.0 == 2) e

    by : (o : Option ((ℕ × (ℕ × ℕ)) × List ℕ))
        → (o >>= λ x. if x.0.0 == 1 then (mail_between x.0.1.0 x.0.1.1 x.1 >>= λ y. Some (SpelledMail y)) else if x.0.0 == 2 then (through_between x.0.1.0 x.0.1.1 x.1 >>= λ through. Some (Ack x.0.1.0 x.0.1.1 through)) else None)
        ≡ Some (SpelledMail m) → IsRead m
    by None e = absurd cc
    by (Some x) e = first x (x.0.0 == 1) e

pub mail-numbered : (bytes : List ℕ) (m : Message) → packet_of bytes ≡ Some (SpelledMail m) → 0 < m.number
mail-numbered bytes m e = let read = mail-read bytes m e in between-numbered read.from read.to read.rest m read.between

-- a sender of the run, of which something was consumed
abbrev pub WasConsumed : Consumed → ℕ → Type 0
WasConsumed c from = (from < c.nodes) × (0 < consumed_from c from)

mail-again : (c : Consumed) (x : Message) (from : ℕ) → 0 < x.number → x.from < c.nodes → heard_mail c x ≡ Again from → WasConsumed c from
mail-again c x from numbered low e = first (nat_le x.number (consumed_from c x.from)) refl e
  where
    second : (b : Bool) → (if b then Next x else Lost) ≡ Again from → WasConsumed c from
    second true e = absurd cc
    second false e = absurd cc

    first : (b : Bool) → nat_le x.number (consumed_from c x.from) ≡ b → (if b then Again x.from else if (x.number == consumed_from c x.from + 1) && nat_lt x.stamp (2 ^ 63) then Next x else Lost) ≡ Again from → WasConsumed c from
    first true is e =
        let same : x.from ≡ from = cc in
        let most = leb-true x.number (consumed_from c x.from) is in
        subst (WasConsumed c) same (low, omega (arith, numbered, most))
    first false is e = second ((x.number == consumed_from c x.from + 1) && nat_lt x.stamp (2 ^ 63)) e

heard-again : (v : ℕ) (c : Consumed) (bytes : List ℕ) (p : Option Spelled) (from : ℕ) → packet_of bytes ≡ p → heard v c p ≡ Again from → WasConsumed c from
heard-again v c bytes None from is e = absurd cc
heard-again v c bytes (Some (Ack x to through)) from is e = absurd cc
heard-again v c bytes (Some (SpelledMail x)) from is e = here ((x.to == v) && nat_lt x.from c.nodes) refl e
  where
    here : (b : Bool) → ((x.to == v) && nat_lt x.from c.nodes) ≡ b → (if b then heard_mail c x else Lost) ≡ Again from → WasConsumed c from
    here false test e = absurd cc
    here true test e = mail-again c x from (mail-numbered bytes x is) (ltb-true x.from c.nodes (and-right (x.to == v) (nat_lt x.from c.nodes) test)) e

-- the senders whose mail is acknowledged again
pub record AreAgain (v : ℕ) (c : Consumed) (puts : List Put) : Type 0 where
  pub senders : List ℕ
  pub are : puts ≡ map (ack_put v c) senders
  pub each : AllByRecursion (WasConsumed c) senders

one-again : (v : ℕ) (c : Consumed) (bytes : List ℕ) (h : Heard) (puts : List Put) → heard v c (packet_of bytes) ≡ h → AreAgain v c puts → AreAgain v c (again_put v c h ++ puts)
one-again v c bytes (Next m) puts is rest = rest
one-again v c bytes Lost puts is rest = rest
one-again v c bytes (Again from) puts is rest = record {
  senders = from ∷ rest.senders;
  are = ap (λ (ps : List Put). ack_put v c from ∷ ps) rest.are;
  each = (heard-again v c bytes (packet_of bytes) from refl is, rest.each);
}

pub all-again : (v : ℕ) (c : Consumed) (packets : List (List ℕ)) → AreAgain v c (again_puts v c packets)
all-again v c [] = record { senders = []; are = refl; each = tt }
all-again v c (bytes ∷ packets) = one-again v c bytes (heard v c (packet_of bytes)) (again_puts v c packets) refl (all-again v c packets)

all-front : (P : ℕ → Type 0) (k : ℕ) (xs : List ℕ) → AllByRecursion P xs → AllByRecursion P (take k xs)
all-front P zero xs all = tt
all-front P (suc k) [] all = tt
all-front P (suc k) (x ∷ xs) all = (all.0, all-front P k xs all.1)

-- and a front of them
pub front-again : (v : ℕ) (c : Consumed) (all puts rest : List Put) → all ≡ puts ++ rest → AreAgain v c all → AreAgain v c puts
front-again v c all puts rest parts again = record {
  senders = take (length puts) again.senders;
  are = sym (take_at puts rest (length puts) refl) ∙ ap (take (length puts)) (sym parts ∙ again.are) ∙ take-map (ack_put v c) (length puts) again.senders;
  each = all-front (WasConsumed c) (length puts) again.senders again.each;
}
