-- Mail that was consumed before is acknowledged again.
use Rattle.std.proofs.Common.{◌≡◌, ℕ, zero, suc, ◌+◌, ◌^◌, ◌<◌, ◌≤◌, ◌==◌, ◌&&◌, nat_lt, if◌then◌else◌, List, [], ◌∷◌, ◌++◌, length, Option, Some, None, Bool, true, false, ⊎_elim, refl, sym, ap, subst, ◌∙◌, arith}
use Rattle.std.specs.List.{Contains}
use Rattle.std.proofs.lemmas.Bool.{eq-eqb, le-leb, ltb-true, lt-ltb}
use Rattle.std.proofs.lemmas.List.{length-append}
use Rattle.std.proofs.lemmas.List.Elements.{Contains-append_left, Contains-append_right, Contains-append_cases}
use Rattle.ken_model.specs.declared.messages.Message.{Message}
use Rattle.ken_model.specs.Game.{Game}
use Rattle.ken_packet.specs.declared.packet.Packet.{Packet as Spelled}
use Rattle.ken_packet.specs.declared.packet.Packet.TheVariants.{Mail as SpelledMail, Ack}
use Rattle.ken_packet.specs.Reading.{packet_of}
use Rattle.ken_net.specs.Puts.{Put}
use Rattle.ken_order.specs.Consumed.{Consumed, consumed_from}
use Rattle.ken_core.specs.Nodes.{Node}
use Rattle.ken_core.specs.Packets.{Receipt, Mail, Answer}
use Rattle.ken_core.specs.Turns.{consumed_from as count_from}
use Rattle.ken_ship.specs.Laws.{packet_from, packets_from}
use Rattle.ken_work.specs.declared.hearing.Heard.{Heard}
use Rattle.ken_work.specs.declared.hearing.Heard.TheVariants.{Next, Again, Lost}
use Rattle.ken_work.specs.Hearing.{ack_put, again_put, again_puts, heard, heard_mail}
use Rattle.ken_node.specs.NodeTurns.{IsAnsweredIn}
use Rattle.ken_whole.proofs.NextMails.{mail-numbered}
use Rattle.ken_node.proofs.TurnSpelled.{ack-spelled}

-- at most one put a packet
one-few : (v : ℕ) (c : Consumed) (h : Heard) → length (again_put v c h) ≤ 1
one-few v c (Next m) = omega arith
one-few v c (Again from) = omega arith
one-few v c Lost = omega arith

pub again-few : (v : ℕ) (c : Consumed) (packets : List (List ℕ)) → length (again_puts v c packets) ≤ length packets
again-few v c [] = omega arith
again-few v c (bytes ∷ packets) =
    let h : Heard = heard v c (packet_of bytes) in
    let one = one-few v c h in
    let rest = again-few v c packets in
    let both = length-append (again_put v c h) (again_puts v c packets) in
    omega (arith, one, rest, both)

heard-old : (v : ℕ) (c : Consumed) (m : Message) → m.to ≡ v → m.from < c.nodes → m.number ≤ consumed_from c m.from → heard v c (Some (SpelledMail m)) ≡ Again m.from
heard-old v c m to low old =
    ap (λ (b : Bool). if b && nat_lt m.from c.nodes then heard_mail c m else Lost) (eq-eqb m.to v to)
    ∙ ap (λ (b : Bool). if b then heard_mail c m else Lost) (lt-ltb m.from c.nodes low)
    ∙ ap (λ (b : Bool). if b then Again m.from else if (m.number == consumed_from c m.from + 1) && nat_lt m.stamp (2 ^ 63) then Next m else Lost) (le-leb m.number (consumed_from c m.from) old)

-- ---- the mail that bytes are

pub none-in : {A : Type 0} (x : A) → Contains [] x → ⊥
none-in x (k, low, is) = omega (arith, low)

pub one-in : {A : Type 0} (x y : A) → Contains (x ∷ []) y → x ≡ y
one-in x y (zero, low, is) = is
one-in x y (suc k, low, is) = absurd (omega (arith, low))

-- it is this mail, from a node of the run
record IsMailIn (nodes : ℕ) (o : Option Spelled) (m : Message) : Type 0 where
  mail : o ≡ Some (SpelledMail m)
  from : m.from < nodes

mail-in : (nodes : ℕ) (o : Option Spelled) (m : Message) → Contains (packet_from nodes o) (Mail m) → IsMailIn nodes o m
mail-in nodes None m has = absurd (none-in (Mail m) has)
mail-in nodes (Some (Ack from to through)) m has = by (nat_lt from nodes) has
  where
    other : (a : Receipt) → Answer a ≡ Mail m → ⊥
    other a e = cc

    by : (b : Bool) → Contains (if b then Answer (record { from = from; to = to; through = through }) ∷ [] else []) (Mail m) → IsMailIn nodes (Some (Ack from to through)) m
    by true has = absurd (other (record { from = from; to = to; through = through }) (one-in (Answer (record { from = from; to = to; through = through })) (Mail m) has))
    by false has = absurd (none-in (Mail m) has)
mail-in nodes (Some (SpelledMail x)) m has = by (nat_lt x.from nodes) refl has
  where
    mails : Mail x ≡ Mail m → x ≡ m
    mails e = cc

    by : (b : Bool) → nat_lt x.from nodes ≡ b → Contains (if b then Mail x ∷ [] else []) (Mail m) → IsMailIn nodes (Some (SpelledMail x)) m
    by true low has =
        let same : x ≡ m = mails (one-in (Mail x) (Mail m) has) in
        record { mail = ap (λ (y : Message). Some (SpelledMail y)) same; from = subst (λ (y : Message). y.from < nodes) same (ltb-true x.from nodes low) }
    by false low has = absurd (none-in (Mail m) has)

-- ---- it is acknowledged

module _ (g : Game) (v : ℕ) (n : Node) where
  pub more-left : (puts rest : List Put) (from : ℕ) → IsAnsweredIn g v n puts from → IsAnsweredIn g v n (puts ++ rest) from
  more-left puts rest from is = record { put = is.put; one = Contains-append_left puts rest is.put is.one; packet = is.packet; to = is.to }

  more-right : (front puts : List Put) (from : ℕ) → IsAnsweredIn g v n puts from → IsAnsweredIn g v n (front ++ puts) from
  more-right front puts from is = record { put = is.put; one = Contains-append_right front puts is.put is.one; packet = is.packet; to = is.to }

module _ (g : Game) (v : ℕ) (n : Node) (c : Consumed) (few : g.nodes ≤ 8) (known : v < g.nodes) (same : c.nodes ≡ g.nodes) (counts : (u : ℕ) → u < g.nodes → consumed_from c u ≡ count_from u n.turning.turns) (short : length n.turning.turns < 2 ^ 64) where
  acked-again : (m : Message) → m.from < g.nodes → 0 < m.number → m.number ≤ count_from m.from n.turning.turns → IsAnsweredIn g v n (ack_put v c m.from ∷ []) m.from
  acked-again m low some old =
      let spelled = ack-spelled g.nodes v n c few known counts short m.from (low, omega (arith, some, old)) in
      record { put = ack_put v c m.from; one = (0, omega arith, refl); packet = spelled.packet; to = refl }

  pub again-answered : (packets : List (List ℕ)) (m : Message) → Contains (packets_from g.nodes packets) (Mail m) → m.to ≡ v → m.number ≤ count_from m.from n.turning.turns → IsAnsweredIn g v n (again_puts v c packets) m.from
  again-answered [] m has to old = absurd (none-in (Mail m) has)
  again-answered (bytes ∷ packets) m has to old =
      ⊎_elim
      (λ (mine : Contains (packet_from g.nodes (packet_of bytes)) (Mail m)).
      let it = mail-in g.nodes (packet_of bytes) m mine in
      let from = it.from in
      let counted : consumed_from c m.from ≡ count_from m.from n.turning.turns = counts m.from from in
      let is : heard v c (packet_of bytes) ≡ Again m.from = ap (heard v c) it.mail ∙ heard-old v c m to (omega (arith, from, same)) (omega (arith, old, counted)) in
      more-left g v n (again_put v c (heard v c (packet_of bytes))) (again_puts v c packets) m.from
      (subst (λ (h : Heard). IsAnsweredIn g v n (again_put v c h) m.from) (sym is) (acked-again m from (mail-numbered bytes m it.mail) old)))
      (λ (later : Contains (packets_from g.nodes packets) (Mail m)). more-right g v n (again_put v c (heard v c (packet_of bytes))) (again_puts v c packets) m.from (again-answered packets m later to old))
      (Contains-append_cases (packet_from g.nodes (packet_of bytes)) (packets_from g.nodes packets) (Mail m) has)
