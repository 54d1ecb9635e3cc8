-- A message that came to a node is short.
use Rattle.std.proofs.Common.{◌≡◌, ℕ, zero, suc, ◌-◌, ◌<◌, inl, inr, ltb-true, Bool, true, false, ◌==◌, ◌&&◌, nat_lt, if◌then◌else◌, List, [], ◌∷◌, length, take, drop, Contains, Option, Some, None, refl, ap, subst, ⊎_elim, arith}
use Rattle.std.proofs.lemmas.Bool.{ltb-false}
use Rattle.std.proofs.lemmas.List.{length-take}
use Rattle.std.proofs.lemmas.List.Elements.{Contains-append_cases}
use Rattle.ken_model.specs.declared.messages.Message.{Message}
use Rattle.ken_model.specs.Game.{Game}
use Rattle.ken_model.specs.Limits.{IsWithinLimits}
use Rattle.ken_app.specs.Turning.{IsShortText}
use Rattle.ken_order.specs.Consumed.{IsSender}
use Rattle.ken_record.specs.Reading.{◌>>=◌, number_at, part_at, text_at}
use Rattle.ken_record.proofs.Forms.{bind_some, if_none, if_some, some_is}
use Rattle.ken_packet.specs.declared.packet.Packet.{Packet as Spelled}
use Rattle.ken_packet.specs.declared.packet.Packet.TheVariants.{Mail as SpelledMail, Ack}
use Rattle.ken_packet.specs.Reading.{are_nodes, alone, body_at, counts_at, mail_between, packet_of}
use Rattle.ken_core.specs.Enabled.{Came}
use Rattle.ken_core.specs.Packets.{Packet, Answer, Mail}
use Rattle.ken_ship.specs.Laws.{packet_from, packets_from}
use Rattle.ken_whole.proofs.InputsOf.{inputs_are}
use Rattle.ken_whole.proofs.NextMails.{mail-read}

-- ---- a text that is read

short-text : (bytes : List ℕ) (x : List ℕ × List ℕ) → text_at bytes ≡ Some x → IsShortText x.0
unfolding text_at part_at
short-text bytes x e =
    let n = bind_some (number_at 2 bytes) (λ (k : ℕ × List ℕ). if nat_lt 512 k.0 then None else part_at k.0 k.1) x e in
    let few = if_none (nat_lt 512 n.0.0) (part_at n.0.0 n.0.1) x n.2 in
    let enough = if_none (nat_lt (length n.0.1) n.0.0) (Some (take n.0.0 n.0.1, drop n.0.0 n.0.1)) x few.1 in
    let is : take n.0.0 n.0.1 ≡ x.0 = cc in
    let most = ltb-false 512 n.0.0 few.0 in
    omega (arith, most, length-take n.0.0 n.0.1, ap length is)

abbrev Body : Type 0
Body = ((ℕ × ℕ) × List ℕ) × List ℕ

short-body : (bytes : List ℕ) (x : Body) → body_at bytes ≡ Some x → IsShortText x.0.1
unfolding body_at
short-body bytes x e =
    let counts = bind_some (counts_at bytes) (λ (a : (ℕ × ℕ) × List ℕ). text_at a.1 >>= λ b. Some ((a.0, b.0), b.1)) x e in
    let text = bind_some (text_at counts.0.1) (λ (b : List ℕ × List ℕ). Some ((counts.0.0, b.0), b.1)) x counts.2 in
    let is : ((counts.0.0, text.0.0), text.0.1) ≡ x = some_is {A = Body} ((counts.0.0, text.0.0), text.0.1) x text.2 in
    let short = short-text counts.0.1 text.0 text.1 in
    subst (λ (y : Body). IsShortText y.0.1) is short

short-between : (from to : ℕ) (bytes : List ℕ) (m : Message) → mail_between from to bytes ≡ Some m → IsShortText m.bytes
unfolding mail_between
short-between from to bytes m e =
    let read = bind_some (alone (body_at bytes)) (λ (x : (ℕ × ℕ) × List ℕ). if are_nodes from to && nat_lt 0 x.0.0 && nat_lt 0 x.0.1 then Some (record { from = from; to = to; number = x.0.0; stamp = x.0.1; bytes = x.1 }) else None) m e in
    let made = if_some (are_nodes from to && nat_lt 0 read.0.0.0 && nat_lt 0 read.0.0.1) (Some (record { from = from; to = to; number = read.0.0.0; stamp = read.0.0.1; bytes = read.0.1 })) m read.2 in
    let body = bind_some (body_at bytes) (λ (x : ((ℕ × ℕ) × List ℕ) × List ℕ). if length x.1 == 0 then Some x.0 else None) read.0 read.1 in
    let whole = if_some (length body.0.1 == 0) (Some body.0.0) read.0 body.2 in
    let bytes_are : body.0.0.1 ≡ m.bytes = cc in
    let short = short-body bytes body.0 body.1 in
    omega (arith, short, ap length bytes_are)

-- ---- a mail that was given

given-short : (nodes : ℕ) (p : Option Spelled) (m : Message) → ((x : Message) → p ≡ Some (SpelledMail x) → IsShortText x.bytes) → Contains (packet_from nodes p) (Mail m) → IsShortText m.bytes
given-short nodes None m short has = absurd (none has)
  where
    none : Contains {X = Packet} [] (Mail m) → ⊥
    none has = omega (arith, has.1)
given-short nodes (Some (Ack from to through)) m short has = by (nat_lt from nodes) has
  where
    by : (b : Bool) → Contains (if b then Answer (record { from = from; to = to; through = through }) ∷ [] else []) (Mail m) → IsShortText m.bytes
    by true (zero, low, is) = absurd cc
    by true (suc k, low, is) = absurd (omega (arith, low))
    by false (k, low, is) = absurd (omega (arith, low))
given-short nodes (Some (SpelledMail x)) m short has = by (nat_lt x.from nodes) has
  where
    by : (b : Bool) → Contains (if b then Mail x ∷ [] else []) (Mail m) → IsShortText m.bytes
    by true (zero, low, is) = let same : x ≡ m = cc in let before = short x refl in omega (arith, before, ap (λ (y : Message). length y.bytes) same)
    by true (suc k, low, is) = absurd (omega (arith, low))
    by false (k, low, is) = absurd (omega (arith, low))

mail-short : (nodes : ℕ) (given : List (List ℕ)) (m : Message) → Contains (packets_from nodes given) (Mail m) → IsShortText m.bytes
mail-short nodes [] m has = absurd (omega (arith, has.1))
mail-short nodes (bytes ∷ given) m has = ⊎_elim
    (λ here. given-short nodes (packet_of bytes) m (λ x is. let read = mail-read bytes x is in short-between read.from read.to read.rest x read.between) here)
    (λ later. mail-short nodes given m later)
    (Contains-append_cases (packet_from nodes (packet_of bytes)) (packets_from nodes given) (Mail m) has)

-- its sender is one of the run
given-known : (nodes : ℕ) (p : Option Spelled) (m : Message) → Contains (packet_from nodes p) (Mail m) → m.from < nodes
given-known nodes None m has = absurd (omega (arith, has.1))
given-known nodes (Some (Ack from to through)) m has = by (nat_lt from nodes) has
  where
    by : (b : Bool) → Contains (if b then Answer (record { from = from; to = to; through = through }) ∷ [] else []) (Mail m) → m.from < nodes
    by true (zero, low, is) = absurd cc
    by true (suc k, low, is) = absurd (omega (arith, low))
    by false (k, low, is) = absurd (omega (arith, low))
given-known nodes (Some (SpelledMail x)) m has = by (nat_lt x.from nodes) refl has
  where
    by : (b : Bool) → nat_lt x.from nodes ≡ b → Contains (if b then Mail x ∷ [] else []) (Mail m) → m.from < nodes
    by true known (zero, low, is) = let same : x ≡ m = cc in let below = ltb-true x.from nodes known in omega (arith, below, ap (λ (y : Message). y.from) same)
    by true known (suc k, low, is) = absurd (omega (arith, low))
    by false known (k, low, is) = absurd (omega (arith, low))

mail-known : (nodes : ℕ) (given : List (List ℕ)) (m : Message) → Contains (packets_from nodes given) (Mail m) → m.from < nodes
mail-known nodes [] m has = absurd (omega (arith, has.1))
mail-known nodes (bytes ∷ given) m has = ⊎_elim
    (λ here. given-known nodes (packet_of bytes) m here)
    (λ later. mail-known nodes given m later)
    (Contains-append_cases (packet_from nodes (packet_of bytes)) (packets_from nodes given) (Mail m) has)

-- the sender of what came is a node of the run or the outside
pub came-known : (g : Game) (given : List (List ℕ)) (v : ℕ) (m : Message) → Came g (Contains (packets_from g.nodes given)) v m → IsSender g.nodes m.from
came-known g given v m came = ⊎_elim (λ mail. inl (mail-known g.nodes given m mail)) (λ input. inr input.0) came

-- a mail that was given to the node, or an input
pub came-short : (g : Game) (given : List (List ℕ)) (v : ℕ) (m : Message) → IsWithinLimits g → Came g (Contains (packets_from g.nodes given)) v m → IsShortText m.bytes
came-short g given v m limits came = ⊎_elim
    (λ mail. mail-short g.nodes given m mail)
    (λ input. (inputs_are g v limits (m.number - 1) m input.1).short)
    came
