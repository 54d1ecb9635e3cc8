-- What the workers put is what the core has put, each packet handed in alone.
use Rattle.std.proofs.Common.{◌≡◌, ℕ, zero, suc, ◌^◌, ◌<◌, ◌≤◌, List, [], ◌∷◌, ◌++◌, length, map, take, cond, nat_lt, Option, Some, None, Bool, true, false, refl, sym, ap, subst, ◌∙◌, arith}
use Rattle.std.specs.List.{AllByRecursion, flat_map}
use Rattle.std.proofs.lemmas.Bool.{false≢true, lt-ltb}
use Rattle.std.proofs.lemmas.List.Elements.{recursion_from_All}
use Rattle.ken_model.specs.declared.messages.Message.{Message}
use Rattle.ken_model.specs.declared.messages.Out.{Out}
use Rattle.ken_model.specs.Game.{Game}
use Rattle.ken_packet.specs.declared.packet.Packet.TheVariants.{Mail as SpelledMail}
use Rattle.ken_packet.specs.Packets.{ack_bytes}
use Rattle.ken_packet.proofs.Whole.{packet_again}
use Rattle.ken_net.specs.Puts.{Put}
use Rattle.ken_order.specs.Consumed.{Consumed, consumed_from}
use Rattle.ken_outbox.specs.Waiting.{Unacked, Waiting}
use Rattle.ken_core.specs.declared.events.Event.{Event}
use Rattle.ken_core.specs.declared.events.Event.TheVariants.{Seal, SealCut, Patch, SyncImage, Turnover, Send, Ack, TakeAck, Emit, Crash, Recover}
use Rattle.ken_core.specs.Nodes.{Node}
use Rattle.ken_core.specs.Packets.{Packet, Mail, Answer, Outgoing, due, emitted_out, mail_out, one_after_other, outgoing, put_by, receipt_of, unacked}
use Rattle.ken_core.specs.Packets as core
use Rattle.ken_core.specs.Runs.{NodeRun}
use Rattle.ken_core.specs.Steps.{NodeStep}
use Rattle.ken_core.specs.Turns.{consumed_from as count_from}
use Rattle.ken_ship.specs.declared.items.Sealed.{Sealed}
use Rattle.ken_ship.specs.declared.sending.TheConstants.{MOST_DUE}
use Rattle.ken_ship.specs.declared.worker.SendWorker.{SendWorker}
use Rattle.ken_ship.specs.Fits.{AreMails, IsMailFrom, IsMailTo}
use Rattle.ken_ship.specs.Handing.{mails_of, with_turn, with_turns}
use Rattle.ken_ship.specs.Laws.{line_of, mails_out, packet_from}
use Rattle.ken_ship.specs.Parts.{part_of}
use Rattle.ken_ship.specs.Sending.{due_to, mail_put}
use Rattle.ken_ship.proofs.Lines.{mails_from, sends_are_mails}
use Rattle.ken_work.specs.Hearing.{ack_put}
use Rattle.ken_node.specs.NodeCalls.{AreSpelled, IsSpelled}
use Rattle.ken_whole.specs.TurnLaws.{acks_out}
use Rattle.ken_node.proofs.TurnSpelled.{OfRun, ack-spelled, spelled-append}
use Rattle.ken_beside.specs.Puts.{WerePut, put_of, puts_of}

-- ---- lists of puts

pub puts_of-append : (xs ys : List core.Put) → puts_of (xs ++ ys) ≡ puts_of xs ++ puts_of ys
puts_of-append [] ys = refl
puts_of-append (x ∷ xs) ys = ap (λ (ps : List Put). put_of x.packet ∷ ps) (puts_of-append xs ys)

-- ---- acknowledgements of a run are of messages of its nodes

abbrev PutOfRun : ℕ → core.Put → Type 0
PutOfRun nodes p = OfRun nodes p.packet

both : (nodes : ℕ) (ps qs : List core.Put) → AllByRecursion (PutOfRun nodes) ps → AllByRecursion (PutOfRun nodes) qs → AllByRecursion (PutOfRun nodes) (ps ++ qs)
both nodes [] qs one two = two
both nodes (p ∷ ps) qs one two = (one.0, both nodes ps qs one.1 two)

front : (nodes : ℕ) (ps qs : List core.Put) → AllByRecursion (PutOfRun nodes) (ps ++ qs) → AllByRecursion (PutOfRun nodes) ps
front nodes [] qs all = tt
front nodes (p ∷ ps) qs all = (all.0, front nodes ps qs all.1)

back : (nodes : ℕ) (ps qs : List core.Put) → AllByRecursion (PutOfRun nodes) (ps ++ qs) → AllByRecursion (PutOfRun nodes) qs
back nodes [] qs all = all
back nodes (p ∷ ps) qs all = back nodes ps qs all.1

module _ (g : Game) (given : Packet → Type 0) (v : ℕ) where
  mail-of-run : (to : ℕ) (n : Node) (m : Option Message) → AllByRecursion (PutOfRun g.nodes) (mail_out v to n m).puts
  mail-of-run to n None = tt
  mail-of-run to n (Some m) = (tt, tt)

  out-of-run : (o : Option Out) → AllByRecursion (PutOfRun g.nodes) (emitted_out o).puts
  out-of-run None = tt
  out-of-run (Some o) = tt

  event-of-run : (n mid : Node) (e : Event) → NodeStep g given v n e mid → AllByRecursion (PutOfRun g.nodes) (outgoing v n e).puts
  event-of-run n mid (Seal node from draws pages) step = tt
  event-of-run n mid (SealCut node from draws pages landed) step = tt
  event-of-run n mid (Patch node page) step = tt
  event-of-run n mid (SyncImage node) step = tt
  event-of-run n mid (Turnover node outcome told) step = tt
  event-of-run n mid (Send node to i) step = mail-of-run to n (unacked v to i n)
  event-of-run n mid (Ack node from) step = ((step.1, step.2), tt)
  event-of-run n mid (TakeAck node from through) step = tt
  event-of-run n mid (Emit node) step = out-of-run (due n)
  event-of-run n mid (Crash node pages) step = tt
  event-of-run n mid (Recover node) step = tt

  run-of-run : (n n2 : Node) (es : List Event) (out : Outgoing) → NodeRun g given v n es out n2 → AllByRecursion (PutOfRun g.nodes) out.puts
  run-of-run n n2 [] out run = subst (λ (o : Outgoing). AllByRecursion (PutOfRun g.nodes) o.puts) (sym run.0) tt
  run-of-run n n2 (e ∷ es) out run =
      subst (λ (o : Outgoing). AllByRecursion (PutOfRun g.nodes) o.puts) (sym run.1.1.2)
      (both g.nodes (outgoing v n e).puts run.1.0.puts (event-of-run n run.0 e run.1.1.1) (run-of-run run.0 n2 es run.1.0 run.1.1.3))

-- ---- what a handler puts

module _ (nodes v : ℕ) (n : Node) (c : Consumed) (few : nodes ≤ 8) (known : v < nodes) (counts : (u : ℕ) → u < nodes → consumed_from c u ≡ count_from u n.turning.turns) (short : length n.turning.turns < 2 ^ 64) where
  acks-are : (froms : List ℕ) → AllByRecursion (PutOfRun nodes) (acks_out v n froms).puts → puts_of (acks_out v n froms).puts ≡ map (ack_put v c) froms
  acks-are [] all = refl
  acks-are (from ∷ froms) all =
      let first : put_of (Answer (receipt_of v from n)) ≡ ack_put v c from =
      ap (λ (k : ℕ). let p : Put = record { to = from; bytes = ack_bytes v from k; sealed = []; consumed = (from, k) ∷ [] } in p) (sym (counts from all.0.0)) in
      ap (λ (p : Put). p ∷ puts_of (acks_out v n froms).puts) first ∙ ap (λ (ps : List Put). ack_put v c from ∷ ps) (acks-are froms all.1)

  acks-spelled : (froms : List ℕ) → AllByRecursion (PutOfRun nodes) (acks_out v n froms).puts → AreSpelled nodes (map (ack_put v c) froms) (acks_out v n froms).puts
  acks-spelled [] all = tt
  acks-spelled (from ∷ froms) all = (ack-spelled nodes v n c few known counts short from all.0, acks-spelled froms all.1)

  acks-put : (froms : List ℕ) → AllByRecursion (PutOfRun nodes) (acks_out v n froms).puts → (puts_of (acks_out v n froms).puts ≡ map (ack_put v c) froms) × AreSpelled nodes (puts_of (acks_out v n froms).puts) (acks_out v n froms).puts
  acks-put froms all =
      let are = acks-are froms all in
      (are, subst (λ (ps : List Put). AreSpelled nodes ps (acks_out v n froms).puts) (sym are) (acks-spelled froms all))

-- those of a call: some before its turn, and some after
pub handler-put : (g : Game) (given : Packet → Type 0) (v : ℕ) (n n2 : Node) (es : List Event) (before last : List ℕ) (c c2 : Consumed) (put : List Put → Type 0) → g.nodes ≤ 8 → v < g.nodes
    → ((u : ℕ) → u < g.nodes → consumed_from c u ≡ count_from u n.turning.turns) → ((u : ℕ) → u < g.nodes → consumed_from c2 u ≡ count_from u n2.turning.turns) → length n.turning.turns < 2 ^ 64 → length n2.turning.turns < 2 ^ 64
    → NodeRun g given v n es (one_after_other (acks_out v n before) (acks_out v n2 last)) n2 → put (map (ack_put v c) before ++ map (ack_put v c2) last)
    → WerePut g.nodes put (one_after_other (acks_out v n before) (acks_out v n2 last)).puts
handler-put g given v n n2 es before last c c2 put few known counts counts2 short short2 run were =
    let all = run-of-run g given v n n2 es (one_after_other (acks_out v n before) (acks_out v n2 last)) run in
    let one = acks-put g.nodes v n c few known counts short before (front g.nodes (acks_out v n before).puts (acks_out v n2 last).puts all) in
    let two = acks-put g.nodes v n2 c2 few known counts2 short2 last (back g.nodes (acks_out v n before).puts (acks_out v n2 last).puts all) in
    let parts = puts_of-append (acks_out v n before).puts (acks_out v n2 last).puts in
    let are : puts_of ((acks_out v n before).puts ++ (acks_out v n2 last).puts) ≡ map (ack_put v c) before ++ map (ack_put v c2) last =
    parts ∙ ap (λ (ps : List Put). ps ++ puts_of (acks_out v n2 last).puts) one.0 ∙ ap (λ (ps : List Put). map (ack_put v c) before ++ ps) two.0 in
    record {
      were_put = subst put (sym are) were;
      spelled =
          subst (λ (ps : List Put). AreSpelled g.nodes ps ((acks_out v n before).puts ++ (acks_out v n2 last).puts)) (sym parts)
          (spelled-append g.nodes (puts_of (acks_out v n before).puts) (puts_of (acks_out v n2 last).puts) (acks_out v n before).puts (acks_out v n2 last).puts one.1 two.1);
    }

-- ---- what an externaliser puts

due-mails : (v : ℕ) (turns : List Sealed) (w : Waiting) → v < 8 → AreMails v w.lines → AreMails v (with_turns v turns w).lines
due-mails v [] w low were = were
due-mails v (s ∷ ss) w low were = due-mails v ss (with_turn v s w) low (sends_are_mails v w.lines (mails_of v s) (mails_from v s.stamp s.sends low s.fits) were)

pub lines-mails : (s : SendWorker) → AreMails s.backlog.node (part_of s).due.lines
lines-mails s = due-mails s.backlog.node s.backlog.turns.items s.backlog.outbox s.backlog.low s.backlog.mails

taken-mails : (v u k : ℕ) (ms : List Message) → AllByRecursion (IsMailTo v u) ms → AllByRecursion (IsMailFrom v) (take k ms)
taken-mails v u zero ms each = tt
taken-mails v u (suc k) [] each = tt
taken-mails v u (suc k) (m ∷ ms) each = (record { is = each.0.is; from = each.0.from }, taken-mails v u k ms each.1)

mails-both : (v : ℕ) (ms more : List Message) → AllByRecursion (IsMailFrom v) ms → AllByRecursion (IsMailFrom v) more → AllByRecursion (IsMailFrom v) (ms ++ more)
mails-both v [] more each later = later
mails-both v (m ∷ ms) more each later = (each.0, mails-both v ms more each.1 later)

pub all-mails : (v : ℕ) (lines : List Unacked) (us : List ℕ) → AreMails v lines → AllByRecursion (IsMailFrom v) (flat_map (due_to lines) us)
all-mails v lines [] are = tt
all-mails v lines (u ∷ us) are =
    mails-both v (due_to lines u) (flat_map (due_to lines) us) (taken-mails v u MOST_DUE (line_of lines u).messages (recursion_from_All (IsMailTo v u) (line_of lines u).messages (are u))) (all-mails v lines us are)

from-node : (nodes : ℕ) (m : Message) (b : Bool) → nat_lt m.from nodes ≡ b → m.from < nodes → cond b (Mail m ∷ []) [] ≡ Mail m ∷ []
from-node nodes m true e low = refl
from-node nodes m false e low = absurd (false≢true (sym e ∙ lt-ltb m.from nodes low))

mail-spelled : (nodes v : ℕ) (n : Node) (m : Message) → v < nodes → IsMailFrom v m → IsSpelled nodes (mail_put m) (put_by v m.to n (Mail m))
mail-spelled nodes v n m low is = record {
  packet = ap (packet_from nodes) (packet_again (SpelledMail m) is.is) ∙ from-node nodes m (nat_lt m.from nodes) refl (let from = is.from in omega (arith, from, low));
  to = refl;
}

-- messages that were put are these, so each is a mail of the node
same-mails : (v : ℕ) (xs ms : List Message) → map mail_put xs ≡ map mail_put ms → AllByRecursion (IsMailFrom v) xs → AllByRecursion (IsMailFrom v) ms
same-mails v [] [] e each = tt
same-mails v [] (m ∷ ms) e each = absurd cc
same-mails v (x ∷ xs) [] e each = absurd cc
same-mails v (x ∷ xs) (m ∷ ms) e each =
    let first : mail_put x ≡ mail_put m = cc in
    let rest : map mail_put xs ≡ map mail_put ms = cc in
    let alone : x ∷ [] ≡ m ∷ [] = ap (λ (p : Put). p.sealed) first in
    let same : x ≡ m = cc in
    (subst (IsMailFrom v) same each.0, same-mails v xs ms rest each.1)

mails-are : (v : ℕ) (n : Node) (ms : List Message) → puts_of (mails_out v n ms).puts ≡ map mail_put ms
mails-are v n [] = refl
mails-are v n (m ∷ ms) = ap (λ (ps : List Put). mail_put m ∷ ps) (mails-are v n ms)

mails-spelled : (nodes v : ℕ) (n : Node) (ms : List Message) → v < nodes → AllByRecursion (IsMailFrom v) ms → AreSpelled nodes (puts_of (mails_out v n ms).puts) (mails_out v n ms).puts
mails-spelled nodes v n [] low each = tt
mails-spelled nodes v n (m ∷ ms) low each = (mail-spelled nodes v n m low each.0, mails-spelled nodes v n ms low each.1)

pub mails-put : (nodes v : ℕ) (n : Node) (put : List Put → Type 0) (puts : List Put) (due ms : List Message) → v < nodes → put puts → puts ≡ map mail_put due → puts ≡ map mail_put ms → AllByRecursion (IsMailFrom v) due → WerePut nodes put (mails_out v n ms).puts
mails-put nodes v n put puts due ms low were are is each = record {
  were_put = subst put (is ∙ sym (mails-are v n ms)) were;
  spelled = mails-spelled nodes v n ms low (same-mails v due ms (sym are ∙ is) each);
}

-- ---- puts one after another

pub none-put : (nodes : ℕ) (put : List Put → Type 0) → put [] → WerePut nodes put []
none-put nodes put none = record { were_put = none; spelled = tt }

pub put-then : (nodes : ℕ) (first second all : List Put → Type 0) (ps qs : List core.Put) → ((xs ys : List Put) → first xs → second ys → all (xs ++ ys)) → WerePut nodes first ps → WerePut nodes second qs → WerePut nodes all (ps ++ qs)
put-then nodes first second all ps qs joins one two = record {
  were_put = subst all (sym (puts_of-append ps qs)) (joins (puts_of ps) (puts_of qs) one.were_put two.were_put);
  spelled = subst (λ (xs : List Put). AreSpelled nodes xs (ps ++ qs)) (sym (puts_of-append ps qs)) (spelled-append nodes (puts_of ps) (puts_of qs) ps qs one.spelled two.spelled);
}
