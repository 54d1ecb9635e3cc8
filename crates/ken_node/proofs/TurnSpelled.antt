-- What a node's handler puts spells the acknowledgements of the core.
use Rattle.std.proofs.Common.{◌≡◌, ℕ, ◌^◌, ◌<◌, ◌≤◌, List, [], ◌∷◌, ◌++◌, length, map, cond, nat_lt, ◌==◌, Option, Some, None, Bool, true, false, refl, sym, ap, subst, ◌∙◌, arith}
use Rattle.std.specs.List.{AllByRecursion}
use Rattle.std.proofs.lemmas.Bool.{false≢true, lt-ltb}
use Rattle.std.proofs.lemmas.List.Sums.{count_by-le-length}
use Rattle.ken_model.specs.declared.messages.Message.{Message}
use Rattle.ken_model.specs.declared.messages.Out.{Out}
use Rattle.ken_model.specs.Game.{Game}
use Rattle.ken_record.specs.declared.effects.Effects.{Effects}
use Rattle.ken_record.specs.Grammar.{IsCount}
use Rattle.ken_packet.specs.declared.packet.Packet.TheVariants as spelled
use Rattle.ken_packet.specs.Packets.{ack_bytes}
use Rattle.ken_packet.proofs.Whole.{packet_again}
use Rattle.ken_net.specs.Puts.{Put}
use Rattle.ken_order.specs.Consumed.{Consumed, consumed_from}
use Rattle.ken_core.specs.declared.events.Event.{Event}
use Rattle.ken_core.specs.declared.events.Event.TheVariants.{Seal, SealCut, Patch, SyncImage, Turnover, Send, Ack, TakeAck, Emit, Crash, Recover}
use Rattle.ken_core.specs.Nodes.{Node}
use Rattle.ken_core.specs.Packets.{Packet, Mail, Answer, Outgoing, due, emitted_out, mail_out, one_after_other, outgoing, put_by, receipt_of, unacked}
use Rattle.ken_core.specs.Packets as core
use Rattle.ken_core.specs.Runs.{NodeRun}
use Rattle.ken_core.specs.Steps.{NodeStep}
use Rattle.ken_core.specs.Turns.{consumed_from as count_from}
use Rattle.ken_ship.specs.Laws.{packet_from}
use Rattle.ken_work.specs.Hearing.{ack_put}
use Rattle.ken_node.specs.NodeCalls.{AreSpelled, IsSpelled}
use Rattle.ken_whole.specs.TurnLaws.{acks_out}

-- ---- lists of puts

pub spelled-append : (nodes : ℕ) (ps qs : List Put) (xs ys : List core.Put) → AreSpelled nodes ps xs → AreSpelled nodes qs ys → AreSpelled nodes (ps ++ qs) (xs ++ ys)
spelled-append nodes [] qs [] ys one two = two
spelled-append nodes [] qs (x ∷ xs) ys one two = absurd one
spelled-append nodes (p ∷ ps) qs [] ys one two = absurd one
spelled-append nodes (p ∷ ps) qs (x ∷ xs) ys one two = (one.0, spelled-append nodes ps qs xs ys one.1 two)

-- an acknowledgement is of some message of a node of the run
abbrev pub OfRun : ℕ → Packet → Type 0
OfRun nodes (Mail m) = Unit {0}
OfRun nodes (Answer a) = (a.to < nodes) × (0 < a.through)

abbrev PutOfRun : ℕ → core.Put → Type 0
PutOfRun nodes p = OfRun nodes p.packet

both : (nodes : ℕ) (ps qs : List core.Put) → AllByRecursion (PutOfRun nodes) ps → AllByRecursion (PutOfRun nodes) qs → AllByRecursion (PutOfRun nodes) (ps ++ qs)
both nodes [] qs one two = two
both nodes (p ∷ ps) qs one two = (one.0, both nodes ps qs one.1 two)

front : (nodes : ℕ) (ps qs : List core.Put) → AllByRecursion (PutOfRun nodes) (ps ++ qs) → AllByRecursion (PutOfRun nodes) ps
front nodes [] qs all = tt
front nodes (p ∷ ps) qs all = (all.0, front nodes ps qs all.1)

back : (nodes : ℕ) (ps qs : List core.Put) → AllByRecursion (PutOfRun nodes) (ps ++ qs) → AllByRecursion (PutOfRun nodes) qs
back nodes [] qs all = all
back nodes (p ∷ ps) qs all = back nodes ps qs all.1

-- ---- what the events of a run put

module _ (g : Game) (given : Packet → Type 0) (v : ℕ) where
  mail-of-run : (to : ℕ) (n : Node) (m : Option Message) → AllByRecursion (PutOfRun g.nodes) (mail_out v to n m).puts
  mail-of-run to n None = tt
  mail-of-run to n (Some m) = (tt, tt)

  out-of-run : (o : Option Out) → AllByRecursion (PutOfRun g.nodes) (emitted_out o).puts
  out-of-run None = tt
  out-of-run (Some o) = tt

  event-of-run : (n mid : Node) (e : Event) → NodeStep g given v n e mid → AllByRecursion (PutOfRun g.nodes) (outgoing v n e).puts
  event-of-run n mid (Seal node from draws pages) step = tt
  event-of-run n mid (SealCut node from draws pages landed) step = tt
  event-of-run n mid (Patch node page) step = tt
  event-of-run n mid (SyncImage node) step = tt
  event-of-run n mid (Turnover node outcome told) step = tt
  event-of-run n mid (Send node to i) step = mail-of-run to n (unacked v to i n)
  event-of-run n mid (Ack node from) step = ((step.1, step.2), tt)
  event-of-run n mid (TakeAck node from through) step = tt
  event-of-run n mid (Emit node) step = out-of-run (due n)
  event-of-run n mid (Crash node pages) step = tt
  event-of-run n mid (Recover node) step = tt

  run-of-run : (n n2 : Node) (es : List Event) (out : Outgoing) → NodeRun g given v n es out n2 → AllByRecursion (PutOfRun g.nodes) out.puts
  run-of-run n n2 [] out run = subst (λ (o : Outgoing). AllByRecursion (PutOfRun g.nodes) o.puts) (sym run.0) tt
  run-of-run n n2 (e ∷ es) out run =
      subst (λ (o : Outgoing). AllByRecursion (PutOfRun g.nodes) o.puts) (sym run.1.1.2)
      (both g.nodes (outgoing v n e).puts run.1.0.puts (event-of-run n run.0 e run.1.1.1) (run-of-run run.0 n2 es run.1.0 run.1.1.3))

-- ---- acknowledgements

answer-from : (nodes v from through : ℕ) (b : Bool) → nat_lt v nodes ≡ b → v < nodes
    → cond b (Answer (record { from = v; to = from; through = through }) ∷ []) [] ≡ Answer (record { from = v; to = from; through = through }) ∷ []
answer-from nodes v from through true e low = refl
answer-from nodes v from through false e low = absurd (false≢true (sym e ∙ lt-ltb v nodes low))

module _ (nodes v : ℕ) (n : Node) (c : Consumed) (few : nodes ≤ 8) (known : v < nodes) (counts : (u : ℕ) → u < nodes → consumed_from c u ≡ count_from u n.turning.turns) (short : length n.turning.turns < 2 ^ 64) where
  pub ack-spelled : (from : ℕ) → OfRun nodes (Answer (receipt_of v from n)) → IsSpelled nodes (ack_put v c from) (put_by v from n (Answer (receipt_of v from n)))
  ack-spelled from is =
      let through : ℕ = count_from from n.turning.turns in
      let same : consumed_from c from ≡ through = counts from is.0 in
      let most = count_by-le-length (λ (e : Effects). e.from == from) n.turning.turns in
      let low = is.0 in
      let some = is.1 in
      let counted : IsCount through = (omega (arith, some), omega (arith, most, short)) in
      subst (λ (k : ℕ). IsSpelled nodes (record { to = from; bytes = ack_bytes v from k; sealed = []; consumed = (from, k) ∷ [] }) (put_by v from n (Answer (receipt_of v from n)))) (sym same)
      (record {
        packet = ap (packet_from nodes) (packet_again (spelled.Ack v from through) (omega (arith, known, few), omega (arith, low, few), counted)) ∙ answer-from nodes v from through (nat_lt v nodes) refl known;
        to = refl;
      })

  acks-spelled : (froms : List ℕ) → AllByRecursion (PutOfRun nodes) (acks_out v n froms).puts → AreSpelled nodes (map (ack_put v c) froms) (acks_out v n froms).puts
  acks-spelled [] all = tt
  acks-spelled (from ∷ froms) all = (ack-spelled from all.0, acks-spelled froms all.1)

-- those of a call of the handler: some before its turn, and some after
pub handler-spelled : (g : Game) (given : Packet → Type 0) (v : ℕ) (n n2 : Node) (es : List Event) (before last : List ℕ) (c c2 : Consumed) → g.nodes ≤ 8 → v < g.nodes
    → ((u : ℕ) → u < g.nodes → consumed_from c u ≡ count_from u n.turning.turns) → ((u : ℕ) → u < g.nodes → consumed_from c2 u ≡ count_from u n2.turning.turns) → length n.turning.turns < 2 ^ 64 → length n2.turning.turns < 2 ^ 64
    → NodeRun g given v n es (one_after_other (acks_out v n before) (acks_out v n2 last)) n2 → AreSpelled g.nodes (map (ack_put v c) before ++ map (ack_put v c2) last) (one_after_other (acks_out v n before) (acks_out v n2 last)).puts
handler-spelled g given v n n2 es before last c c2 few known counts counts2 short short2 run =
    let all = run-of-run g given v n n2 es (one_after_other (acks_out v n before) (acks_out v n2 last)) run in
    spelled-append g.nodes (map (ack_put v c) before) (map (ack_put v c2) last) (acks_out v n before).puts (acks_out v n2 last).puts
    (acks-spelled g.nodes v n c few known counts short before (front g.nodes (acks_out v n before).puts (acks_out v n2 last).puts all))
    (acks-spelled g.nodes v n2 c2 few known counts2 short2 last (back g.nodes (acks_out v n before).puts (acks_out v n2 last).puts all))
