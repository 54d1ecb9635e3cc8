-- An output that is emitted, as an event; and what waits at the start and with a turn more.
use Rattle.std.proofs.Common.{◌≡◌, ℕ, ◌≤◌, List, [], ◌∷◌, ◌++◌, map, length, drop, replicate, Bool, true, false, cond, ◌==◌, Option, Some, slice_get, slice_index, get_or, IsTrue, refl, sym, ap, ◌∙◌, subst, arith, add-zero, zero-add}
use Rattle.std.specs.List.{filter}
use Rattle.std.proofs.lemmas.Grind.{flat_map-append}
use Rattle.std.proofs.lemmas.List.{append-nil, drop-drop, drop-append-le, get_or-replicate, length-replicate}
use Rattle.ken_model.specs.declared.messages.Message.{Message}
use Rattle.ken_model.specs.declared.messages.Out.{Out}
use Rattle.ken_model.specs.Game.{Game}
use Rattle.ken_model.specs.Network.{Turn}
use Rattle.ken_model.specs.History.{place_of}
use Rattle.ken_record.specs.declared.sent.Sent.{Sent}
use Rattle.ken_record.specs.declared.effects.Effects.{Effects}
use Rattle.ken_outbox.specs.Waiting.{Unacked, Waiting, no_line, sent_to, with_sends, nothing as nothing_waits}
use Rattle.ken_core.specs.declared.events.Event.TheVariants.{Emit}
use Rattle.ken_core.specs.Turns.{mail_of, mails_in, mails_to, outs_of, sealed}
use Rattle.ken_core.specs.Nodes.{Node, SendSide, first_node}
use Rattle.ken_core.specs.Packets.{due, nothing, emitted_out, one_after_other}
use Rattle.ken_core.specs.Steps.{emitted_node}
use Rattle.ken_core.proofs.Numbers.{IsPlace-sealed, output_at, mails_to-push}
use Rattle.ken_ship.specs.declared.items.Sealed.{Sealed}
use Rattle.ken_ship.specs.Handing.{mails_of, with_turn}
use Rattle.ken_ship.specs.Laws.{IsPast, IsDueOf, IsEmitting, IsTurnOf, HasSent}
use Rattle.ken_ship.proofs.Lines.{line_of_sends, sends_long}
use Rattle.ken_ship.proofs.Numbered.{get_drop}

pub emission_is_event : (g : Game) (v : ℕ) (n : Node) (w : Waiting) (out : Out) (rest : List Out) → IsDueOf g v n w → w.outs ≡ out ∷ rest → IsEmitting g v n out (record w { emitted = out.number; outs = rest })
emission_is_event g v n w out rest is first =
    let emitted : ℕ = n.sending.emitted in
    let all : List Out = outs_of n.turning.turns in
    let left : drop emitted all ≡ out ∷ rest = sym is.outs ∙ first in
    let at : due n ≡ Some out = ap (slice_get all) (sym (add-zero emitted)) ∙ sym (get_drop emitted all 0) ∙ ap (λ (os : List Out). slice_get os 0) left in
    let outputs = ap outs_of is.turns ∙ (IsPlace-sealed g v is.own).outs in
    let number = (output_at 0 (place_of g is.own).outs emitted out (ap (λ (os : List Out). slice_get os emitted) (sym outputs) ∙ at)).number in
    record {
      call = record {
        events = Emit v ∷ [];
        run = (emitted_node n, (nothing, (refl, (out, (is.up, at, refl)), ap (λ (o : Option Out). one_after_other (emitted_out o) nothing) (sym at), (refl, refl))));
        which = refl;
      };
      due = record {
        up = is.up;
        own = is.own;
        turns = is.turns;
        width = is.width;
        lines = is.lines;
        long = is.long;
        emitted = omega (arith, number);
        outs = ap (drop 1) (sym left) ∙ drop-drop 1 emitted all;
      };
    }

pub nothing_is_due_first : (g : Game) (v : ℕ) → g.nodes ≤ 8 → IsDueOf g v (first_node g) (nothing_waits 8)
nothing_is_due_first g v few = record {
  up = refl;
  own = [];
  turns = refl;
  width = length-replicate g.nodes 0;
  lines = λ u low.
      let line : get_or (replicate 8 no_line) u no_line ≡ no_line = get_or-replicate 8 u no_line no_line (omega (arith, low, few)) in
      let number : slice_index (replicate g.nodes 0) u ≡ 0 = get_or-replicate g.nodes u 0 0 low in
      let first : IsPast 0 [] no_line = record { number = refl; waits = refl } in
      subst (λ (k : ℕ). IsPast k [] (get_or (replicate 8 no_line) u no_line)) (sym number) (subst (λ (l : Unacked). IsPast 0 [] l) (sym line) first);
  long = let eight : length (replicate 8 no_line) ≡ 8 = length-replicate 8 no_line in omega (arith, eight, few);
  emitted = refl;
  outs = refl;
}

abbrev TurnsAndSends : Node → List Effects × SendSide
TurnsAndSends n = (n.turning.turns, n.sending)

pub others_keep_due : (g : Game) (v : ℕ) (n n2 : Node) (w : Waiting) → IsDueOf g v n w → IsTrue n2.turning.up → n2.turning.turns ≡ n.turning.turns → n2.sending ≡ n.sending → IsDueOf g v n2 w
others_keep_due g v n n2 w is up turns same =
    let sides : TurnsAndSends n2 ≡ TurnsAndSends n = ap (λ (ts : List Effects). (ts, n2.sending)) turns ∙ ap (λ (x : SendSide). (n.turning.turns, x)) same in
    let acks : n2.sending.acked ≡ n.sending.acked = ap (λ (x : SendSide). x.acked) same in
    record {
      up = up;
      own = is.own;
      turns = turns ∙ is.turns;
      width = ap (λ (ns : List ℕ). length ns) acks ∙ is.width;
      lines = λ u low. subst (λ (x : List Effects × SendSide). IsPast (slice_index x.1.acked u) (mails_to v u x.0) (get_or w.lines u no_line)) (sym sides) (is.lines u low);
      long = is.long;
      emitted = is.emitted ∙ ap (λ (x : SendSide). x.emitted) (sym same);
      outs = is.outs ∙ ap (λ (x : List Effects × SendSide). drop x.1.emitted (outs_of x.0)) (sym sides);
    }

-- what a turn sent to one node
sent_in : (v u stamp : ℕ) (sends : List Sent) → sent_to u (map (mail_of v stamp) sends) ≡ map (mail_of v stamp) (filter (λ (s : Sent). s.to == u) sends)
sent_in v u stamp [] = refl
sent_in v u stamp (s ∷ sends) = kept (s.to == u) (sent_in v u stamp sends)
  where
    kept : (b : Bool) → sent_to u (map (mail_of v stamp) sends) ≡ map (mail_of v stamp) (filter (λ (s : Sent). s.to == u) sends)
        → cond b (mail_of v stamp s ∷ sent_to u (map (mail_of v stamp) sends)) (sent_to u (map (mail_of v stamp) sends)) ≡ map (mail_of v stamp) (cond b (s ∷ filter (λ (s : Sent). s.to == u) sends) (filter (λ (s : Sent). s.to == u) sends))
    kept true e = ap (λ (ms : List Message). mail_of v stamp s ∷ ms) e
    kept false e = e

handed_in : (v u : ℕ) (s : Sealed) (e : Effects) → IsTurnOf s e → sent_to u (mails_of v s) ≡ mails_in v u e
handed_in v u s e is = ap (λ (k : ℕ). sent_to u (map (mail_of v k) s.sends)) is.stamp ∙ ap (λ (ss : List Sent). sent_to u (map (mail_of v e.stamp) ss)) is.sends ∙ sent_in v u e.stamp e.sends

longer : (a : ℕ) (sent more : List Message) (l : Unacked) (new : List Message) → a ≤ length sent → new ≡ more → IsPast a sent l → IsPast a (sent ++ more) (record l { messages = l.messages ++ new })
longer a sent more l new low same is = record {
  number = is.number;
  waits = ap (λ (ms : List Message). ms ++ new) is.waits ∙ ap (λ (ms : List Message). drop a sent ++ ms) same ∙ sym (drop-append-le a sent more low);
}

pub handed_over_is_due : (g : Game) (v : ℕ) (n n2 : Node) (w : Waiting) (s : Sealed) (e : Effects) (own : List Turn) → IsDueOf g v n w → HasSent g v n → IsTrue n2.turning.up → n2.turning.turns ≡ n.turning.turns ++ e ∷ [] → n2.turning.turns ≡ sealed v own → n2.sending ≡ n.sending
    → IsTurnOf s e → IsDueOf g v n2 (with_turn v s w)
handed_over_is_due g v n n2 w s e own is sent up grown mine same turn =
    let acks : n2.sending.acked ≡ n.sending.acked = ap (λ (x : SendSide). x.acked) same in
    let emits : n2.sending.emitted ≡ n.sending.emitted = ap (λ (x : SendSide). x.emitted) same in
    let outs : outs_of n2.turning.turns ≡ outs_of n.turning.turns ++ s.outs =
    ap outs_of grown ∙ flat_map-append (λ (x : Effects). x.outs) n.turning.turns (e ∷ []) ∙ ap (λ (os : List Out). outs_of n.turning.turns ++ os) (append-nil e.outs ∙ sym turn.outs) in
    record {
      up = up;
      own = own;
      turns = mine;
      width = ap (λ (ns : List ℕ). length ns) acks ∙ is.width;
      lines = λ u low.
          let line : Unacked = get_or w.lines u no_line in
          let old : List Message = mails_to v u n.turning.turns in
          let number : ℕ = slice_index n.sending.acked u in
          let here : get_or (with_sends 0 w.lines (mails_of v s)) u no_line ≡ record line { messages = line.messages ++ sent_to u (mails_of v s) } =
          line_of_sends 0 w.lines (mails_of v s) u (omega (arith, low, is.long)) ∙ ap (λ (k : ℕ). record line { messages = line.messages ++ sent_to k (mails_of v s) }) (zero-add u) in
          let now : IsPast number (old ++ mails_in v u e) (record line { messages = line.messages ++ sent_to u (mails_of v s) }) = longer number old (mails_in v u e) line (sent_to u (mails_of v s)) (sent.acked u low) (handed_in v u s e turn) (is.lines u low) in
          let all : mails_to v u n2.turning.turns ≡ old ++ mails_in v u e = ap (mails_to v u) grown ∙ mails_to-push v u n.turning.turns e in
          subst (λ (k : ℕ). IsPast k (mails_to v u n2.turning.turns) (get_or (with_sends 0 w.lines (mails_of v s)) u no_line)) (sym (ap (λ (ns : List ℕ). slice_index ns u) acks))
          (subst (λ (ms : List Message). IsPast number ms (get_or (with_sends 0 w.lines (mails_of v s)) u no_line)) (sym all) (subst (λ (l : Unacked). IsPast number (old ++ mails_in v u e) l) (sym here) now));
      long = let count = sends_long 0 w.lines (mails_of v s) in omega (arith, count, is.long);
      emitted = is.emitted ∙ sym emits;
      outs = ap (λ (os : List Out). os ++ s.outs) is.outs ∙ sym (drop-append-le n.sending.emitted (outs_of n.turning.turns) s.outs sent.emitted) ∙ ap (drop n.sending.emitted) (sym outs) ∙ ap (λ (k : ℕ). drop k (outs_of n2.turning.turns)) (sym emits);
    }
