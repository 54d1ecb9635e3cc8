-- Messages that are sent, as events.
use Rattle.std.proofs.Common.{◌≡◌, ℕ, zero, suc, ◌+◌, ◌-◌, ◌<◌, ◌≤◌, min, List, [], ◌∷◌, ◌++◌, map, length, drop, take, Option, Some, slice_get, slice_index, IsTrue, refl, sym, ap, ◌∙◌, subst, arith}
use Rattle.std.specs.List.{AllByRecursion, flat_map, range_with_len}
use Rattle.std.proofs.lemmas.List.{map-append, length-take, length-drop, take_at, take-map, take-append-drop}
use Rattle.ken_model.specs.declared.messages.Message.{Message}
use Rattle.ken_model.specs.Game.{Game}
use Rattle.ken_net.specs.Puts.{Put}
use Rattle.ken_outbox.specs.Waiting.{Waiting}
use Rattle.ken_core.specs.declared.events.Event.{Event}
use Rattle.ken_core.specs.declared.events.Event.TheVariants.{Send}
use Rattle.ken_core.specs.Turns.{mails_to}
use Rattle.ken_core.specs.Nodes.{Node}
use Rattle.ken_core.specs.Packets.{Packet, mail_out, unacked, one_after_other}
use Rattle.ken_core.specs.Runs.{NodeRun}
use Rattle.ken_core.specs.Calls.{IsSome, ended, made, left_out, sends_of, due_to as counted_to, AreSends, AreSomeSends}
use Rattle.ken_ship.specs.declared.sending.TheConstants.{MOST_DUE}
use Rattle.ken_ship.specs.Sending.{mail_put, due_to, all_due}
use Rattle.ken_ship.specs.Laws.{IsDueOf, mails_out, IsSending}
use Rattle.ken_ship.proofs.Numbered.{AreFrom, mails_are_from, drop_from, take_from, get_take, get_drop}

-- the event that sends a message: where it stands past the acknowledged number
abbrev event_of : ℕ → Node → Message → Event
event_of v n m = Send v m.to (m.number - 1 - slice_index n.sending.acked m.to)

-- it does stand there
record Stands (g : Game) (v : ℕ) (n : Node) (m : Message) : Type 0 where
  to : m.to < g.nodes
  at : unacked v m.to (m.number - 1 - slice_index n.sending.acked m.to) n ≡ Some m

send_run : (g : Game) (put : Packet → Type 0) (v : ℕ) (n : Node) (ms : List Message) → IsTrue n.turning.up → AllByRecursion (Stands g v n) ms → NodeRun g put v n (map (event_of v n) ms) (mails_out v n ms) n
send_run g put v n [] up each = (refl, refl)
send_run g put v n (m ∷ ms) up each =
    (n, (mails_out v n ms, (refl, (m, (up, each.0.to, each.0.at, refl)), sym (ap (λ (o : Option Message). one_after_other (mail_out v m.to n o) (mails_out v n ms)) each.0.at), send_run g put v n ms up each.1)))

-- messages to one node, from the k-th past the acknowledged number on
record AreSentOn (g : Game) (v : ℕ) (n : Node) (u k : ℕ) (ms : List Message) : Type 0 where
  stand : AllByRecursion (Stands g v n) ms
  events : map (event_of v n) ms ≡ map (λ (i : ℕ). Send v u i) (range_with_len k (length ms))

sent_on : (g : Game) (v : ℕ) (n : Node) (u k : ℕ) (ms : List Message) → u < g.nodes → AreFrom v u (slice_index n.sending.acked u + k) ms
    → ((j : ℕ) (m : Message) → slice_get ms j ≡ Some m → slice_get (mails_to v u n.turning.turns) (slice_index n.sending.acked u + k + j) ≡ Some m) → AreSentOn g v n u k ms
sent_on g v n u k [] low from at = record { stand = tt; events = refl }
sent_on g v n u k (m ∷ ms) low from at =
    let acked : ℕ = slice_index n.sending.acked u in
    let index : m.number - 1 - acked ≡ k = omega (arith, from.1.0) in
    let place : acked + k + 0 ≡ acked + (m.number - 1 - acked) = omega (arith, index) in
    let here : unacked v u (m.number - 1 - acked) n ≡ Some m = ap (slice_get (mails_to v u n.turning.turns)) (sym place) ∙ at 0 m refl in
    let stands : Stands g v n m = record {
      to = subst (λ (x : ℕ). x < g.nodes) (sym from.0) low;
      at = subst (λ (x : ℕ). unacked v x (m.number - 1 - slice_index n.sending.acked x) n ≡ Some m) (sym from.0) here;
    } in
    let on : acked + k + 1 ≡ acked + (k + 1) = omega arith in
    let rest = sent_on g v n u (k + 1) ms low (subst (λ (x : ℕ). AreFrom v u x ms) on from.1.1) (λ j x there. let place : acked + (k + 1) + j ≡ acked + k + suc j = omega arith in ap (slice_get (mails_to v u n.turning.turns)) place ∙ at (suc j) x there) in
    let first : event_of v n m ≡ Send v u k = ap (λ (x : ℕ). Send v x (m.number - 1 - slice_index n.sending.acked x)) from.0 ∙ ap (Send v u) index in
    record {
      stand = (stands, rest.stand);
      events = ap (λ (e : Event). e ∷ map (event_of v n) ms) first ∙ ap (λ (es : List Event). Send v u k ∷ es) rest.events;
    }

-- what is due to one node
due_on : (g : Game) (v : ℕ) (n : Node) (w : Waiting) (u : ℕ) → IsDueOf g v n w → u < g.nodes → AreSentOn g v n u 0 (due_to w.lines u)
due_on g v n w u due low =
    let acked : ℕ = slice_index n.sending.acked u in
    let sent : List Message = mails_to v u n.turning.turns in
    let part : List Message = take MOST_DUE (drop acked sent) in
    let start : 0 + acked ≡ acked + 0 = omega arith in
    let from : AreFrom v u (acked + 0) part = take_from v u (acked + 0) MOST_DUE (drop acked sent) (subst (λ (x : ℕ). AreFrom v u x (drop acked sent)) start (drop_from v u 0 acked sent (mails_are_from v u n.turning.turns due.own due.turns))) in
    let whole : AreSentOn g v n u 0 part = sent_on g v n u 0 part low from (λ j m at. let place : acked + j ≡ acked + 0 + j = omega arith in ap (slice_get sent) (sym place) ∙ sym (get_drop acked sent j) ∙ get_take MOST_DUE (drop acked sent) j m at) in
    subst (λ (ms : List Message). AreSentOn g v n u 0 (take MOST_DUE ms)) (sym (due.lines u low).waits) whole

due_count : (g : Game) (v : ℕ) (n : Node) (w : Waiting) (u : ℕ) → IsDueOf g v n w → u < g.nodes → length (due_to w.lines u) ≡ counted_to v n u
due_count g v n w u due low =
    ap (λ (ms : List Message). length (take MOST_DUE ms)) (due.lines u low).waits
    ∙ length-take MOST_DUE (drop (slice_index n.sending.acked u) (mails_to v u n.turning.turns)) ∙ ap (min MOST_DUE) (length-drop (slice_index n.sending.acked u) (mails_to v u n.turning.turns))

both : {X : Type 0} (P : X → Type 0) (xs ys : List X) → AllByRecursion P xs → AllByRecursion P ys → AllByRecursion P (xs ++ ys)
both P [] ys a b = b
both P (x ∷ xs) ys a b = (a.0, both P xs ys a.1 b)

-- and to several
all_stand : (g : Game) (v : ℕ) (n : Node) (w : Waiting) (k c : ℕ) → IsDueOf g v n w → k + c ≤ g.nodes → AllByRecursion (Stands g v n) (flat_map (due_to w.lines) (range_with_len k c))
all_stand g v n w k zero due within = tt
all_stand g v n w k (suc c) due within =
    both (Stands g v n) (due_to w.lines k) (flat_map (due_to w.lines) (range_with_len (k + 1) c)) (due_on g v n w k due (omega (arith, within))).stand (all_stand g v n w (k + 1) c due (omega (arith, within)))

all_events : (g : Game) (v : ℕ) (n : Node) (w : Waiting) (k c : ℕ) → IsDueOf g v n w → k + c ≤ g.nodes
    → map (event_of v n) (flat_map (due_to w.lines) (range_with_len k c)) ≡ flat_map (λ (u : ℕ). map (λ (i : ℕ). Send v u i) (range_with_len 0 (counted_to v n u))) (range_with_len k c)
all_events g v n w k zero due within = refl
all_events g v n w k (suc c) due within =
    let low : k < g.nodes = omega (arith, within) in
    let later : List Message = flat_map (due_to w.lines) (range_with_len (k + 1) c) in
    let first : map (event_of v n) (due_to w.lines k) ≡ map (λ (i : ℕ). Send v k i) (range_with_len 0 (counted_to v n k)) =
    (due_on g v n w k due low).events ∙ ap (λ (x : ℕ). map (λ (i : ℕ). Send v k i) (range_with_len 0 x)) (due_count g v n w k due low) in
    map-append (event_of v n) (due_to w.lines k) later
    ∙ ap (λ (es : List Event). es ++ map (event_of v n) later) first
    ∙ ap (λ (es : List Event). map (λ (i : ℕ). Send v k i) (range_with_len 0 (counted_to v n k)) ++ es) (all_events g v n w (k + 1) c due (omega (arith, within)))

stand_front : (g : Game) (v : ℕ) (n : Node) (k : ℕ) (ms : List Message) → AllByRecursion (Stands g v n) ms → AllByRecursion (Stands g v n) (take k ms)
stand_front g v n zero ms each = tt
stand_front g v n (suc k) [] each = tt
stand_front g v n (suc k) (m ∷ ms) each = (each.0, stand_front g v n k ms each.1)

some_front : (xs ys : List Event) → IsSome xs (xs ++ ys)
some_front [] [] = ended
some_front [] (y ∷ ys) = left_out (some_front [] ys)
some_front (x ∷ xs) ys = made (some_front xs ys)

pub sends_are_events : (g : Game) (v : ℕ) (n : Node) (w : Waiting) → IsDueOf g v n w → IsSending g v n (AreSends g v n) (map mail_put (all_due g.nodes w.lines))
sends_are_events g v n w due =
    let ms : List Message = all_due g.nodes w.lines in
    record {
      messages = ms;
      put = refl;
      call = record { events = map (event_of v n) ms; run = send_run g _ v n ms due.up (all_stand g v n w 0 g.nodes due (omega arith)); which = all_events g v n w 0 g.nodes due (omega arith) };
    }

pub some_sends_are_events : (g : Game) (v : ℕ) (n : Node) (w : Waiting) (puts rest : List Put) → IsDueOf g v n w → map mail_put (all_due g.nodes w.lines) ≡ puts ++ rest → IsSending g v n (AreSomeSends g v n) puts
some_sends_are_events g v n w puts rest due parts =
    let all : List Message = all_due g.nodes w.lines in
    let k : ℕ = length puts in
    let ms : List Message = take k all in
    let split : map (event_of v n) ms ++ map (event_of v n) (drop k all) ≡ sends_of g v n =
    sym (map-append (event_of v n) ms (drop k all)) ∙ ap (map (event_of v n)) (take-append-drop k all) ∙ all_events g v n w 0 g.nodes due (omega arith) in
    record {
      messages = ms;
      put = sym (take_at puts rest k refl) ∙ ap (take k) (sym parts) ∙ take-map mail_put k all;
      call = record {
        events = map (event_of v n) ms;
        run = send_run g _ v n ms due.up (stand_front g v n k all (all_stand g v n w 0 g.nodes due (omega arith)));
        which = subst (λ (es : List Event). IsSome (map (event_of v n) ms) es) split (some_front (map (event_of v n) ms) (map (event_of v n) (drop k all)));
      };
    }
