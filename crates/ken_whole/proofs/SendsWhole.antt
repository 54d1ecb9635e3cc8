-- What an externaliser sends and emits, of a whole node.
use Rattle.std.proofs.Common.{◌≡◌, ℕ, zero, suc, ◌+◌, ◌-◌, ◌<◌, ◌≤◌, List, [], ◌∷◌, ◌++◌, length, map, take, drop, slice_get, slice_index, IsTrue, Option, Some, Result, Ok, Err, OnOk, refl, sym, ap, subst, ◌∙◌, append-nil, add-zero, zero-add, arith}
use Rattle.std.specs.List.{flat_map, range_with_len}
use Rattle.std.proofs.lemmas.List.{map-append, length-append, length-take, length-drop, append_cancel_left, take_at, take-map, take-append-drop}
use Rattle.std.specs.declared.alloc.AllocError.{AllocError}
use Rattle.ken_disk.specs.Story.{Story}
use Rattle.ken_model.specs.declared.messages.Message.{Message}
use Rattle.ken_model.specs.Game.{Game}
use Rattle.ken_net.specs.Puts.{Put}
use Rattle.ken_outbox.specs.Waiting.{Unacked, Waiting}
use Rattle.ken_core.specs.declared.events.Event.{Event}
use Rattle.ken_core.specs.declared.events.Event.TheVariants.{Send}
use Rattle.ken_core.specs.Calls.{AreSends, AreSomeSends, IsSome, ended, made, left_out, due_to as counted_to, sends_of}
use Rattle.ken_core.specs.Nodes.{Node, SendSide}
use Rattle.ken_core.specs.Packets.{Packet, mail_out, one_after_other, unacked}
use Rattle.ken_core.specs.Runs.{NodeRun}
use Rattle.ken_core.specs.Turns.{mails_to}
use Rattle.ken_links.specs.Rings.{pushed, popped}
use Rattle.ken_ship.specs.declared.items.Told.{Told}
use Rattle.ken_ship.specs.declared.items.Sealed.{Sealed}
use Rattle.ken_ship.specs.declared.sending.TheConstants.{MOST_DUE}
use Rattle.ken_ship.specs.declared.worker.SendWorker.{SendWorker}
use Rattle.ken_ship.specs.Handing.{with_turns}
use Rattle.ken_ship.specs.Laws.{IsDueOf, IsSending, line_of, mails_out}
use Rattle.ken_ship.specs.Parts.{part_of}
use Rattle.ken_ship.specs.Parts.{IsSameWorker as IsSameSender}
use Rattle.ken_ship.specs.Sending.{ArePut, all_due, due_to, mail_put}
use Rattle.ken_ship.proofs.Dues.{sends_are_events}
use Rattle.ken_ship.proofs.Numbered.{AreFrom, drop_from, get_drop, get_take, mails_are_from}
use Rattle.ken_work.specs.News.{progress_told, turn_settled}
use Rattle.ken_work.specs.declared.patcher.PatchWorker.{PatchWorker}
use Rattle.ken_work.specs.declared.worker.TurnWorker.{TurnWorker}
use Rattle.ken_work.specs.Meeting.{AreJoined}
use Rattle.ken_whole.specs.Whole.{HasDue, HasReached, IsSettledAt, IsWhole, WereTold}
use Rattle.ken_whole.specs.WholeLaws.{SendsMail, SendsKeepWhole}
use Rattle.ken_whole.proofs.Queued.{queued_to, with_turns-append, with_turns-line, with_turns-long}
use Rattle.ken_whole.proofs.Rings.{queue-moved, ring-popped, ring-pushed}
use Rattle.ken_whole.proofs.Told.{told-by}

-- ---- where only the externaliser and its numbers change

module _ {D : Type 0} (told : D → Option Story) (size : D → ℕ) (g : Game) (v : ℕ) where
  pub joined-sender : (t : TurnWorker D) (p : PatchWorker D) (s s2 : SendWorker) → AreJoined t p s → IsSameSender s s2 → AreJoined t p s2
  joined-sender t p s s2 joined same = record {
    pages = joined.pages;
    sealed = ring-popped t.sealed s.sealed s2.sealed joined.sealed same.sealed;
    settled = joined.settled;
    progress = ring-pushed s.told s2.told t.progress joined.progress same.told;
  }

  pub whole-sender : (n : Node) (t : TurnWorker D) (p : PatchWorker D) (s s2 : SendWorker) (sending : SendSide) → IsWhole told size g v n t p s → IsSameSender s s2 → HasDue g v (record n { sending = sending }) t s2
      → WereTold progress_told (HasReached g (record n { sending = sending })) (pushed s2.told) (popped t.progress) t.told.progress → IsWhole told size g v (record n { sending = sending }) t p s2
  whole-sender n t p s s2 sending whole same due progress =
      let w = whole.workers in
      let n2 : Node = record n { sending = sending } in
      record {
        workers = record {
          of_run = record { node = w.of_run.node; nodes = w.of_run.nodes; cap = w.of_run.cap; size = w.of_run.size; inputs = w.of_run.inputs; sender = same.node ∙ w.of_run.sender; receivers = same.nodes ∙ w.of_run.receivers };
          joined = joined-sender t p s s2 w.joined same;
          working = w.working;
          turns = record { kept = w.turns.kept; counted = w.turns.counted; reads = w.turns.reads };
          log = record { state = w.log.state; sent = w.log.sent; width = w.log.width; paced = w.log.paced };
          sends = due;
          settled = told-by turn_settled (IsSettledAt n) (IsSettledAt n2) (pushed p.settled) (popped t.settled) t.told.settled (λ x is. record { made = is.made; clean = is.clean }) w.settled;
          progress = progress;
        };
        pages = record { queue = whole.pages.queue; ring = whole.pages.ring; image = whole.pages.image; apart = whole.pages.apart; turning = whole.pages.turning; patching = whole.pages.patching };
      }

-- ---- messages that are sent, with the events that send them

module _ (g : Game) (v : ℕ) (n : Node) where
  -- each message stands where its event says, past the acknowledged number
  data AreSent : List Event → List Message → Type 0 where
    no_more : AreSent [] []
    one_more : {es : List Event} {ms : List Message} (u i : ℕ) (m : Message) → u < g.nodes → m.to ≡ u → unacked v u i n ≡ Some m → AreSent es ms → AreSent (Send v u i ∷ es) (m ∷ ms)

  sent-run : (put : Packet → Type 0) (es : List Event) (ms : List Message) → IsTrue n.turning.up → AreSent es ms → NodeRun g put v n es (mails_out v n ms) n
  sent-run put _ _ up no_more = (refl, refl)
  sent-run put _ _ up (one_more {es} {ms} u i m low to at rest) =
      let first : one_after_other (mail_out v u n (unacked v u i n)) (mails_out v n ms) ≡ mails_out v n (m ∷ ms) =
      ap (λ (o : Option Message). one_after_other (mail_out v u n o) (mails_out v n ms)) at ∙ ap (λ (k : ℕ). one_after_other (mail_out v k n (Some m)) (mails_out v n ms)) (sym to) in
      (n, (mails_out v n ms, (refl, (m, (up, low, at, refl)), sym first, sent-run put es ms up rest)))

  sent-append : (es fs : List Event) (ms ns : List Message) → AreSent es ms → AreSent fs ns → AreSent (es ++ fs) (ms ++ ns)
  sent-append _ fs _ ns no_more later = later
  sent-append _ fs _ ns (one_more {es} {ms} u i m low to at rest) later = one_more u i m low to at (sent-append es fs ms ns rest later)

  sent-front : (k : ℕ) (es : List Event) (ms : List Message) → AreSent es ms → AreSent (take k es) (take k ms)
  sent-front zero es ms sent = no_more
  sent-front (suc k) _ _ no_more = no_more
  sent-front (suc k) _ _ (one_more {es} {ms} u i m low to at rest) = one_more u i m low to at (sent-front k es ms rest)

  -- to one node, from the k-th on
  sent-on : (u k : ℕ) (ms : List Message) → u < g.nodes → ((j : ℕ) (m : Message) → slice_get ms j ≡ Some m → (m.to ≡ u) × (unacked v u (k + j) n ≡ Some m)) → AreSent (map (λ (i : ℕ). Send v u i) (range_with_len k (length ms))) ms
  sent-on u k [] low at = no_more
  sent-on u k (m ∷ ms) low at =
      let here = at 0 m refl in
      one_more u k m low here.0 (ap (λ (i : ℕ). unacked v u i n) (sym (add-zero k)) ∙ here.1)
      (sent-on u (k + 1) ms low (λ j x there. let later = at (suc j) x there in let place : k + 1 + j ≡ k + suc j = omega arith in (later.0, ap (λ (i : ℕ). unacked v u i n) place ∙ later.1)))

-- ---- some events of a list, in order

pub some-front : (xs ys : List Event) → IsSome xs (xs ++ ys)
some-front [] [] = ended
some-front [] (y ∷ ys) = left_out (some-front [] ys)
some-front (x ∷ xs) ys = made (some-front xs ys)

some-append : (xs ys zs ws : List Event) → IsSome xs ys → IsSome zs ws → IsSome (xs ++ zs) (ys ++ ws)
some-append _ _ zs ws ended later = later
some-append _ _ zs ws (made {e} {es} {whole} rest) later = made (some-append es whole zs ws rest later)
some-append _ _ zs ws (left_out {e} {es} {whole} rest) later = left_out (some-append es whole zs ws rest later)

some-some : (xs ys zs : List Event) → IsSome xs ys → IsSome ys zs → IsSome xs zs
some-some xs _ _ some ended = some
some-some xs _ _ some (left_out {e} {es} {whole} rest) = left_out (some-some xs es whole some rest)
some-some _ _ _ (made {e} {es} {whole = mid} some) (made {whole = whole} rest) = made (some-some es mid whole some rest)
some-some _ _ _ (left_out {e} {es} {whole = mid} some) (made {whole = whole} rest) = left_out (some-some es mid whole some rest)

range-split : (a b n : ℕ) → range_with_len a (b + n) ≡ range_with_len a b ++ range_with_len (a + b) n
range-split a zero n = ap (range_with_len a) (zero-add n) ∙ ap (λ (k : ℕ). range_with_len k n) (sym (add-zero a))
range-split a (suc b) n =
    let sum : suc b + n ≡ suc (b + n) = omega arith in
    let place : a + 1 + b ≡ a + suc b = omega arith in
    ap (range_with_len a) sum ∙ ap (λ (xs : List ℕ). a ∷ xs) (range-split (a + 1) b n ∙ ap (λ (k : ℕ). range_with_len (a + 1) b ++ range_with_len k n) place)

fewer-some : (f : ℕ → Event) (a b : ℕ) → a ≤ b → IsSome (map f (range_with_len 0 a)) (map f (range_with_len 0 b))
fewer-some f a b few =
    let sum : a + (b - a) ≡ b = omega (arith, few) in
    subst (IsSome (map f (range_with_len 0 a))) (sym (map-append f (range_with_len 0 a) (range_with_len (0 + a) (b - a))) ∙ ap (map f) (sym (range-split 0 a (b - a)) ∙ ap (range_with_len 0) sum)) (some-front (map f (range_with_len 0 a)) (map f (range_with_len (0 + a) (b - a))))

-- ---- what was handed over is sent, of all that is due

from-to : (v u a : ℕ) (ms : List Message) (j : ℕ) (m : Message) → AreFrom v u a ms → slice_get ms j ≡ Some m → m.to ≡ u
from-to v u a [] j m from at = absurd cc
from-to v u a (x ∷ ms) zero m from at = let it : x ≡ m = cc in ap (λ (y : Message). y.to) (sym it) ∙ from.0
from-to v u a (x ∷ ms) (suc j) m from at = from-to v u (a + 1) ms j m from.1.1 at

get-left : (xs ys : List Message) (j : ℕ) (m : Message) → slice_get xs j ≡ Some m → slice_get (xs ++ ys) j ≡ Some m
get-left [] ys j m at = absurd cc
get-left (x ∷ xs) ys zero m at = at
get-left (x ∷ xs) ys (suc j) m at = get-left xs ys j m at

module _ (g : Game) (v : ℕ) (n : Node) (queue : List Sealed) (w : Waiting) (due : IsDueOf g v n (with_turns v queue w)) where
  abbrev sent_to_one : ℕ → List Event
  sent_to_one u = map (λ (i : ℕ). Send v u i) (range_with_len 0 (length (due_to w.lines u)))

  line-parts : (u : ℕ) → u < g.nodes → (line_of w.lines u).messages ++ queued_to v u queue ≡ drop (slice_index n.sending.acked u) (mails_to v u n.turning.turns)
  line-parts u low =
      let long = with_turns-long v queue w in
      ap (λ (l : Unacked). l.messages) (sym (with_turns-line v queue w u (omega (arith, low, long, due.long)))) ∙ (due.lines u low).waits

  one-sent : (u : ℕ) → u < g.nodes → AreSent g v n (sent_to_one u) (due_to w.lines u)
  one-sent u low =
      let acked : ℕ = slice_index n.sending.acked u in
      let mails : List Message = mails_to v u n.turning.turns in
      let start : 0 + acked ≡ acked = zero-add acked in
      let from : AreFrom v u acked (drop acked mails) = subst (λ (k : ℕ). AreFrom v u k (drop acked mails)) start (drop_from v u 0 acked mails (mails_are_from v u n.turning.turns due.own due.turns)) in
      sent-on g v n u 0 (due_to w.lines u) low (λ j m at.
      let there : slice_get (drop acked mails) j ≡ Some m = ap (λ (ms : List Message). slice_get ms j) (sym (line-parts u low)) ∙ get-left (line_of w.lines u).messages (queued_to v u queue) j m (get_take MOST_DUE (line_of w.lines u).messages j m at) in
      let place : acked + (0 + j) ≡ acked + j = omega arith in
      (from-to v u acked (drop acked mails) j m from there, ap (slice_get mails) place ∙ sym (get_drop acked mails j) ∙ there))

  one-few : (u : ℕ) → u < g.nodes → length (due_to w.lines u) ≤ counted_to v n u
  one-few u low =
      let acked : ℕ = slice_index n.sending.acked u in
      let mails : List Message = mails_to v u n.turning.turns in
      let part = length-take MOST_DUE (line_of w.lines u).messages in
      let whole = sym (length-append (line_of w.lines u).messages (queued_to v u queue)) ∙ ap length (line-parts u low) ∙ length-drop acked mails in
      omega (arith, part, whole)

  all-sent : (k c : ℕ) → k + c ≤ g.nodes → AreSent g v n (flat_map sent_to_one (range_with_len k c)) (flat_map (due_to w.lines) (range_with_len k c))
  all-sent k zero within = no_more
  all-sent k (suc c) within =
      sent-append g v n (sent_to_one k) (flat_map sent_to_one (range_with_len (k + 1) c)) (due_to w.lines k) (flat_map (due_to w.lines) (range_with_len (k + 1) c))
      (one-sent k (omega (arith, within))) (all-sent (k + 1) c (omega (arith, within)))

  all-some : (k c : ℕ) → k + c ≤ g.nodes → IsSome (flat_map sent_to_one (range_with_len k c)) (flat_map (λ (u : ℕ). map (λ (i : ℕ). Send v u i) (range_with_len 0 (counted_to v n u))) (range_with_len k c))
  all-some k zero within = ended
  all-some k (suc c) within =
      some-append (sent_to_one k) (map (λ (i : ℕ). Send v k i) (range_with_len 0 (counted_to v n k))) (flat_map sent_to_one (range_with_len (k + 1) c))
      (flat_map (λ (u : ℕ). map (λ (i : ℕ). Send v u i) (range_with_len 0 (counted_to v n u))) (range_with_len (k + 1) c))
      (fewer-some (λ (i : ℕ). Send v k i) (length (due_to w.lines k)) (counted_to v n k) (one-few k (omega (arith, within))))
      (all-some (k + 1) c (omega (arith, within)))

  -- a front of it
  pub front-sent : (puts rest : List Put) → map mail_put (all_due g.nodes w.lines) ≡ puts ++ rest → IsSending g v n (AreSomeSends g v n) puts
  front-sent puts rest parts =
      let all : List Message = all_due g.nodes w.lines in
      let es : List Event = flat_map sent_to_one (range_with_len 0 g.nodes) in
      let k : ℕ = length puts in
      let within : 0 + g.nodes ≤ g.nodes = omega arith in
      record {
        messages = take k all;
        put = sym (take_at puts rest k refl) ∙ ap (take k) (sym parts) ∙ take-map mail_put k all;
        call = record {
          events = take k es;
          run = sent-run g v n _ (take k es) (take k all) due.up (sent-front g v n k es all (all-sent 0 g.nodes within));
          which = some-some (take k es) es (sends_of g v n) (subst (IsSome (take k es)) (take-append-drop k es) (some-front (take k es) (drop k es))) (all-some 0 g.nodes within);
        };
      }

-- what is due, and a front of it that was put
put-parts : {T E : Type 0} (result : Result T E) (due : List Message) (puts : List Put) → ArePut result due puts → (rest : List Put) × (map mail_put due ≡ puts ++ rest)
put-parts (Ok x) due puts are = ([], sym are ∙ sym (append-nil puts))
put-parts (Err fault) due puts are = are

module _ {D : Type 0} (told : D → Option Story) (size : D → ℕ) where
  pub sends_keep_whole : {N : Type 0} (put_between : N → N → List Put → Type 0) → SendsKeepWhole told size put_between
  sends_keep_whole put_between g v n t p s s2 net net2 result nones nones2 whole same progress handed sent fronts =
      let w = whole.workers in
      let d = w.sends in
      let rest : List Sealed = fronts.sealed.0 in
      let parts : d.queue ≡ handed.turns ++ rest = queue-moved (pushed t.sealed) (popped s.sealed) (popped s2.sealed) d.queue handed.turns rest d.ring handed.popped_are fronts.sealed.1 in
      let mine : (part_of s2).due ≡ with_turns v handed.turns (part_of s).due = handed.waits ∙ ap (λ (k : ℕ). with_turns k handed.turns (part_of s).due) w.of_run.sender in
      let all : with_turns v d.queue (part_of s).due ≡ with_turns v rest (part_of s2).due =
      ap (λ (q : List Sealed). with_turns v q (part_of s).due) parts ∙ with_turns-append v handed.turns rest (part_of s).due ∙ ap (with_turns v rest) (sym mine) in
      let due : IsDueOf g v n (with_turns v rest (part_of s2).due) = subst (IsDueOf g v n) all d.due in
      let are : ArePut result (all_due g.nodes (part_of s2).due.lines) sent.puts = subst (λ (k : ℕ). ArePut result (all_due k (part_of s2).due.lines) sent.puts) w.of_run.receivers sent.are in
      let front = put-parts result (all_due g.nodes (part_of s2).due.lines) sent.puts are in
      record {
        whole = whole-sender told size g v n t p s s2 n.sending whole same (record { queue = rest; ring = fronts.sealed.1; due = due; sent = record { acked = d.sent.acked; emitted = d.sent.emitted } })
            (subst (λ (xs : List Told). WereTold progress_told (HasReached g n) xs (popped t.progress) t.told.progress) (sym (ap pushed progress)) w.progress);
        some = record { puts = sent.puts; were_put = sent.were_put; sending = front-sent g v n rest (part_of s2).due due sent.puts front.0 front.1 };
        all = λ none. all-sent-ok result rest (empty-rest none) due are;
      }
    where
      empty-rest : popped s2.sealed ≡ pushed t.sealed → fronts.sealed.0 ≡ []
      empty-rest none = append_cancel_left (popped s2.sealed) fronts.sealed.0 [] (sym fronts.sealed.1 ∙ sym none ∙ sym (append-nil (popped s2.sealed)))

      all-sent-ok : (r : Result (Unit {0}) AllocError) (rest : List Sealed) → rest ≡ [] → IsDueOf g v n (with_turns v rest (part_of s2).due) → ArePut r (all_due g.nodes (part_of s2).due.lines) sent.puts → OnOk r (SendsMail g v n (AreSends g v n) (put_between net net2))
      all-sent-ok (Ok x) rest none due are =
          let now : IsDueOf g v n (part_of s2).due = subst (λ (q : List Sealed). IsDueOf g v n (with_turns v q (part_of s2).due)) none due in
          record { puts = sent.puts; were_put = sent.were_put; sending = subst (IsSending g v n (AreSends g v n)) (sym are) (sends_are_events g v n (part_of s2).due now) }
      all-sent-ok (Err fault) rest none due are = tt
