-- What an externaliser takes of acknowledgements, of a whole node.
use Rattle.std.proofs.Common.{◌≡◌, ◌≢◌, ℕ, ◌+◌, ◌-◌, ◌<◌, ◌≤◌, ◌⊎◌, inl, inr, max, Bool, true, false, cond, List, [], ◌∷◌, ◌++◌, map, length, drop, get_or, slice_set, slice_index, Option, refl, sym, ap, subst, ◌∙◌, ⊎_elim, zero-add, arith}
use Rattle.std.specs.List.{AllByRecursion, Contains}
use Rattle.std.proofs.lemmas.Bool.{cases_eq, cases_lt, leb-true}
use Rattle.std.proofs.lemmas.List.{get_or-map, get_or-set_same, get_or-set_other, set_past, length-append, length-drop}
use Rattle.ken_disk.specs.Story.{Story}
use Rattle.ken_model.specs.declared.messages.Message.{Message}
use Rattle.ken_model.specs.Game.{Game}
use Rattle.ken_outbox.specs.Waiting.{Unacked, Waiting, no_line}
use Rattle.ken_core.specs.Nodes.{Node, SendSide}
use Rattle.ken_core.specs.Packets.{Packet, nothing}
use Rattle.ken_core.specs.Runs.{NodeRun}
use Rattle.ken_core.specs.Steps.{acked_node}
use Rattle.ken_core.specs.Turns.{mails_to}
use Rattle.ken_links.specs.Rings.{pushed, popped}
use Rattle.ken_ship.specs.declared.items.Told.{Told}
use Rattle.ken_ship.specs.declared.items.Sealed.{Sealed}
use Rattle.ken_ship.specs.Handing.{acked_in, progress_in, told_in, with_turns}
use Rattle.ken_ship.specs.Laws.{HasSent, IsDueOf, handed_to, line_of, packets_from}
use Rattle.ken_ship.specs.Parts.{part_of}
use Rattle.ken_ship.specs.Taking.{acks_in, acks_taken, after_acks, goes_no_further}
use Rattle.ken_ship.proofs.Acks.{AreNumbered, IsAckTo, acks_given, acks_known, all_taken, event_of, one_ack, takes_all}
use Rattle.ken_ship.proofs.Numbered.{AreFrom, drop_from, mails_are_from}
use Rattle.ken_work.specs.News.{progress_told}
use Rattle.ken_whole.specs.Whole.{HasReached, WereTold}
use Rattle.ken_whole.specs.WholeLaws.{AcksKeepWhole}
use Rattle.ken_whole.proofs.Queued.{queued_to, with_ack, with_turns-ack, with_turns-emitted, with_turns-line, with_turns-long}
use Rattle.ken_whole.proofs.SendsWhole.{whole-sender}
use Rattle.ken_whole.proofs.Told.{told-by, told-last}

-- ---- one acknowledgement, before what is on its way comes

module _ (g : Game) (v : ℕ) (n : Node) (queue : List Sealed) (w : Waiting) (due : IsDueOf g v n (with_turns v queue w)) where
  long_enough : g.nodes ≤ length w.lines
  long_enough = let same = with_turns-long v queue w in let long = due.long in omega (arith, same, long)

  -- the messages of a line are numbered on from its acknowledged number
  line-from : (u : ℕ) → u < g.nodes → AreFrom v u (line_of w.lines u).acked (line_of (with_turns v queue w).lines u).messages
  line-from u low =
      let acked : ℕ = slice_index n.sending.acked u in
      let mails : List Message = mails_to v u n.turning.turns in
      let line : line_of (with_turns v queue w).lines u ≡ record (line_of w.lines u) { messages = (line_of w.lines u).messages ++ queued_to v u queue } = with_turns-line v queue w u (let long = long_enough in omega (arith, low, long)) in
      let number : (line_of w.lines u).acked ≡ acked = ap (λ (l : Unacked). l.acked) (sym line) ∙ (due.lines u low).number in
      let start : 0 + acked ≡ acked = zero-add acked in
      let from : AreFrom v u acked (drop acked mails) = subst (λ (k : ℕ). AreFrom v u k (drop acked mails)) start (drop_from v u 0 acked mails (mails_are_from v u n.turning.turns due.own due.turns)) in
      subst (λ (k : ℕ). AreFrom v u k (line_of (with_turns v queue w).lines u).messages) (sym number) (subst (AreFrom v u acked) (sym (due.lines u low).waits) from)

  -- what was handed over was sent
  handed-sent : (u : ℕ) → u < g.nodes → HasSent g v n → handed_to w u ≤ length (mails_to v u n.turning.turns)
  handed-sent u low sent =
      let acked : ℕ = slice_index n.sending.acked u in
      let mails : List Message = mails_to v u n.turning.turns in
      let l : Unacked = line_of w.lines u in
      let line : line_of (with_turns v queue w).lines u ≡ record l { messages = l.messages ++ queued_to v u queue } = with_turns-line v queue w u (let long = long_enough in omega (arith, low, long)) in
      let number : l.acked ≡ acked = ap (λ (x : Unacked). x.acked) (sym line) ∙ (due.lines u low).number in
      let count : length l.messages + length (queued_to v u queue) ≡ length mails - acked =
      sym (length-append l.messages (queued_to v u queue)) ∙ ap (λ (x : Unacked). length x.messages) (sym line) ∙ ap length (due.lines u low).waits ∙ length-drop acked mails in
      let most = sent.acked u low in
      omega (arith, number, count, most)

  one-due : (a : ℕ × ℕ) → a.0 < g.nodes → a.1 ≤ handed_to w a.0 → IsDueOf g v (acked_node a.0 a.1 n) (with_turns v queue (with_ack a w))
  one-due a low known =
      subst (IsDueOf g v (acked_node a.0 a.1 n)) (sym (with_turns-ack v queue w a (let long = long_enough in omega (arith, low, long)) (line-from a.0 low) known)) (one_ack g v n (with_turns v queue w) a.0 a.1 due low)

-- the acknowledged numbers after one
acked-after : (ns : List ℕ) (from through u : ℕ) → (slice_index (slice_set ns from (max (slice_index ns from) through)) u ≡ slice_index ns u) ⊎ ((u ≡ from) × (slice_index (slice_set ns from (max (slice_index ns from) through)) u ≡ max (slice_index ns u) through))
acked-after ns from through u =
    let number : ℕ = max (get_or ns from 0) through in
    ⊎_elim
    (λ (same : u ≡ from). ⊎_elim
    (λ (low : from < length ns). inr (same, ap (λ (k : ℕ). get_or (slice_set ns from number) k 0) same ∙ get_or-set_same ns from number 0 low ∙ ap (λ (k : ℕ). max (get_or ns k 0) through) (sym same)))
    (λ (high : length ns ≤ from). inl (ap (λ (xs : List ℕ). get_or xs u 0) (set_past ns from number high)))
    (cases_lt from (length ns)))
    (λ (other : u ≢ from). inl (get_or-set_other ns from u number 0 other))
    (cases_eq u from)

one-rises : (n : Node) (a : ℕ × ℕ) (u : ℕ) → slice_index n.sending.acked u ≤ slice_index (acked_node a.0 a.1 n).sending.acked u
one-rises n a u =
    ⊎_elim
    (λ (same : slice_index (acked_node a.0 a.1 n).sending.acked u ≡ slice_index n.sending.acked u). omega (arith, same))
    (λ (new : (u ≡ a.0) × (slice_index (acked_node a.0 a.1 n).sending.acked u ≡ max (slice_index n.sending.acked u) a.1)). let is = new.1 in omega (arith, is))
    (acked-after n.sending.acked a.0 a.1 u)

one-sent : (g : Game) (v : ℕ) (n : Node) (a : ℕ × ℕ) → HasSent g v n → a.1 ≤ length (mails_to v a.0 n.turning.turns) → HasSent g v (acked_node a.0 a.1 n)
one-sent g v n a sent known = record {
  acked = λ u low.
      let old = sent.acked u low in
      ⊎_elim
      (λ (same : slice_index (acked_node a.0 a.1 n).sending.acked u ≡ slice_index n.sending.acked u). omega (arith, same, old))
      (λ (new : (u ≡ a.0) × (slice_index (acked_node a.0 a.1 n).sending.acked u ≡ max (slice_index n.sending.acked u) a.1)).
      let is = new.1 in
      let here : a.1 ≤ length (mails_to v u n.turning.turns) = subst (λ (k : ℕ). a.1 ≤ length (mails_to v k n.turning.turns)) (sym new.0) known in
      omega (arith, is, old, here))
      (acked-after n.sending.acked a.0 a.1 u);
  emitted = sent.emitted;
}

-- numbers of a front
from-front : (v u a : ℕ) (xs ys : List Message) → AreFrom v u a (xs ++ ys) → AreFrom v u a xs
from-front v u a [] ys from = tt
from-front v u a (x ∷ xs) ys from = (from.0, (from.1.0, from-front v u (a + 1) xs ys from.1.1))

-- the messages of each line are numbered on, before what is on its way comes
lines-numbered : (g : Game) (v : ℕ) (n : Node) (queue : List Sealed) (w : Waiting) → IsDueOf g v n (with_turns v queue w) → AreNumbered v g.nodes w.lines
lines-numbered g v n queue w due u low =
    let l : Unacked = line_of w.lines u in
    let long = long_enough g v n queue w due in
    let line : line_of (with_turns v queue w).lines u ≡ record l { messages = l.messages ++ queued_to v u queue } = with_turns-line v queue w u (omega (arith, low, long)) in
    from-front v u l.acked l.messages (queued_to v u queue) (subst (λ (x : Unacked). AreFrom v u l.acked x.messages) line (line-from g v n queue w due u low))

-- ---- acknowledgements, one after the other

-- the run of those that were taken, after which this waits
record AcksRun (g : Game) (put : Packet → Type 0) (v : ℕ) (n : Node) (taken : List (ℕ × ℕ)) (queue : List Sealed) (w : Waiting) : Type 0 where
  sending : SendSide
  run : NodeRun g put v n (map (event_of v) taken) nothing (record n { sending = sending })
  due : IsDueOf g v (record n { sending = sending }) (with_turns v queue w)
  sent : HasSent g v (record n { sending = sending })
  rises : (u : ℕ) → slice_index n.sending.acked u ≤ slice_index sending.acked u
  emitted : sending.emitted ≡ n.sending.emitted

module _ (g : Game) (put : Packet → Type 0) (v : ℕ) where
  acks-run : (n : Node) (acks : List (ℕ × ℕ)) (queue : List Sealed) (w : Waiting) → IsDueOf g v n (with_turns v queue w) → HasSent g v n → AllByRecursion (IsAckTo g.nodes put v) acks
      → AcksRun g put v n (acks_taken acks w.lines) queue (record w { lines = after_acks acks w.lines })
  acks-run n [] queue w due sent each = record { sending = n.sending; run = (refl, refl); due = due; sent = record { acked = sent.acked; emitted = sent.emitted }; rises = λ u. omega arith; emitted = refl }
  acks-run n (a ∷ acks) queue w due sent each =
      kept
      (λ goes.
      let known : a.1 ≤ handed_to w a.0 = leb-true a.1 (handed_to w a.0) goes in
      let most = handed-sent g v n queue w due a.0 each.0.0 sent in
      acks-run (acked_node a.0 a.1 n) acks queue (with_ack a w) (one-due g v n queue w due a each.0.0 known) (one-sent g v n a sent (omega (arith, most, known))) each.1)
      (acks-run n acks queue w due sent each.1)
      (goes_no_further w.lines a) refl
    where
      kept : (goes_no_further w.lines a ≡ true → AcksRun g put v (acked_node a.0 a.1 n) (acks_taken acks (with_ack a w).lines) queue (record w { lines = after_acks acks (with_ack a w).lines }))
          → AcksRun g put v n (acks_taken acks w.lines) queue (record w { lines = after_acks acks w.lines })
          → (b : Bool) → goes_no_further w.lines a ≡ b
          → AcksRun g put v n (cond b (a ∷ acks_taken acks (cond b (with_ack a w).lines w.lines)) (acks_taken acks w.lines)) queue (record w { lines = after_acks acks (cond b (with_ack a w).lines w.lines) })
      kept taken still true e = let rest = taken e in record {
        sending = rest.sending;
        run = (acked_node a.0 a.1 n, (nothing, (refl, (due.up, each.0.0, each.0.1, refl), refl, rest.run)));
        due = rest.due;
        sent = record { acked = rest.sent.acked; emitted = rest.sent.emitted };
        rises = λ u. let now = one-rises n a u in let later = rest.rises u in omega (arith, now, later);
        emitted = rest.emitted;
      }
      kept taken still false e = still

-- two lists of numbers are the same or not
same-or-not : (xs ys : List ℕ) → (xs ≡ ys) ⊎ (xs ≢ ys)
same-or-not [] [] = inl refl
same-or-not [] (y ∷ ys) = inr (λ e. cc)
same-or-not (x ∷ xs) [] = inr (λ e. cc)
same-or-not (x ∷ xs) (y ∷ ys) =
    ⊎_elim
    (λ (first : x ≡ y). ⊎_elim (λ (rest : xs ≡ ys). inl (ap (λ (k : ℕ). k ∷ xs) first ∙ ap (λ (ks : List ℕ). y ∷ ks) rest)) (λ (other : xs ≢ ys). inr (λ e. let r : xs ≡ ys = cc in other r)) (same-or-not xs ys))
    (λ (other : x ≢ y). inr (λ e. let r : x ≡ y = cc in other r))
    (cases_eq x y)

-- what an externaliser tells, its node has reached
pub reached-now : (g : Game) (v : ℕ) (n : Node) (queue : List Sealed) (w : Waiting) → IsDueOf g v n (with_turns v queue w) → HasReached g n (progress_in w)
reached-now g v n queue w due = record {
  acked = λ u low.
      let long = long_enough g v n queue w due in
      let inside : u < length w.lines = omega (arith, low, long) in
      let at : slice_index (acked_in w.lines) u ≡ (line_of w.lines u).acked = get_or-map (λ (l : Unacked). l.acked) w.lines u no_line 0 inside in
      let number : (line_of w.lines u).acked ≡ slice_index n.sending.acked u = ap (λ (l : Unacked). l.acked) (sym (with_turns-line v queue w u inside)) ∙ (due.lines u low).number in
      omega (arith, at, number);
  emitted = let number : w.emitted ≡ n.sending.emitted = sym (with_turns-emitted v queue w) ∙ due.emitted in omega (arith, number);
}

module _ {D : Type 0} (told : D → Option Story) (size : D → ℕ) where
  pub acks_keep_whole : {N : Type 0} (given_between : N → N → List (List ℕ) → Type 0) → AcksKeepWhole told size given_between
  acks_keep_whole given_between g v n t p s s2 net net2 nones nones2 whole same sealed heard tells =
      let w = whole.workers in
      let d = w.sends in
      let packets : List (List ℕ) = heard.packets in
      let given : Packet → Type 0 = Contains (packets_from g.nodes packets) in
      let mine : acks_in s.backlog.node s.nodes packets ≡ acks_in v g.nodes packets = ap (λ (k : ℕ). acks_in k s.nodes packets) w.of_run.sender ∙ ap (λ (k : ℕ). acks_in v k packets) w.of_run.receivers in
      let taken : (part_of s2).due ≡ record (part_of s).due { lines = after_acks (acks_in v g.nodes packets) (part_of s).due.lines } =
      heard.taken ∙ ap (λ (acks : List (ℕ × ℕ)). record (part_of s).due { lines = after_acks acks (part_of s).due.lines }) mine in
      let run = acks-run g given v n (acks_in v g.nodes packets) d.queue (part_of s).due d.due d.sent (acks_given v g.nodes packets given (λ x there. there)) in
      let after : Node = record n { sending = run.sending } in
      let due : IsDueOf g v after (with_turns v d.queue (part_of s2).due) = subst (λ (x : Waiting). IsDueOf g v after (with_turns v d.queue x)) (sym taken) run.due in
      let before : WereTold progress_told (HasReached g after) (pushed s.told) (popped t.progress) t.told.progress =
      told-by progress_told (HasReached g n) (HasReached g after) (pushed s.told) (popped t.progress) t.told.progress
      (λ x is. record { acked = λ u low. let old = is.acked u low in let more = run.rises u in omega (arith, old, more); emitted = let old = is.emitted in let number = run.emitted in omega (arith, old, number) }) w.progress in
      let now : WereTold progress_told (HasReached g after) (pushed s2.told) (popped t.progress) t.told.progress =
      ⊎_elim
      (λ (quiet : acked_in (part_of s2).due.lines ≡ acked_in (part_of s).due.lines). subst (λ (xs : List Told). WereTold progress_told (HasReached g after) xs (popped t.progress) t.told.progress) (sym (tells.same_not_told quiet)) before)
      (λ (risen : acked_in (part_of s2).due.lines ≢ acked_in (part_of s).due.lines).
      told-last progress_told (HasReached g after) (pushed s.told) (pushed s2.told) (popped t.progress) t.told.progress (told_in (part_of s2).handed (part_of s2).due) (tells.risen_told risen) before (reached-now g v after d.queue (part_of s2).due due))
      (same-or-not (acked_in (part_of s2).due.lines) (acked_in (part_of s).due.lines)) in
      let acks : List (ℕ × ℕ) = acks_in v g.nodes packets in
      let lines : List Unacked = (part_of s).due.lines in
      let now_whole = whole-sender told size g v n t p s s2 run.sending whole same (record { queue = d.queue; ring = d.ring ∙ ap (λ x. popped x ++ d.queue) (sym sealed); due = due; sent = run.sent }) now in
      record {
        some = record {
          after = after;
          call = record { events = map (event_of v) (acks_taken acks lines); run = run.run; which = refl };
          whole = now_whole;
        };
        all = λ far.
            let taken_all = takes_all v g.nodes acks lines (lines-numbered g v n d.queue (part_of s).due d.due) (long_enough g v n d.queue (part_of s).due d.due) (acks_known v g.nodes packets) far in
            record {
              after = after;
              call = record { events = map (event_of v) (acks_taken acks lines); run = run.run; which = ap (map (event_of v)) taken_all ∙ all_taken v g.nodes packets };
              whole = now_whole;
            };
      }
