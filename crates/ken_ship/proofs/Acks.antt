-- Acknowledgements that are taken, as events.
use Rattle.std.proofs.Common.{◌≡◌, ◌≢◌, ℕ, ◌+◌, ◌-◌, ◌<◌, ◌≤◌, max, Bool, true, false, cond, ◌==◌, ◌&&◌, nat_lt, List, [], ◌∷◌, ◌++◌, map, length, drop, get_or, slice_set, Option, Some, None, refl, sym, ap, ◌∙◌, subst, ⊎_elim, zero-add, arith}
use Rattle.std.specs.List.{AllByRecursion, Contains, flat_map}
use Rattle.std.proofs.lemmas.Bool.{cases_eq, eqb-true, le-leb, ltb-true}
use Rattle.std.proofs.lemmas.Grind.{flat_map-append}
use Rattle.std.proofs.lemmas.List.{map-append, get_or-set_same, get_or-set_other, length-drop, length-set}
use Rattle.std.proofs.lemmas.List.Elements.{Contains-append_left, Contains-append_right}
use Rattle.ken_model.specs.declared.messages.Message.{Message}
use Rattle.ken_model.specs.Game.{Game}
use Rattle.ken_packet.specs.declared.packet.Packet.{Packet as Spelled}
use Rattle.ken_packet.specs.declared.packet.Packet.TheVariants.{Mail as SpelledMail, Ack}
use Rattle.ken_packet.specs.Reading.{packet_of}
use Rattle.ken_outbox.specs.Waiting.{Unacked, Waiting, no_line, acked_by, past}
use Rattle.ken_core.specs.declared.events.Event.{Event}
use Rattle.ken_core.specs.declared.events.Event.TheVariants.{TakeAck}
use Rattle.ken_core.specs.Turns.{mails_to}
use Rattle.ken_core.specs.Nodes.{Node}
use Rattle.ken_core.specs.Packets.{Packet, Mail, Answer, nothing}
use Rattle.ken_core.specs.Steps.{acked_node}
use Rattle.ken_core.specs.Runs.{NodeRun}
use Rattle.ken_core.specs.Calls.{taken_from}
use Rattle.ken_ship.specs.Taking.{ack_in, acks_in, acks_taken, after_acks, goes_no_further, handed_by}
use Rattle.ken_ship.specs.Laws.{AcksAreEvents, AllAreTaken, IsPast, IsDueOf, line_of, packet_from, packets_from}
use Rattle.ken_ship.proofs.Numbered.{AreFrom, acked_past, drop_from, mails_are_from, past_is}

-- one acknowledgement
pub one_ack : (g : Game) (v : ℕ) (n : Node) (w : Waiting) (from through : ℕ) → IsDueOf g v n w → from < g.nodes
    → IsDueOf g v (acked_node from through n) (record w { lines = slice_set w.lines from (acked_by through (get_or w.lines from no_line)) })
one_ack g v n w from through due low =
    let sent : ℕ → List Message = λ (u : ℕ). mails_to v u n.turning.turns in
    let acked : List ℕ = n.sending.acked in
    let number : ℕ = max (get_or acked from 0) through in
    let line : Unacked = acked_by through (get_or w.lines from no_line) in
    record {
      up = due.up;
      own = due.own;
      turns = due.turns;
      width = length-set acked from number ∙ due.width;
      lines = λ u below.
          ⊎_elim
          (λ (same : u ≡ from).
          let here : get_or (slice_set acked from number) u 0 ≡ number = ap (λ (k : ℕ). get_or (slice_set acked from number) k 0) same ∙ get_or-set_same acked from number 0 (omega (arith, low, due.width)) in
          let there : get_or (slice_set w.lines from line) u no_line ≡ line = ap (λ (k : ℕ). get_or (slice_set w.lines from line) k no_line) same ∙ get_or-set_same w.lines from line no_line (omega (arith, low, due.long)) in
          let past : IsPast number (sent from) line = acked_past v from (get_or acked from 0) through (sent from) (get_or w.lines from no_line) (mails_are_from v from n.turning.turns due.own due.turns) (due.lines from low) in
          let moved : IsPast number (sent u) line = subst (λ (k : ℕ). IsPast number (sent k) line) (sym same) past in
          subst (λ (k : ℕ). IsPast k (sent u) (get_or (slice_set w.lines from line) u no_line)) (sym here) (subst (λ (l : Unacked). IsPast number (sent u) l) (sym there) moved))
          (λ (other : u ≢ from).
          let here : get_or (slice_set acked from number) u 0 ≡ get_or acked u 0 = get_or-set_other acked from u number 0 other in
          let there : get_or (slice_set w.lines from line) u no_line ≡ get_or w.lines u no_line = get_or-set_other w.lines from u line no_line other in
          subst (λ (k : ℕ). IsPast k (sent u) (get_or (slice_set w.lines from line) u no_line)) (sym here) (subst (λ (l : Unacked). IsPast (get_or acked u 0) (sent u) l) (sym there) (due.lines u below)))
          (cases_eq u from);
      long = let same = length-set w.lines from line in omega (arith, same, due.long);
      emitted = due.emitted;
      outs = due.outs;
    }

abbrev pub event_of : ℕ → ℕ × ℕ → Event
event_of v a = TakeAck v a.0 a.1

-- an acknowledgement to v from a node of the run that was put
abbrev pub IsAckTo : ℕ → (Packet → Type 0) → ℕ → ℕ × ℕ → Type 0
IsAckTo nodes put v a = (a.0 < nodes) × put (Answer (record { from = a.0; to = v; through = a.1 }))

-- the run of those that were taken, after which this waits
record AcksRun (g : Game) (put : Packet → Type 0) (v : ℕ) (n : Node) (taken : List (ℕ × ℕ)) (w : Waiting) : Type 0 where
  after : Node
  run : NodeRun g put v n (map (event_of v) taken) nothing after
  acked : List ℕ
  changes : after ≡ record n { sending = record n.sending { acked = acked } }
  due : IsDueOf g v after w

acks_run : (g : Game) (put : Packet → Type 0) (v : ℕ) (n : Node) (acks : List (ℕ × ℕ)) (w : Waiting) → IsDueOf g v n w → AllByRecursion (IsAckTo g.nodes put v) acks
    → AcksRun g put v n (acks_taken acks w.lines) (record w { lines = after_acks acks w.lines })
acks_run g put v n [] w due each = record { after = n; run = (refl, refl); acked = n.sending.acked; changes = refl; due = due }
acks_run g put v n (a ∷ acks) w due each =
    let mid : Node = acked_node a.0 a.1 n in
    kept
    (acks_run g put v mid acks (record w { lines = slice_set w.lines a.0 (acked_by a.1 (get_or w.lines a.0 no_line)) }) (one_ack g v n w a.0 a.1 due each.0.0) each.1)
    (acks_run g put v n acks w due each.1)
    (goes_no_further w.lines a)
  where
    set : List Unacked
    set = slice_set w.lines a.0 (acked_by a.1 (get_or w.lines a.0 no_line))

    kept : AcksRun g put v (acked_node a.0 a.1 n) (acks_taken acks set) (record w { lines = after_acks acks set }) → AcksRun g put v n (acks_taken acks w.lines) (record w { lines = after_acks acks w.lines })
        → (b : Bool) → AcksRun g put v n (cond b (a ∷ acks_taken acks (cond b set w.lines)) (acks_taken acks w.lines)) (record w { lines = after_acks acks (cond b set w.lines) })
    kept rest still true = record {
      after = rest.after;
      run = (acked_node a.0 a.1 n, (nothing, (refl, (due.up, each.0.0, each.0.1, refl), refl, rest.run)));
      acked = rest.acked;
      changes = rest.changes;
      due = rest.due;
    }
    kept rest still false = still

both : {X : Type 0} (P : X → Type 0) (xs ys : List X) → AllByRecursion P xs → AllByRecursion P ys → AllByRecursion P (xs ++ ys)
both P [] ys a b = b
both P (x ∷ xs) ys a b = (a.0, both P xs ys a.1 b)

first_ack : (v nodes : ℕ) (p : Option Spelled) (put : Packet → Type 0) → ((x : Packet) → Contains (packet_from nodes p) x → put x) → AllByRecursion (IsAckTo nodes put v) (ack_in v nodes p)
first_ack v nodes None put given = tt
first_ack v nodes (Some (SpelledMail m)) put given = tt
first_ack v nodes (Some (Ack from to through)) put given = kept (to == v) refl (nat_lt from nodes) refl given
  where
    kept : (b : Bool) → (to == v) ≡ b → (c : Bool) → nat_lt from nodes ≡ c → ((x : Packet) → Contains (cond c (Answer (record { from = from; to = to; through = through }) ∷ []) []) x → put x) → AllByRecursion (IsAckTo nodes put v) (cond (b && c) ((from, through) ∷ []) [])
    kept true e true low put_is =
        let was : put (Answer (record { from = from; to = to; through = through })) = put_is (Answer (record { from = from; to = to; through = through })) (0, omega arith, refl) in
        ((ltb-true from nodes low, subst (λ (k : ℕ). put (Answer (record { from = from; to = k; through = through }))) (eqb-true to v e) was), tt)
    kept true e false low put_is = tt
    kept false e c low put_is = tt

pub acks_given : (v nodes : ℕ) (given : List (List ℕ)) (put : Packet → Type 0) → ((x : Packet) → Contains (packets_from nodes given) x → put x) → AllByRecursion (IsAckTo nodes put v) (acks_in v nodes given)
acks_given v nodes [] put was = tt
acks_given v nodes (bytes ∷ given) put was =
    both (IsAckTo nodes put v) (ack_in v nodes (packet_of bytes)) (acks_in v nodes given)
    (first_ack v nodes (packet_of bytes) put (λ x there. was x (Contains-append_left (packet_from nodes (packet_of bytes)) (packets_from nodes given) x there)))
    (acks_given v nodes given put (λ x there. was x (Contains-append_right (packet_from nodes (packet_of bytes)) (packets_from nodes given) x there)))

first_taken : (v nodes : ℕ) (p : Option Spelled) → flat_map (taken_from v) (packet_from nodes p) ≡ map (event_of v) (ack_in v nodes p)
first_taken v nodes None = refl
first_taken v nodes (Some (SpelledMail m)) = kept (nat_lt m.from nodes)
  where
    kept : (b : Bool) → flat_map (taken_from v) (cond b (Mail m ∷ []) []) ≡ []
    kept true = refl
    kept false = refl
first_taken v nodes (Some (Ack from to through)) = kept (to == v) refl (nat_lt from nodes)
  where
    kept : (b : Bool) → (to == v) ≡ b → (c : Bool) → flat_map (taken_from v) (cond c (Answer (record { from = from; to = to; through = through }) ∷ []) []) ≡ map (event_of v) (cond (b && c) ((from, through) ∷ []) [])
    kept true e true = rw e refl
    kept true e false = refl
    kept false e true = rw e refl
    kept false e false = refl

pub all_taken : (v nodes : ℕ) (given : List (List ℕ)) → map (event_of v) (acks_in v nodes given) ≡ flat_map (taken_from v) (packets_from nodes given)
all_taken v nodes [] = refl
all_taken v nodes (bytes ∷ given) =
    map-append (event_of v) (ack_in v nodes (packet_of bytes)) (acks_in v nodes given)
    ∙ ap (λ (es : List Event). es ++ map (event_of v) (acks_in v nodes given)) (sym (first_taken v nodes (packet_of bytes)))
    ∙ ap (λ (es : List Event). flat_map (taken_from v) (packet_from nodes (packet_of bytes)) ++ es) (all_taken v nodes given)
    ∙ sym (flat_map-append (taken_from v) (packet_from nodes (packet_of bytes)) (packets_from nodes given))

pub acks_are_events : AcksAreEvents
acks_are_events g v n w given due =
    let acks : List (ℕ × ℕ) = acks_in v g.nodes given in
    let run = acks_run g (Contains (packets_from g.nodes given)) v n acks w due (acks_given v g.nodes given (Contains (packets_from g.nodes given)) (λ x there. there)) in
    record {
      after = run.after;
      call = record { events = map (event_of v) (acks_taken acks w.lines); run = run.run; which = refl };
      acked = run.acked;
      changes = run.changes;
      due = run.due;
    }

-- ---- where none goes further than what was handed over, all are taken

-- a line that is acknowledged goes as far as before, and its messages are numbered on
line-stays : (v u through : ℕ) (l : Unacked) → AreFrom v u l.acked l.messages → through ≤ handed_by l → (handed_by (acked_by through l) ≡ handed_by l) × AreFrom v u (acked_by through l).acked (acked_by through l).messages
line-stays v u through l from far = kept (nat_lt l.acked through) refl
  where
    new : Unacked
    new = record { acked = through; messages = past through l.messages }

    kept : (b : Bool) → nat_lt l.acked through ≡ b → (handed_by (cond b new l) ≡ handed_by l) × AreFrom v u (cond b new l).acked (cond b new l).messages
    kept true e =
        let less : l.acked < through = ltb-true l.acked through e in
        let are : past through l.messages ≡ drop (through - l.acked) l.messages = past_is v u l.acked through l.messages from in
        let count : length (past through l.messages) ≡ length l.messages - (through - l.acked) = ap length are ∙ length-drop (through - l.acked) l.messages in
        let sum : l.acked + (through - l.acked) ≡ through = omega (arith, less) in
        let on : AreFrom v u through (drop (through - l.acked) l.messages) = subst (λ (k : ℕ). AreFrom v u k (drop (through - l.acked) l.messages)) sum (drop_from v u l.acked (through - l.acked) l.messages from) in
        (omega (arith, less, count, far), subst (AreFrom v u through) (sym are) on)
    kept false e = (refl, from)

-- lines of so many nodes, whose messages are numbered on from their acknowledged numbers
abbrev pub AreNumbered : ℕ → ℕ → List Unacked → Type 0
AreNumbered v nodes lines = (u : ℕ) → u < nodes → AreFrom v u (line_of lines u).acked (line_of lines u).messages

-- they still are, and go as far as before
record StayNumbered (v nodes : ℕ) (lines lines2 : List Unacked) : Type 0 where
  numbered : AreNumbered v nodes lines2
  far : (u : ℕ) → handed_by (line_of lines2 u) ≡ handed_by (line_of lines u)
  long : length lines2 ≡ length lines

one-stays : (v nodes : ℕ) (lines : List Unacked) (a : ℕ × ℕ) → AreNumbered v nodes lines → nodes ≤ length lines → a.0 < nodes → a.1 ≤ handed_by (line_of lines a.0)
    → StayNumbered v nodes lines (slice_set lines a.0 (acked_by a.1 (line_of lines a.0)))
one-stays v nodes lines a numbered long low far =
    let new : Unacked = acked_by a.1 (line_of lines a.0) in
    let set : List Unacked = slice_set lines a.0 new in
    let stays = line-stays v a.0 a.1 (line_of lines a.0) (numbered a.0 low) far in
    let here : (u : ℕ) → u ≡ a.0 → line_of set u ≡ new = λ u same. ap (line_of set) same ∙ get_or-set_same lines a.0 new no_line (omega (arith, low, long)) in
    let there : (u : ℕ) → u ≢ a.0 → line_of set u ≡ line_of lines u = λ u other. get_or-set_other lines a.0 u new no_line other in
    record {
      numbered = λ u below.
          ⊎_elim
          (λ (same : u ≡ a.0). subst (λ (l : Unacked). AreFrom v u l.acked l.messages) (sym (here u same)) (subst (λ (k : ℕ). AreFrom v k new.acked new.messages) (sym same) stays.1))
          (λ (other : u ≢ a.0). subst (λ (l : Unacked). AreFrom v u l.acked l.messages) (sym (there u other)) (numbered u below))
          (cases_eq u a.0);
      far = λ u.
          ⊎_elim
          (λ (same : u ≡ a.0). ap handed_by (here u same) ∙ stays.0 ∙ ap (λ (k : ℕ). handed_by (line_of lines k)) (sym same))
          (λ (other : u ≢ a.0). ap handed_by (there u other))
          (cases_eq u a.0);
      long = length-set lines a.0 new;
    }

all_by : {A : Type 0} (P Q : A → Type 0) → ((x : A) → P x → Q x) → (xs : List A) → AllByRecursion P xs → AllByRecursion Q xs
all_by P Q by [] all = tt
all_by P Q by (x ∷ xs) all = (by x all.0, all_by P Q by xs all.1)

pub takes_all : (v nodes : ℕ) (acks : List (ℕ × ℕ)) (lines : List Unacked) → AreNumbered v nodes lines → nodes ≤ length lines → AllByRecursion (λ (a : ℕ × ℕ). a.0 < nodes) acks
    → AllByRecursion (λ (a : ℕ × ℕ). a.1 ≤ handed_by (line_of lines a.0)) acks → acks_taken acks lines ≡ acks
takes_all v nodes [] lines numbered long known far = refl
takes_all v nodes (a ∷ acks) lines numbered long known far =
    let set : List Unacked = slice_set lines a.0 (acked_by a.1 (line_of lines a.0)) in
    let stays = one-stays v nodes lines a numbered long known.0 far.0 in
    let more = all_by (λ (b : ℕ × ℕ). b.1 ≤ handed_by (line_of lines b.0)) (λ (b : ℕ × ℕ). b.1 ≤ handed_by (line_of set b.0)) (λ b is. let same = stays.far b.0 in omega (arith, is, same)) acks far.1 in
    kept (takes_all v nodes acks set stays.numbered (omega (arith, long, stays.long)) known.1 more) (goes_no_further lines a) (le-leb a.1 (handed_by (line_of lines a.0)) far.0)
  where
    kept : acks_taken acks (slice_set lines a.0 (acked_by a.1 (line_of lines a.0))) ≡ acks
        → (b : Bool) → b ≡ true → cond b (a ∷ acks_taken acks (cond b (slice_set lines a.0 (acked_by a.1 (line_of lines a.0))) lines)) (acks_taken acks lines) ≡ a ∷ acks
    kept rest true e = ap (λ (xs : List (ℕ × ℕ)). a ∷ xs) rest
    kept rest false e = absurd cc

-- the senders of acknowledgements are nodes of the run
pub acks_known : (v nodes : ℕ) (given : List (List ℕ)) → AllByRecursion (λ (a : ℕ × ℕ). a.0 < nodes) (acks_in v nodes given)
acks_known v nodes given =
    let some : Packet → Type 0 = λ (x : Packet). Unit {0} in
    all_by (IsAckTo nodes some v) (λ (a : ℕ × ℕ). a.0 < nodes) (λ a is. is.0) (acks_in v nodes given) (acks_given v nodes given some (λ x there. tt))

due_numbered : (g : Game) (v : ℕ) (n : Node) (w : Waiting) → IsDueOf g v n w → AreNumbered v g.nodes w.lines
due_numbered g v n w due u low =
    let acked : ℕ = get_or n.sending.acked u 0 in
    let mails : List Message = mails_to v u n.turning.turns in
    let start : 0 + acked ≡ acked = zero-add acked in
    let from : AreFrom v u acked (drop acked mails) = subst (λ (k : ℕ). AreFrom v u k (drop acked mails)) start (drop_from v u 0 acked mails (mails_are_from v u n.turning.turns due.own due.turns)) in
    subst (λ (k : ℕ). AreFrom v u k (line_of w.lines u).messages) (sym (due.lines u low).number) (subst (AreFrom v u acked) (sym (due.lines u low).waits) from)

pub all_are_taken : AllAreTaken
all_are_taken g v n w given due far es these =
    these ∙ ap (map (event_of v)) (takes_all v g.nodes (acks_in v g.nodes given) w.lines (due_numbered g v n w due) due.long (acks_known v g.nodes given) far) ∙ all_taken v g.nodes given
