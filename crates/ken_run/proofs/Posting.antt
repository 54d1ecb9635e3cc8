-- What a node puts where it sends all that is due: for each node of the run at most 16 messages, the oldest unacknowledged one among them.
use Rattle.std.proofs.Common.{◌≡◌, ◌≢◌, ℕ, zero, suc, ◌+◌, ◌<◌, ◌≤◌, ◌==◌, if◌then◌else◌, ⊎_elim, List, [], ◌∷◌, ◌++◌, length, map, Contains, Bool, true, false, Option, Some, refl, sym, ap, subst, ◌∙◌, arith}
use Rattle.std.specs.Prelude.{slice_get, slice_index}
use Rattle.std.specs.List.{AllByRecursion, filter, flat_map, range_with_len}
use Rattle.std.proofs.lemmas.Bool.{cases_eq, ne_eqb}
use Rattle.std.proofs.lemmas.List.{length-append}
use Rattle.std.proofs.lemmas.List.Elements.{Contains-append_left, Contains-append_right, filter-append}
use Rattle.std.proofs.lemmas.Grind.{flat_map-append}
use Rattle.ken_model.specs.declared.messages.Message.{Message}
use Rattle.ken_model.specs.Game.{Game}
use Rattle.ken_packet.specs.Reading.{packet_of}
use Rattle.ken_net.specs.History.{AreFor, puts_for}
use Rattle.ken_net.specs.Puts.{Put}
use Rattle.ken_core.specs.declared.events.Event.{Event}
use Rattle.ken_core.specs.declared.events.Event.TheVariants.{Seal, SealCut, Patch, SyncImage, Turnover, Send, Ack, TakeAck, Emit, Crash, Recover}
use Rattle.ken_core.specs.Calls.{AreSends, due_to}
use Rattle.ken_core.specs.Nodes.{Node}
use Rattle.ken_core.specs.Packets as core
use Rattle.ken_core.specs.Packets.{Packet, Mail, Outgoing, mail_out, outgoing, put_by, unacked}
use Rattle.ken_core.specs.Runs.{NodeRun}
use Rattle.ken_core.specs.Turns.{mails_to}
use Rattle.ken_core.proofs.Ledgers.{mail_is}
use Rattle.ken_ship.specs.Laws.{packet_from}
use Rattle.ken_node.specs.NodeCalls.{AreSpelled, receiver}
use Rattle.ken_flow.specs.Standstill.{IsResent, unacked_to}

all-append : {A : Type 0} (P : A → Type 0) (xs ys : List A) → AllByRecursion P xs → AllByRecursion P ys → AllByRecursion P (xs ++ ys)
all-append P [] ys one two = two
all-append P (x ∷ xs) ys one two = (one.0, all-append P xs ys one.1 two)

all-left : {A : Type 0} (P : A → Type 0) (xs ys : List A) → AllByRecursion P (xs ++ ys) → AllByRecursion P xs
all-left P [] ys all = tt
all-left P (x ∷ xs) ys all = (all.0, all-left P xs ys all.1)

all-right : {A : Type 0} (P : A → Type 0) (xs ys : List A) → AllByRecursion P (xs ++ ys) → AllByRecursion P ys
all-right P [] ys all = all
all-right P (x ∷ xs) ys all = all-right P xs ys all.1

-- an event that sends
abbrev IsSend : Event → Type 0
IsSend (Seal node from draws pages) = ⊥
IsSend (SealCut node from draws pages landed) = ⊥
IsSend (Patch node page) = ⊥
IsSend (SyncImage node) = ⊥
IsSend (Turnover node outcome told) = ⊥
IsSend (Send node to i) = Unit {0}
IsSend (Ack node from) = ⊥
IsSend (TakeAck node from through) = ⊥
IsSend (Emit node) = ⊥
IsSend (Crash node pages) = ⊥
IsSend (Recover node) = ⊥

some-sends : (v w : ℕ) (is : List ℕ) → AllByRecursion IsSend (map (λ i. Send v w i) is)
some-sends v w [] = tt
some-sends v w (i ∷ is) = (tt, some-sends v w is)

module _ (g : Game) (v : ℕ) (n : Node) where
  -- the sends to one node
  abbrev sends_to : ℕ → ℕ → List Event
  sends_to w count = map (λ i. Send v w i) (range_with_len 0 count)

  abbrev all_sends : List ℕ → List Event
  all_sends ws = flat_map (λ w. map (λ i. Send v w i) (range_with_len 0 (due_to v n w))) ws

  are-sends : (ws : List ℕ) → AllByRecursion IsSend (all_sends ws)
  are-sends [] = tt
  are-sends (w ∷ ws) = all-append IsSend (sends_to w (due_to v n w)) (all_sends ws) (some-sends v w (range_with_len 0 (due_to v n w))) (are-sends ws)

  -- one that may be made
  abbrev MaySend : Event → Type 0
  MaySend (Seal node from draws pages) = ⊥
  MaySend (SealCut node from draws pages landed) = ⊥
  MaySend (Patch node page) = ⊥
  MaySend (SyncImage node) = ⊥
  MaySend (Turnover node outcome told) = ⊥
  MaySend (Send node to i) = (m : Message) × ((to < g.nodes) × (unacked v to i n ≡ Some m))
  MaySend (Ack node from) = ⊥
  MaySend (TakeAck node from through) = ⊥
  MaySend (Emit node) = ⊥
  MaySend (Crash node pages) = ⊥
  MaySend (Recover node) = ⊥

  abbrev puts_of : List Event → List core.Put
  puts_of es = flat_map (λ e. (outgoing v n e).puts) es

  -- a run of sends puts what they put, each of which may be made
  record Sent (es : List Event) (out : Outgoing) : Type 0 where
    puts : out.puts ≡ puts_of es
    may : AllByRecursion MaySend es

  sent-run : (put : Packet → Type 0) (es : List Event) (out : Outgoing) (n2 : Node) → AllByRecursion IsSend es → NodeRun g put v n es out n2 → Sent es out
  sent-run put [] out n2 are run = record { puts = ap (λ (o : Outgoing). o.puts) run.0; may = tt }
  sent-run put (Send node to i ∷ es) out n2 are run =
      let step = run.1.1.1 in
      let rest = sent-run put es run.1.0 n2 are.1 (subst (λ (x : Node). NodeRun g put v x es run.1.0 n2) step.1.3 run.1.1.3) in
      record {
        puts = ap (λ (o : Outgoing). o.puts) run.1.1.2 ∙ ap (λ (ps : List core.Put). (outgoing v n (Send node to i)).puts ++ ps) rest.puts;
        may = ((step.0, (step.1.1, step.1.2)), rest.may);
      }
  sent-run put (Seal node from draws pages ∷ es) out n2 are run = absurd are.0
  sent-run put (SealCut node from draws pages landed ∷ es) out n2 are run = absurd are.0
  sent-run put (Patch node page ∷ es) out n2 are run = absurd are.0
  sent-run put (SyncImage node ∷ es) out n2 are run = absurd are.0
  sent-run put (Turnover node outcome told ∷ es) out n2 are run = absurd are.0
  sent-run put (Ack node from ∷ es) out n2 are run = absurd are.0
  sent-run put (TakeAck node from through ∷ es) out n2 are run = absurd are.0
  sent-run put (Emit node ∷ es) out n2 are run = absurd are.0
  sent-run put (Crash node pages ∷ es) out n2 are run = absurd are.0
  sent-run put (Recover node ∷ es) out n2 are run = absurd are.0

  -- what one of them puts
  record IsMailPut (q : core.Put) : Type 0 where
    to : ℕ
    known : to < g.nodes
    message : Message
    packet : q.packet ≡ Mail message
    for_it : message.to ≡ to

  mail-put : (to i : ℕ) (m : Message) → unacked v to i n ≡ Some m → (outgoing v n (Send v to i)).puts ≡ put_by v to n (Mail m) ∷ []
  mail-put to i m is = ap (λ (o : Option Message). (mail_out v to n o).puts) is

  goes-to : (to i : ℕ) (m : Message) → unacked v to i n ≡ Some m → m.to ≡ to
  goes-to to i m is = let both = mail_is v to (slice_index n.sending.acked to + i) n.turning.turns m is in both.1

  mails-put : (es : List Event) → AllByRecursion MaySend es → AllByRecursion IsMailPut (puts_of es)
  mails-put [] may = tt
  mails-put (Send node to i ∷ es) may =
      subst (λ (ps : List core.Put). AllByRecursion IsMailPut (ps ++ puts_of es)) (sym (mail-put to i may.0.0 may.0.1.1))
      (record { to = to; known = may.0.1.0; message = may.0.0; packet = refl; for_it = goes-to to i may.0.0 may.0.1.1 }, mails-put es may.1)
  mails-put (Seal node from draws pages ∷ es) may = absurd may.0
  mails-put (SealCut node from draws pages landed ∷ es) may = absurd may.0
  mails-put (Patch node page ∷ es) may = absurd may.0
  mails-put (SyncImage node ∷ es) may = absurd may.0
  mails-put (Turnover node outcome told ∷ es) may = absurd may.0
  mails-put (Ack node from ∷ es) may = absurd may.0
  mails-put (TakeAck node from through ∷ es) may = absurd may.0
  mails-put (Emit node ∷ es) may = absurd may.0
  mails-put (Crash node pages ∷ es) may = absurd may.0
  mails-put (Recover node ∷ es) may = absurd may.0

  -- ---- how many go to w

  module _ (w : ℕ) where
    abbrev for_w : List core.Put → List core.Put
    for_w qs = filter (λ (q : core.Put). receiver q.packet == w) qs

    for-append : (xs ys : List core.Put) → length (for_w (xs ++ ys)) ≡ length (for_w xs) + length (for_w ys)
    for-append xs ys = ap (λ (qs : List core.Put). length qs) (filter-append (λ (q : core.Put). receiver q.packet == w) xs ys) ∙ length-append (for_w xs) (for_w ys)

    if-one : (b : Bool) (q : core.Put) → length (if b then q ∷ [] else []) ≤ 1
    if-one true q = omega arith
    if-one false q = omega arith

    one-here : (to i : ℕ) (m : Message) → unacked v to i n ≡ Some m → length (for_w (outgoing v n (Send v to i)).puts) ≤ 1
    one-here to i m is = subst (λ (ps : List core.Put). length (for_w ps) ≤ 1) (sym (mail-put to i m is)) (if-one (m.to == w) (put_by v to n (Mail m)))

    none-here : (to i : ℕ) (m : Message) → unacked v to i n ≡ Some m → to ≢ w → length (for_w (outgoing v n (Send v to i)).puts) ≡ 0
    none-here to i m is other =
        let ne : m.to ≢ w = λ same. other (sym (goes-to to i m is) ∙ same) in
        subst (λ (ps : List core.Put). length (for_w ps) ≡ 0) (sym (mail-put to i m is)) (rw (ne_eqb m.to w ne) refl)

    block-few : (u : ℕ) (is : List ℕ) → AllByRecursion MaySend (map (λ i. Send v u i) is) → length (for_w (puts_of (map (λ i. Send v u i) is))) ≤ length is
    block-few u [] may = omega arith
    block-few u (i ∷ is) may =
        let here = one-here u i may.0.0 may.0.1.1 in
        let rest = block-few u is may.1 in
        let both = for-append (outgoing v n (Send v u i)).puts (puts_of (map (λ i. Send v u i) is)) in
        omega (arith, here, rest, both)

    block-none : (u : ℕ) (is : List ℕ) → u ≢ w → AllByRecursion MaySend (map (λ i. Send v u i) is) → length (for_w (puts_of (map (λ i. Send v u i) is))) ≡ 0
    block-none u [] other may = refl
    block-none u (i ∷ is) other may =
        let here = none-here u i may.0.0 may.0.1.1 other in
        let rest = block-none u is other may.1 in
        let both = for-append (outgoing v n (Send v u i)).puts (puts_of (map (λ i. Send v u i) is)) in
        omega (arith, here, rest, both)

    puts-append : (xs ys : List Event) → puts_of (xs ++ ys) ≡ puts_of xs ++ puts_of ys
    puts-append xs ys = flat_map-append (λ (e : Event). (outgoing v n e).puts) xs ys

    range-none : (a k : ℕ) → w < a → AllByRecursion MaySend (all_sends (range_with_len a k)) → length (for_w (puts_of (all_sends (range_with_len a k)))) ≡ 0
    range-none a zero low may = refl
    range-none a (suc k) low may =
        let block = sends_to a (due_to v n a) in
        let later = all_sends (range_with_len (a + 1) k) in
        let here = block-none a (range_with_len 0 (due_to v n a)) (λ same. absurd (omega (arith, same, low))) (all-left MaySend block later may) in
        let rest = range-none (a + 1) k (omega (arith, low)) (all-right MaySend block later may) in
        let both : length (for_w (puts_of (block ++ later))) ≡ length (for_w (puts_of block)) + length (for_w (puts_of later)) = ap (λ (qs : List core.Put). length (for_w qs)) (puts-append block later) ∙ for-append (puts_of block) (puts_of later) in
        omega (arith, here, rest, both)

    length-range : (a k : ℕ) → length (range_with_len a k) ≡ k
    length-range a zero = refl
    length-range a (suc k) = let rest = length-range (a + 1) k in omega (arith, rest)

    range-few : (a k : ℕ) → AllByRecursion MaySend (all_sends (range_with_len a k)) → length (for_w (puts_of (all_sends (range_with_len a k)))) ≤ 16
    range-few a zero may = omega arith
    range-few a (suc k) may =
        let block = sends_to a (due_to v n a) in
        let later = all_sends (range_with_len (a + 1) k) in
        let here = block-few a (range_with_len 0 (due_to v n a)) (all-left MaySend block later may) in
        let long = length-range 0 (due_to v n a) in
        let both : length (for_w (puts_of (block ++ later))) ≡ length (for_w (puts_of block)) + length (for_w (puts_of later)) = ap (λ (qs : List core.Put). length (for_w qs)) (puts-append block later) ∙ for-append (puts_of block) (puts_of later) in
        let most : due_to v n a ≤ 16 = omega arith in
        ⊎_elim
        (λ (same : a ≡ w).
        let rest = range-none (a + 1) k (omega (arith, same)) (all-right MaySend block later may) in
        omega (arith, here, long, rest, both, most))
        (λ other.
        let none = block-none a (range_with_len 0 (due_to v n a)) other (all-left MaySend block later may) in
        let rest = range-few (a + 1) k (all-right MaySend block later may) in
        omega (arith, none, rest, both))
        (cases_eq a w)

    -- ---- the oldest one for w is there

    record HasFirst (qs : List core.Put) : Type 0 where
      message : Message
      first : unacked v w 0 n ≡ Some message
      put : core.Put
      one : Contains qs put
      packet : put.packet ≡ Mail message

    first-left : (xs ys : List core.Put) → HasFirst xs → HasFirst (xs ++ ys)
    first-left xs ys h = record { message = h.message; first = h.first; put = h.put; one = Contains-append_left xs ys h.put h.one; packet = h.packet }

    first-right : (xs ys : List core.Put) → HasFirst ys → HasFirst (xs ++ ys)
    first-right xs ys h = record { message = h.message; first = h.first; put = h.put; one = Contains-append_right xs ys h.put h.one; packet = h.packet }

    block-first : (u d : ℕ) → u ≡ w → 0 < d → AllByRecursion MaySend (sends_to u d) → HasFirst (puts_of (sends_to u d))
    block-first u zero same some may = absurd (omega (arith, some))
    block-first u (suc d) same some may =
        let m : Message = may.0.0 in
        let is : unacked v u 0 n ≡ Some m = may.0.1.1 in
        first-left (outgoing v n (Send v u 0)).puts (puts_of (map (λ i. Send v u i) (range_with_len (0 + 1) d)))
        (subst HasFirst (sym (mail-put u 0 m is)) (record {
          message = m;
          first = subst (λ (x : ℕ). unacked v x 0 n ≡ Some m) same is;
          put = put_by v u n (Mail m);
          one = (0, omega arith, refl);
          packet = refl;
        }))

    range-first : (a k : ℕ) → a ≤ w → w < a + k → 0 < due_to v n w → AllByRecursion MaySend (all_sends (range_with_len a k)) → HasFirst (puts_of (all_sends (range_with_len a k)))
    range-first a zero low high some may = absurd (omega (arith, low, high))
    range-first a (suc k) low high some may =
        let block = sends_to a (due_to v n a) in
        let later = all_sends (range_with_len (a + 1) k) in
        subst HasFirst (sym (puts-append block later))
        (⊎_elim
        (λ (same : a ≡ w). first-left (puts_of block) (puts_of later) (block-first a (due_to v n a) same (subst (λ (x : ℕ). 0 < due_to v n x) (sym same) some) (all-left MaySend block later may)))
        (λ other. first-right (puts_of block) (puts_of later) (range-first (a + 1) k (omega (arith, low, other)) (omega (arith, high)) some (all-right MaySend block later may)))
        (cases_eq a w))

-- ---- what the network saw of it

module _ (g : Game) (v : ℕ) (n : Node) where
  spelled-for : (ps : List Put) (qs : List core.Put) → AreSpelled g.nodes ps qs → AllByRecursion (IsMailPut g v n) qs → AreFor g.nodes ps
  spelled-for [] [] spelled are = tt
  spelled-for [] (q ∷ qs) spelled are = absurd spelled
  spelled-for (p ∷ ps) [] spelled are = absurd spelled
  spelled-for (p ∷ ps) (q ∷ qs) spelled are =
      let to : p.to ≡ are.0.to = spelled.0.to ∙ ap receiver are.0.packet ∙ are.0.for_it in
      (subst (λ (x : ℕ). x < g.nodes) (sym to) are.0.known, spelled-for ps qs spelled.1 are.1)

  same-kept : (b : Bool) (p : Put) (q : core.Put) (ps : List Put) (qs : List core.Put) → length ps ≡ length qs → length (if b then p ∷ ps else ps) ≡ length (if b then q ∷ qs else qs)
  same-kept true p q ps qs same = omega (arith, same)
  same-kept false p q ps qs same = same

  spelled-count : (w : ℕ) (ps : List Put) (qs : List core.Put) → AreSpelled g.nodes ps qs → length (puts_for w ps) ≡ length (filter (λ (q : core.Put). receiver q.packet == w) qs)
  spelled-count w [] [] spelled = refl
  spelled-count w [] (q ∷ qs) spelled = absurd spelled
  spelled-count w (p ∷ ps) [] spelled = absurd spelled
  spelled-count w (p ∷ ps) (q ∷ qs) spelled =
      subst (λ (x : ℕ). length (if x == w then p ∷ puts_for w ps else puts_for w ps) ≡ length (filter (λ (q : core.Put). receiver q.packet == w) (q ∷ qs))) (sym spelled.0.to)
      (same-kept (receiver q.packet == w) p q (puts_for w ps) (filter (λ (q : core.Put). receiver q.packet == w) qs) (spelled-count w ps qs spelled.1))

  -- the put that spells one of them
  record IsSpelledIn (ps : List Put) (q : core.Put) : Type 0 where
    put : Put
    one : Contains ps put
    to : put.to ≡ receiver q.packet
    bytes : packet_from g.nodes (packet_of put.bytes) ≡ q.packet ∷ []

  later-in : (p : Put) (ps : List Put) (q : core.Put) → IsSpelledIn ps q → IsSpelledIn (p ∷ ps) q
  later-in p ps q is = record { put = is.put; one = Contains-append_right (p ∷ []) ps is.put is.one; to = is.to; bytes = is.bytes }

  spelled-in : (ps : List Put) (qs : List core.Put) (x : core.Put) → AreSpelled g.nodes ps qs → Contains qs x → IsSpelledIn ps x
  spelled-in [] [] x spelled one = let low = one.1 in absurd (omega (arith, low))
  spelled-in [] (q ∷ qs) x spelled one = absurd spelled
  spelled-in (p ∷ ps) [] x spelled one = absurd spelled
  spelled-in (p ∷ ps) (q ∷ qs) x spelled (zero, low, is) = record {
    put = p;
    one = (0, omega arith, refl);
    to = spelled.0.to ∙ ap (λ (y : core.Put). receiver y.packet) is;
    bytes = spelled.0.packet ∙ ap (λ (y : core.Put). y.packet ∷ []) is;
  }
  spelled-in (p ∷ ps) (q ∷ qs) x spelled (suc k, low, is) = later-in p ps x (spelled-in ps qs x spelled.1 (k, omega (arith, low), is))

module _ (g : Game) (put : Packet → Type 0) (v : ℕ) (n n2 : Node) (events : List Event) (out : Outgoing) (which : AreSends g v n events) (run : NodeRun g put v n events out n2) (ps : List Put) (spelled : AreSpelled g.nodes ps out.puts) where
  sent : Sent g v n (all_sends g v n (range_with_len 0 g.nodes)) out
  sent = sent-run g v n put (all_sends g v n (range_with_len 0 g.nodes)) out n2 (are-sends g v n (range_with_len 0 g.nodes)) (subst (λ (es : List Event). NodeRun g put v n es out n2) which run)

  spelled-sent : AreSpelled g.nodes ps (puts_of g v n (all_sends g v n (range_with_len 0 g.nodes)))
  spelled-sent = subst (AreSpelled g.nodes ps) sent.puts spelled

  pub posts-for : AreFor g.nodes ps
  posts-for = spelled-for g v n ps (puts_of g v n (all_sends g v n (range_with_len 0 g.nodes))) spelled-sent (mails-put g v n (all_sends g v n (range_with_len 0 g.nodes)) sent.may)

  pub posts-few : (w : ℕ) → length (puts_for w ps) ≤ 16
  posts-few w =
      let same = spelled-count g v n w ps (puts_of g v n (all_sends g v n (range_with_len 0 g.nodes))) spelled-sent in
      let few = range-few g v n w 0 g.nodes sent.may in
      omega (arith, same, few)

  pub posts-first : (w : ℕ) → w < g.nodes → 0 < unacked_to v w n → IsResent g v w n ps
  posts-first w low some =
      let first = range-first g v n w 0 g.nodes (omega arith) (omega (arith, low)) (omega (arith, some)) sent.may in
      let put = spelled-in g v n ps (puts_of g v n (all_sends g v n (range_with_len 0 g.nodes))) first.put spelled-sent first.one in
      record {
        message = first.message;
        first = ap (λ (k : ℕ). slice_get (mails_to v w n.turning.turns) k) (let e : slice_index n.sending.acked w ≡ slice_index n.sending.acked w + 0 = omega arith in e) ∙ first.first;
        put = put.put;
        one = put.one;
        to = put.to ∙ ap receiver first.packet ∙ goes-to g v n w 0 first.message first.first;
        bytes = put.bytes ∙ ap (λ (x : Packet). x ∷ []) first.packet;
      }
