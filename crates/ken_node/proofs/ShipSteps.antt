-- The externaliser sends, takes acknowledgements or emits, and the workers meet.
use Rattle.std.proofs.Common.{◌≡◌, ◌≢◌, ℕ, zero, suc, ◌-◌, ◌<◌, ◌≤◌, List, [], ◌∷◌, ◌++◌, length, map, take, drop, cond, ◌==◌, ◌&&◌, nat_lt, slice_get, slice_index, Option, Some, None, IsSome, Bool, true, false, Result, Ok, Err, OnOk, refl, sym, ap, subst, ◌∙◌, append-nil, add-zero, arith}
use Rattle.std.specs.List.{AllByRecursion, flat_map, range_with_len}
use Rattle.std.proofs.lemmas.List.{append_cancel_left, length-drop}
use Rattle.std.proofs.lemmas.List.Elements.{recursion_from_All}
use Rattle.std.proofs.lemmas.Bool.{eqb-true, false≢true, lt-ltb, ltb-true}
use Rattle.std.specs.declared.alloc.AllocError.{AllocError}
use Rattle.ken_disk.specs.Story.{Story}
use Rattle.ken_model.specs.declared.messages.Message.{Message}
use Rattle.ken_model.specs.declared.messages.Out.{Out}
use Rattle.ken_model.specs.Game.{Game}
use Rattle.ken_packet.specs.declared.packet.Packet.{Packet as Spelled}
use Rattle.ken_packet.specs.declared.packet.Packet.TheVariants.{Mail as SpelledMail, Ack}
use Rattle.ken_packet.specs.Reading.{packet_of}
use Rattle.ken_packet.proofs.Whole.{packet_again}
use Rattle.ken_net.specs.Puts.{Put}
use Rattle.ken_outbox.specs.Waiting.{Unacked, Waiting}
use Rattle.ken_core.specs.Calls.{IsNone}
use Rattle.ken_core.specs.Nodes.{Node}
use Rattle.ken_core.specs.Packets.{Packet, Mail, Answer, due, nothing, put_by}
use Rattle.ken_core.specs.Turns.{mails_to, outs_of}
use Rattle.ken_links.specs.Rings.{pushed, popped}
use Rattle.ken_ship.specs.declared.emit.Emit.{Emit}
use Rattle.ken_ship.specs.declared.emit.Emit.TheVariants.{Done, Refused, Nothing}
use Rattle.ken_ship.specs.declared.faults.NodeFault.{NodeFault}
use Rattle.ken_ship.specs.declared.faults.NodeFault.TheVariants.{Disk, Damaged, Outlet, Memory}
use Rattle.ken_ship.specs.declared.items.Sealed.{Sealed}
use Rattle.ken_ship.specs.declared.sending.TheConstants.{MOST_DUE}
use Rattle.ken_ship.specs.declared.worker.SendWorker.{SendWorker}
use Rattle.ken_ship.specs.Emitting.{Emitted, emitted_of}
use Rattle.ken_ship.specs.Fits.{AreMails, IsMailFrom, IsMailTo}
use Rattle.ken_ship.specs.Handing.{HandedOver, mails_of, with_turn, with_turns}
use Rattle.ken_ship.specs.Laws.{GoNoFurther, IsDueOf, handed_to, line_of, mails_out, packet_from, packets_from}
use Rattle.ken_ship.specs.Parts.{Part, part_of}
use Rattle.ken_ship.specs.Parts.{IsSameWorker as IsSameSender}
use Rattle.ken_ship.specs.Sending.{SentDue, all_due, due_to, mail_put}
use Rattle.ken_ship.specs.Taking.{Heard, TellsRisen, ack_in, acks_in}
use Rattle.ken_ship.proofs.Dues.{sends_are_events}
use Rattle.ken_ship.proofs.Lines.{mails_from, sends_are_mails}
use Rattle.ken_ship.proofs.Numbered.{get_drop}
use Rattle.ken_work.specs.declared.patcher.PatchWorker.{PatchWorker}
use Rattle.ken_node.specs.declared.stage.Stage.TheVariants.{Created}
use Rattle.ken_work.specs.declared.worker.TurnWorker.{TurnWorker}
use Rattle.ken_work.specs.Meeting.{AreEmpty, AreFronts, AreJoined, HaveMet}
use Rattle.ken_node.specs.NodeCalls.{AreSpelled, EmitStepsBy, EmitsNone, GoesNoFurther, HearSteps, IsSpelled, SendSteps}
use Rattle.ken_whole.specs.WholeLaws.{LeadsTo}
use Rattle.ken_whole.proofs.AcksWhole.{acks_keep_whole}
use Rattle.ken_whole.proofs.EmissionsWhole.{emission_keeps_whole}
use Rattle.ken_whole.proofs.Rings.{queue-moved}
use Rattle.ken_whole.proofs.SendsWhole.{sends_keep_whole}
use Rattle.ken_node.proofs.Up.{AreUp, met-fronts, met-up}

back-of-none : {A : Type 0} (xs ys : List A) → xs ++ ys ≡ [] → ys ≡ []
back-of-none [] ys none = none
back-of-none (x ∷ xs) ys none = absurd cc

-- ---- what is due can be spelled as mail

due-mails : (v : ℕ) (turns : List Sealed) (w : Waiting) → v < 8 → AreMails v w.lines → AreMails v (with_turns v turns w).lines
due-mails v [] w low were = were
due-mails v (s ∷ ss) w low were = due-mails v ss (with_turn v s w) low (sends_are_mails v w.lines (mails_of v s) (mails_from v s.stamp s.sends low s.fits) were)

lines-mails : (s : SendWorker) → AreMails s.backlog.node (part_of s).due.lines
lines-mails s = due-mails s.backlog.node s.backlog.turns.items s.backlog.outbox s.backlog.low s.backlog.mails

taken-mails : (v u k : ℕ) (ms : List Message) → AllByRecursion (IsMailTo v u) ms → AllByRecursion (IsMailFrom v) (take k ms)
taken-mails v u zero ms each = tt
taken-mails v u (suc k) [] each = tt
taken-mails v u (suc k) (m ∷ ms) each = (record { is = each.0.is; from = each.0.from }, taken-mails v u k ms each.1)

both : (v : ℕ) (ms more : List Message) → AllByRecursion (IsMailFrom v) ms → AllByRecursion (IsMailFrom v) more → AllByRecursion (IsMailFrom v) (ms ++ more)
both v [] more each later = later
both v (m ∷ ms) more each later = (each.0, both v ms more each.1 later)

all-mails : (v : ℕ) (lines : List Unacked) (us : List ℕ) → AreMails v lines → AllByRecursion (IsMailFrom v) (flat_map (due_to lines) us)
all-mails v lines [] are = tt
all-mails v lines (u ∷ us) are =
    both v (due_to lines u) (flat_map (due_to lines) us) (taken-mails v u MOST_DUE (line_of lines u).messages (recursion_from_All (IsMailTo v u) (line_of lines u).messages (are u))) (all-mails v lines us are)

from-node : (nodes : ℕ) (m : Message) (b : Bool) → nat_lt m.from nodes ≡ b → m.from < nodes → cond b (Mail m ∷ []) [] ≡ Mail m ∷ []
from-node nodes m true e low = refl
from-node nodes m false e low = absurd (false≢true (sym e ∙ lt-ltb m.from nodes low))

mail-spelled : (nodes v : ℕ) (n : Node) (m : Message) → v < nodes → IsMailFrom v m → IsSpelled nodes (mail_put m) (put_by v m.to n (Mail m))
mail-spelled nodes v n m low is = record {
  packet = ap (packet_from nodes) (packet_again (SpelledMail m) is.is) ∙ from-node nodes m (nat_lt m.from nodes) refl (let from = is.from in omega (arith, from, low));
  to = refl;
}

mails-spelled : (nodes v : ℕ) (n : Node) (xs ms : List Message) → v < nodes → map mail_put xs ≡ map mail_put ms → AllByRecursion (IsMailFrom v) xs → AreSpelled nodes (map mail_put xs) (mails_out v n ms).puts
mails-spelled nodes v n [] [] low e each = tt
mails-spelled nodes v n [] (m ∷ ms) low e each = absurd cc
mails-spelled nodes v n (x ∷ xs) [] low e each = absurd cc
mails-spelled nodes v n (x ∷ xs) (m ∷ ms) low e each =
    let first : mail_put x ≡ mail_put m = cc in
    let rest : map mail_put xs ≡ map mail_put ms = cc in
    let alone : x ∷ [] ≡ m ∷ [] = ap (λ (p : Put). p.sealed) first in
    let same : x ≡ m = cc in
    (subst (λ (y : Message). IsSpelled nodes (mail_put x) (put_by v y.to n (Mail y))) same (mail-spelled nodes v n x low each.0), mails-spelled nodes v n xs ms low rest each.1)

-- ---- acknowledgements that go no further than what was sent go no further than what was handed over

sent-far : (g : Game) (v : ℕ) (n : Node) (w : Waiting) (u through : ℕ) → IsDueOf g v n w → u < g.nodes → through ≤ length (mails_to v u n.turning.turns) → through ≤ handed_to w u
sent-far g v n w u through is low far =
    let line = is.lines u low in
    let acked : ℕ = slice_index n.sending.acked u in
    let mails : List Message = mails_to v u n.turning.turns in
    let number = line.number in
    let count : length (line_of w.lines u).messages ≡ length mails - acked = ap length line.waits ∙ length-drop acked mails in
    omega (arith, number, count, far)

all-goes : (w : Waiting) (xs ys : List (ℕ × ℕ)) → GoNoFurther w xs → GoNoFurther w ys → GoNoFurther w (xs ++ ys)
all-goes w [] ys goes more = more
all-goes w (x ∷ xs) ys goes more = (goes.0, all-goes w xs ys goes.1 more)

module _ (g : Game) (v : ℕ) (n : Node) (w : Waiting) (is : IsDueOf g v n w) where
  ack-goes : (rest : List Packet) (p : Option Spelled) → AllByRecursion (GoesNoFurther v n) (packet_from g.nodes p ++ rest) → GoNoFurther w (ack_in v g.nodes p) × AllByRecursion (GoesNoFurther v n) rest
  ack-goes rest None each = (tt, each)
  ack-goes rest (Some (SpelledMail m)) each = kept (nat_lt m.from g.nodes) each
    where
      kept : (b : Bool) → AllByRecursion (GoesNoFurther v n) (cond b (Mail m ∷ []) [] ++ rest) → Unit {0} × AllByRecursion (GoesNoFurther v n) rest
      kept true known = (tt, known.1)
      kept false known = (tt, known)
  ack-goes rest (Some (Ack from to through)) each = kept (to == v) refl (nat_lt from g.nodes) refl each
    where
      kept : (b : Bool) → (to == v) ≡ b → (c : Bool) → nat_lt from g.nodes ≡ c → AllByRecursion (GoesNoFurther v n) (cond c (Answer (record { from = from; to = to; through = through }) ∷ []) [] ++ rest)
          → GoNoFurther w (cond (b && c) ((from, through) ∷ []) []) × AllByRecursion (GoesNoFurther v n) rest
      kept true e true low known = ((sent-far g v n w from through is (ltb-true from g.nodes low) (known.0 (eqb-true to v e)), tt), known.1)
      kept false e true low known = (tt, known.1)
      kept true e false low known = (tt, known)
      kept false e false low known = (tt, known)

  acks-go : (given : List (List ℕ)) → AllByRecursion (GoesNoFurther v n) (packets_from g.nodes given) → GoNoFurther w (acks_in v g.nodes given)
  acks-go [] each = tt
  acks-go (bytes ∷ given) each =
      let first = ack-goes (packets_from g.nodes given) (packet_of bytes) each in
      all-goes w (ack_in v g.nodes (packet_of bytes)) (acks_in v g.nodes given) first.0 (acks-go given first.1)

-- ---- what is due

first-due : {A : Type 0} (all : List A) (k : ℕ) (x : A) (rest : List A) → x ∷ rest ≡ drop k all → slice_get all k ≡ Some x
first-due {A} all k x rest is = ap (slice_get all) (sym (add-zero k)) ∙ sym (get_drop k all 0) ∙ ap (λ (xs : List A). slice_get xs 0) (sym is)

none-due : {A : Type 0} (all : List A) (k : ℕ) → [] ≡ drop k all → slice_get all k ≡ None
none-due {A} all k is = ap (slice_get all) (sym (add-zero k)) ∙ sym (get_drop k all 0) ∙ ap (λ (xs : List A). slice_get xs 0) (sym is)

some-due : {A : Type 0} (all : List A) (k : ℕ) (xs : List A) → xs ≡ drop k all → xs ≢ [] → IsSome (slice_get all k)
some-due all k [] is some = absurd (some refl)
some-due all k (x ∷ xs) is some = subst IsSome (sym (first-due all k x xs is)) refl

module _ {D : Type 0} (told : D → Option Story) (size : D → ℕ) (g : Game) (v : ℕ) (n : Node) (t t2 : TurnWorker D) (p p2 : PatchWorker D) (s s1 s2 : SendWorker) (up : AreUp told size g v n t p s) (met : HaveMet told size t t2 p p2 s1 s2) (joined : AreJoined t2 p2 s2)
    (first : IsSameSender s s1) (same : IsSameSender s1 s2) (empty : AreEmpty t2 p2 s2) where
  -- nothing is on its way to the externaliser: what waits there is what the node has
  all-handed : IsDueOf g v n (part_of s).due
  all-handed =
      let d = up.whole.workers.sends in
      let none : d.queue ≡ [] = append_cancel_left (popped s.sealed) d.queue [] (sym d.ring ∙ sym up.empty.sealed.all ∙ sym (append-nil (popped s.sealed))) in
      subst (λ (q : List Sealed). IsDueOf g v n (with_turns v q (part_of s).due)) none d.due

  fronts : AreFronts t p s1
  fronts = met-fronts told size t t2 p p2 s1 s2 met empty

  -- ---- it sends

  pub send-steps : {N : Type 0} (put_between : N → N → List Put → Type 0) (net net2 : N) (result : Result (Unit {0}) AllocError) (nones nones2 : ℕ) → s1.told ≡ s.told
      → HandedOver result s.backlog.node (popped s.sealed) (popped s1.sealed) nones nones2 (part_of s).due (part_of s1).due → SentDue result (put_between net net2) (all_due s.nodes (part_of s1).due.lines)
      → OnOk result (SendSteps told size g v n (put_between net net2) (Created t2 p2 s2))
  send-steps put_between net net2 (Err fault) nones nones2 told_same handed sent = tt
  send-steps put_between net net2 (Ok x) nones nones2 told_same handed sent =
      let law = sends_keep_whole told size put_between g v n t p s s1 net net2 (Ok x) nones nones2 up.whole first told_same handed sent fronts in
      let d = law.whole.workers.sends in
      let late : List Sealed = fronts.sealed.0 in
      let none : [] ≡ handed.turns ++ late = queue-moved (pushed t.sealed) (popped s.sealed) (popped s1.sealed) [] handed.turns late (sym up.empty.sealed.all ∙ sym (append-nil (popped s.sealed))) handed.popped_are fronts.sealed.1 in
      let no_late : late ≡ [] = back-of-none handed.turns late (sym none) in
      let queue : d.queue ≡ [] = append_cancel_left (popped s1.sealed) d.queue [] (sym d.ring ∙ fronts.sealed.1 ∙ ap (λ (xs : List Sealed). popped s1.sealed ++ xs) no_late) in
      let handed_all : IsDueOf g v n (part_of s1).due = subst (λ (q : List Sealed). IsDueOf g v n (with_turns v q (part_of s1).due)) queue d.due in
      let event = sends_are_events g v n (part_of s1).due handed_all in
      let are : sent.puts ≡ map mail_put (all_due g.nodes (part_of s1).due.lines) = sent.are ∙ ap (λ (k : ℕ). map mail_put (all_due k (part_of s1).due.lines)) up.whole.workers.of_run.receivers in
      let mails : AreMails v (part_of s1).due.lines = subst (λ (k : ℕ). AreMails k (part_of s1).due.lines) (first.node ∙ up.whole.workers.of_run.sender) (lines-mails s1) in
      let spelled : AreSpelled g.nodes sent.puts (mails_out v n event.messages).puts =
      subst (λ (ps : List Put). AreSpelled g.nodes ps (mails_out v n event.messages).puts) (sym are)
      (mails-spelled g.nodes v n (all_due g.nodes (part_of s1).due.lines) event.messages up.known event.put (all-mails v (part_of s1).due.lines (range_with_len 0 g.nodes) mails)) in
      record {
        puts = sent.puts;
        were_put = sent.were_put;
        out = mails_out v n event.messages;
        steps = record {
          after = n;
          call = event.call;
          spelled = spelled;
          up = met-up told size t t2 p p2 s1 s2 met g v n up.limits up.known law.whole up.unspent up.tell same joined empty;
        };
      }

  -- ---- it takes acknowledgements

  pub hear-steps : {N : Type 0} (given_between : N → N → List (List ℕ) → Type 0) (net net2 : N) (nones nones2 : ℕ) → s1.sealed ≡ s.sealed
      → Heard s.backlog.node s.nodes (given_between net net2) nones nones2 (part_of s).due (part_of s1).due → TellsRisen (part_of s) (part_of s1) → HearSteps told size g v n (given_between net net2) nones nones2 (Created t2 p2 s2)
  hear-steps given_between net net2 nones nones2 sealed heard tells = record {
    given = heard.packets;
    was_given = heard.given;
    most = heard.most;
    until = heard.until;
    steps = λ within.
        let law = (acks_keep_whole told size given_between g v n t p s s1 net net2 nones nones2 up.whole first sealed heard tells).all (acks-go g v n (part_of s).due all-handed heard.packets within) in
        record {
          after = law.after;
          call = law.call;
          spelled = tt;
          up = met-up told size t t2 p p2 s1 s2 met g v law.after up.limits up.known law.whole up.unspent up.tell same joined empty;
        };
  }

  -- ---- it emits

  none-emitted : (took : List Out → Type 0) → took [] → (part_of s1).emissions ≡ (part_of s).emissions → LeadsTo told size g v [] IsNone n nothing t p s1 → EmitsNone told size g v n took (Created t p s) (Created t2 p2 s2)
  none-emitted took taken emissions law = record {
    taken = taken;
    steps = record {
      after = law.after;
      call = law.call;
      spelled = tt;
      up = met-up told size t t2 p p2 s1 s2 met g v law.after up.limits up.known law.whole up.unspent up.tell same joined empty;
    };
    emitted = ap (λ (x : Part). x.emissions) met.rest ∙ emissions;
  }

  refused : (part_of s2).refusals ≡ (part_of s1).refusals
  refused = ap (λ (x : Part). x.refusals) met.rest

  is-due : (part_of s).due.outs ≢ [] → IsSome (due n)
  is-due some = some-due (outs_of n.turning.turns) n.sending.emitted (part_of s).due.outs all-handed.outs some

  pub emit-steps : (result : Result Emit NodeFault) (took : List Out → Type 0) → s1.sealed ≡ s.sealed → Emitted s.backlog.node result (part_of s) (part_of s1) → took (emitted_of result (part_of s).due.outs)
      → EmitStepsBy told size result g v n took (Created t p s) (Created t2 p2 s2)
  emit-steps (Ok (Done number)) took sealed is taken =
      let law = emission_keeps_whole told size g v n t p s s1 (Ok (Done number)) up.whole first sealed is in
      let outs : is.0 ∷ is.1.0 ≡ law.out ∷ law.rest = sym is.1.1.0 ∙ law.oldest in
      let one : is.0 ≡ law.out = cc in
      record {
        out = law.out;
        was_due = first-due (outs_of n.turning.turns) n.sending.emitted law.out law.rest (sym law.oldest ∙ all-handed.outs);
        numbered = law.numbered;
        taken = subst (λ (os : List Out). took (take 1 os)) law.oldest taken;
        steps = record {
          after = law.comes.after;
          call = law.comes.call;
          spelled = tt;
          up = met-up told size t t2 p p2 s1 s2 met g v law.comes.after up.limits up.known law.comes.whole up.unspent up.tell same joined empty;
        };
        emitted =
            ap (λ (x : Part). x.emissions) met.rest ∙ ap (λ (x : Part). x.emissions) is.1.1.2
            ∙ ap (λ (k : ℕ). (part_of s).emissions ++ record { node = k; out = is.0 } ∷ []) up.whole.workers.of_run.sender
            ∙ ap (λ (o : Out). (part_of s).emissions ++ record { node = v; out = o } ∷ []) one;
        refusals = refused ∙ ap (λ (x : Part). x.refusals) is.1.1.2;
      }
  emit-steps (Ok Refused) took sealed is taken = (
    none-emitted took taken (ap (λ (x : Part). x.emissions) is.2) (emission_keeps_whole told size g v n t p s s1 (Ok Refused) up.whole first sealed is),
    is-due is.0,
    is.1,
    refused ∙ ap (λ (x : Part). x.refusals) is.2,
  )
  emit-steps (Ok Nothing) took sealed is taken = (
    none-emitted took taken (ap (λ (x : Part). x.emissions) is.1) (emission_keeps_whole told size g v n t p s s1 (Ok Nothing) up.whole first sealed is),
    none-due (outs_of n.turning.turns) n.sending.emitted (sym is.0 ∙ all-handed.outs),
    refused ∙ ap (λ (x : Part). x.refusals) is.1,
  )
  emit-steps (Err Outlet) took sealed is taken = (
    none-emitted took taken (ap (λ (x : Part). x.emissions) is.2) (emission_keeps_whole told size g v n t p s s1 (Err Outlet) up.whole first sealed is),
    is-due is.0,
    is.1,
    refused ∙ ap (λ (x : Part). x.refusals) is.2,
  )
  emit-steps (Err Memory) took sealed is taken = tt
  emit-steps (Err Disk) took sealed is taken = is
  emit-steps (Err (Damaged disk place)) took sealed is taken = is
