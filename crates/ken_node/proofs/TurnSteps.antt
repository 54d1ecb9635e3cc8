-- The handler is called, and the workers meet.
use Rattle.std.proofs.Common.{◌≡◌, ℕ, zero, suc, ◌+◌, ◌^◌, ◌<◌, ◌≤◌, List, [], ◌∷◌, ◌++◌, length, map, cond, ◌==◌, ◌&&◌, nat_lt, nat_le, if◌then◌else◌, slice_get, slice_index, Option, Some, None, Bool, true, false, Result, Ok, Err, ◌⊎◌, inl, inr, ⊎_elim, refl, sym, ap, subst, ◌∙◌, append-nil, arith}
use Rattle.std.specs.List.{AllByRecursion, Contains}
use Rattle.std.proofs.lemmas.Bool.{cases_lt, eq-eqb, leb-true, lt-ltb, ltb-true, false≢true}
use Rattle.std.proofs.lemmas.List.{length-append}
use Rattle.std.proofs.lemmas.List.Elements.{Contains-append_cases}
use Rattle.std.proofs.lemmas.Grind.{flat_map-append}
use Rattle.ken_disk.specs.Fates.{Fate}
use Rattle.ken_disk.specs.Story.{Story}
use Rattle.ken_model.specs.declared.messages.Message.{Message}
use Rattle.ken_model.specs.Game.{Game}
use Rattle.ken_model.specs.Handler.{Handler}
use Rattle.ken_model.specs.Network.{inputs_for, outside}
use Rattle.ken_record.specs.declared.effects.Effects.{Effects}
use Rattle.ken_packet.specs.declared.packet.Packet.{Packet as Spelled}
use Rattle.ken_packet.specs.declared.packet.Packet.TheVariants.{Mail as SpelledMail, Ack}
use Rattle.ken_packet.specs.Reading.{packet_of}
use Rattle.ken_net.specs.Counts.{risen}
use Rattle.ken_net.specs.Puts.{Put}
use Rattle.ken_order.specs.Consumed.{Consumed, consumed_from, place}
use Rattle.ken_core.specs.declared.events.Event.{Event}
use Rattle.ken_core.specs.Calls.{IsIdle, IsTurn, seal, turnover}
use Rattle.ken_core.specs.Nodes.{Node}
use Rattle.ken_core.specs.Packets.{Packet, Mail, Answer, one_after_other}
use Rattle.ken_core.specs.Runs.{NodeRun}
use Rattle.ken_core.proofs.Coming.{input_at_place}
use Rattle.ken_core.specs.Turns.{consumed_from as count_from}
use Rattle.ken_store.specs.declared.turning.TurnSide.{TurnSide}
use Rattle.ken_store.specs.Apart.{disks_apart}
use Rattle.ken_ship.specs.declared.faults.NodeFault.{NodeFault}
use Rattle.ken_ship.specs.declared.faults.NodeFault.TheVariants.{Disk, Damaged, Outlet, Memory}
use Rattle.ken_ship.specs.declared.worker.SendWorker.{SendWorker}
use Rattle.ken_ship.specs.Laws.{packet_from, packets_from}
use Rattle.ken_ship.specs.Parts.{IsSameWorker as IsSameSender}
use Rattle.ken_work.specs.declared.hearing.Heard.TheVariants.{Next, Again, Lost}
use Rattle.ken_work.specs.declared.patcher.PatchWorker.{PatchWorker}
use Rattle.ken_node.specs.declared.stage.Stage.TheVariants.{Created}
use Rattle.ken_work.specs.declared.took.Took.{Took}
use Rattle.ken_work.specs.declared.took.Took.TheVariants.{Turn, Idle, Capped}
use Rattle.ken_work.specs.declared.worker.TurnWorker.{TurnWorker}
use Rattle.ken_work.specs.Calls.{IsTurnInDoubt, IsTurnoverInDoubt, TakesTurn, Drew}
use Rattle.ken_work.specs.Capped.{IsCapped}
use Rattle.ken_work.specs.Capped as caps
use Rattle.ken_node.specs.Down.{AreTold}
use Rattle.ken_node.specs.DownLaws.{SealIsDown, TurnoverIsDown}
use Rattle.ken_work.specs.Hearing.{ArePassed, EndsWith, IsPassed, ack_put, again_puts, chosen, heard, heard_mail}
use Rattle.ken_work.specs.Meeting.{AreEmpty, AreFronts, AreJoined, HaveMet}
use Rattle.ken_node.specs.NodeCalls.{DisksFailBy}
use Rattle.ken_node.specs.NodeTurns.{CappedSteps, HandlerSteps, IdleSteps, IsAnsweredIn, IsMailOf, IsNotNext, NoneIsLeft, SealFails, TurnSteps, TurnStepsBy, TurnoverFails}
use Rattle.ken_work.specs.Sealing.{coming_pages, is_full}
use Rattle.ken_whole.specs.TurnLaws.{HandlerLeadsTo, acks_out, told_of}
use Rattle.ken_whole.specs.Whole.{IsWhole}
use Rattle.ken_work.specs.Workers.{HearsNews, IsSameWorker}
use Rattle.ken_node.proofs.Again.{again-answered, again-few, more-left, none-in, one-in}
use Rattle.ken_node.proofs.MeetingDown.{meeting_stays_down}
use Rattle.ken_whole.proofs.NextMails.{next-mail}
use Rattle.ken_node.proofs.Over.{capped_over}
use Rattle.ken_whole.proofs.Quietly.{idle_keeps_sending, idle_keeps_turns}
use Rattle.ken_whole.proofs.Rings.{ring-popped, ring-pushed}
use Rattle.ken_node.proofs.TurnDisks.{disk-failed, turn-disks, turn-told}
use Rattle.ken_node.proofs.TurnDown.{turn_goes_down}
use Rattle.ken_node.proofs.TurnSpelled.{handler-spelled}
use Rattle.ken_whole.proofs.TurnsWhole.{heard-whole, idle_listens, turn_keeps_whole, turn_listens}
use Rattle.ken_node.proofs.Up.{AreUp, met-disks, met-fronts, met-up}

-- the workers are joined still, so they may meet
pub joined-handler : {D : Type 0} (t t2 : TurnWorker D) (p : PatchWorker D) (s : SendWorker) → AreJoined t p s → IsSameWorker t t2 → AreJoined t2 p s
joined-handler t t2 p s joined same = record {
  pages = ring-pushed t.pages t2.pages p.pages joined.pages same.pages;
  sealed = ring-pushed t.sealed t2.sealed s.sealed joined.sealed same.sealed;
  settled = ring-popped p.settled t.settled t2.settled joined.settled same.settled;
  progress = ring-popped s.told t.progress t2.progress joined.progress same.progress;
}

-- ---- no packet that was passed is a next mail

heard-next : (v : ℕ) (c : Consumed) (m : Message) → m.to ≡ v → nat_lt m.from c.nodes ≡ true → m.number ≡ consumed_from c m.from + 1 → nat_lt m.stamp (2 ^ 63) ≡ true → heard v c (Some (SpelledMail m)) ≡ Next m
heard-next v c m to low number stamp =
    let more : consumed_from c m.from < m.number = omega (arith, number) in
    ap (λ (b : Bool). if b && nat_lt m.from c.nodes then heard_mail c m else Lost) (eq-eqb m.to v to)
    ∙ ap (λ (b : Bool). if b then heard_mail c m else Lost) low
    ∙ ap (λ (b : Bool). if b then Again m.from else if (m.number == consumed_from c m.from + 1) && nat_lt m.stamp (2 ^ 63) then Next m else Lost) (not-old (nat_le m.number (consumed_from c m.from)) refl more)
    ∙ ap (λ (b : Bool). if b && nat_lt m.stamp (2 ^ 63) then Next m else Lost) (eq-eqb m.number (consumed_from c m.from + 1) number)
    ∙ ap (λ (b : Bool). if b then Next m else Lost) stamp
  where
    not-old : (b : Bool) → nat_le m.number (consumed_from c m.from) ≡ b → consumed_from c m.from < m.number → b ≡ false
    not-old false e more = refl
    not-old true e more = let most = leb-true m.number (consumed_from c m.from) e in absurd (omega (arith, most, more))

module _ (nodes v : ℕ) (n : Node) (c : Consumed) (same : c.nodes ≡ nodes) (counts : (u : ℕ) → u < nodes → consumed_from c u ≡ count_from u n.turning.turns) where
  one-passed : (rest : List Packet) (o : Option Spelled) → IsPassed (heard v c o) → AllByRecursion (IsNotNext v n) rest → AllByRecursion (IsNotNext v n) (packet_from nodes o ++ rest)
  one-passed rest None passed later = later
  one-passed rest (Some (Ack from to through)) passed later = kept (nat_lt from nodes)
    where
      kept : (b : Bool) → AllByRecursion (IsNotNext v n) (cond b (Answer (record { from = from; to = to; through = through }) ∷ []) [] ++ rest)
      kept true = (tt, later)
      kept false = later
  one-passed rest (Some (SpelledMail m)) passed later = kept (nat_lt m.from nodes) refl
    where
      high : m.to ≡ v → m.number ≡ count_from m.from n.turning.turns + 1 → nat_lt m.from nodes ≡ true → (b : Bool) → nat_lt m.stamp (2 ^ 63) ≡ b → 2 ^ 63 ≤ m.stamp
      high to number low true e =
          let here : m.number ≡ consumed_from c m.from + 1 = number ∙ ap (λ (k : ℕ). k + 1) (sym (counts m.from (ltb-true m.from nodes low))) in
          absurd (subst IsPassed (heard-next v c m to (ap (nat_lt m.from) same ∙ low) here e) passed)
      high to number low false e = ⊎_elim (λ (less : m.stamp < 2 ^ 63). absurd (false≢true (sym e ∙ lt-ltb m.stamp (2 ^ 63) less))) (λ (more : 2 ^ 63 ≤ m.stamp). more) (cases_lt m.stamp (2 ^ 63))

      kept : (b : Bool) → nat_lt m.from nodes ≡ b → AllByRecursion (IsNotNext v n) (cond b (Mail m ∷ []) [] ++ rest)
      kept true low = (λ to number. high to number low (nat_lt m.stamp (2 ^ 63)) refl, later)
      kept false low = later

  all-passed : (packets : List (List ℕ)) → ArePassed v c packets → AllByRecursion (IsNotNext v n) (packets_from nodes packets)
  all-passed [] passed = tt
  all-passed (bytes ∷ packets) passed = one-passed (packets_from nodes packets) (packet_of bytes) passed.0 (all-passed packets passed.1)

-- there is nothing past the end of a list
past-end : {A : Type 0} (xs : List A) (k : ℕ) → slice_get xs k ≡ None → length xs ≤ k
past-end [] k none = omega arith
past-end (x ∷ xs) zero none = absurd cc
past-end (x ∷ xs) (suc k) none = let rest = past-end xs k none in omega (arith, rest)

-- what a handler that stands for a node has consumed is what the node counts
order-counts : {D : Type 0} (told : D → Option Story) (size : D → ℕ) (g : Game) (v : ℕ) (n : Node) (t : TurnWorker D) (p : PatchWorker D) (s : SendWorker) → IsWhole told size g v n t p s → (u : ℕ) → u < g.nodes → consumed_from t.order u ≡ count_from u n.turning.turns
order-counts told size g v n t p s whole u low =
    let few = t.few in
    let nodes = whole.workers.of_run.nodes in
    ap (λ (c : Consumed). slice_index c.consumed (place u)) whole.workers.working.order ∙ whole.workers.turns.counted.consumed u (inl (omega (arith, low, few, nodes)))

module _ {D O N : Type 0} (told : D → Option Story) (size count : D → ℕ) (fate : D → Option Fate) (clocks words : O → Option (List ℕ)) (given_between : N → N → List (List ℕ) → Type 0) (put_between : N → N → List Put → Type 0)
    (g : Game) (v : ℕ) (n : Node) (t mid t1 t2 : TurnWorker D) (p p2 : PatchWorker D) (s s2 : SendWorker) (up : AreUp told size g v n t p s) (met : HaveMet told size t1 t2 p p2 s s2) (joined : AreJoined t2 p2 s2) (same : IsSameSender s s2) (empty : AreEmpty t2 p2 s2)
    (still : IsSameWorker t t1) (news : HearsNews t mid) (oracle oracle2 : O) (net net2 : N) (nones nones2 : ℕ) where
  abbrev drew : List ℕ → Type 0
  drew = Drew clocks words g.handler oracle oracle2

  abbrev gave : List (List ℕ) → Type 0
  gave = given_between net net2

  abbrev put : List Put → Type 0
  put = put_between net net2

  abbrev Takes : Result Took NodeFault → Type 0
  Takes result = TakesTurn told size count fate g.handler drew result mid t1 gave put nones nones2

  heard-side : mid.side ≡ t.side
  heard-side = ap (λ (w : TurnWorker D). w.side) news.rest

  heard-tell : AreTold told (disks_apart mid.side p.side)
  heard-tell = subst (λ (x : TurnSide D). AreTold told (disks_apart x p.side)) (sym heard-side) up.tell

  fronts : AreFronts t1 p s
  fronts = met-fronts told size t1 t2 p p2 s s2 met empty

  few-nodes : g.nodes ≤ 8
  few-nodes = let few = t.few in let nodes = up.whole.workers.of_run.nodes in omega (arith, few, nodes)

  -- the node may make a turn more
  few-turns : (IsCapped mid → ⊥) → length t.turns.items < 100000
  few-turns yet =
      let count_is = up.whole.workers.working.count in
      let most = mid.most in
      let turns : mid.side.numbers.turns ≡ t.side.numbers.turns = ap (λ (x : TurnSide D). x.numbers.turns) heard-side in
      ⊎_elim (λ (low : mid.side.numbers.turns < mid.cap). omega (arith, low, most, turns, count_is)) (λ (high : mid.cap ≤ mid.side.numbers.turns). absurd (yet (caps.turns high))) (cases_lt mid.side.numbers.turns mid.cap)

  unmade : (IsCapped mid → ⊥) → length n.turning.turns < g.turns
  unmade yet =
      let count_is = up.whole.workers.turns.counted.turns in
      let cap : mid.cap ≡ g.turns = ap (λ (w : TurnWorker D). w.cap) news.rest ∙ up.whole.workers.of_run.cap in
      let turns : mid.side.numbers.turns ≡ t.side.numbers.turns = ap (λ (x : TurnSide D). x.numbers.turns) heard-side in
      ⊎_elim (λ (low : mid.side.numbers.turns < mid.cap). omega (arith, low, cap, turns, count_is)) (λ (high : mid.cap ≤ mid.side.numbers.turns). absurd (yet (caps.turns high))) (cases_lt mid.side.numbers.turns mid.cap)

  heard-turns : mid.turns.items ≡ t.turns.items
  heard-turns = ap (λ (w : TurnWorker D). w.turns.items) news.rest

  -- ---- a call that no disk failed

  handler-steps : (says : List Event → Type 0) → (lead : HandlerLeadsTo told size g v n says gave put t t1 p s) → length t.turns.items < 2 ^ 64 → length t1.turns.items < 2 ^ 64 → AreTold told (disks_apart t1.side p.side)
      → HandlerSteps told size g v n gave put says (Created t2 p2 s2)
  handler-steps says lead short short2 tell = record {
    given = lead.given;
    was_given = lead.was_given;
    puts = map (ack_put v t.order) lead.before ++ map (ack_put v t1.order) lead.last;
    were_put = lead.was_put;
    out = one_after_other (acks_out v n lead.before) (acks_out v lead.after lead.last);
    steps = record {
      after = lead.after;
      call = lead.call;
      spelled =
          handler-spelled g (Contains (packets_from g.nodes lead.given)) v n lead.after lead.call.events lead.before lead.last t.order t1.order few-nodes up.known (order-counts told size g v n t p s up.whole) (order-counts told size g v lead.after t1 p s lead.whole)
          (subst (λ (es : List Effects). length es < 2 ^ 64) up.whole.workers.turns.kept short) (subst (λ (es : List Effects). length es < 2 ^ 64) lead.whole.workers.turns.kept short2) lead.call.run;
      up = met-up told size t1 t2 p p2 s s2 met g v lead.after up.limits up.known lead.whole up.unspent tell same joined empty;
    };
  }

  tell-after : (took : Took) → Takes (Ok took) → AreTold told (disks_apart t1.side p.side)
  tell-after took takes = turn-told told size count fate g.handler drew gave put nones nones2 p.side.image.disk took mid t1 takes heard-tell

  -- what was consumed once the handler has heard what it was told
  heard-order : mid.order ≡ t.order
  heard-order = ap (λ (w : TurnWorker D). w.order) news.rest

  heard-counts : (u : ℕ) → u < g.nodes → consumed_from mid.order u ≡ count_from u n.turning.turns
  heard-counts u low = ap (λ (c : Consumed). consumed_from c u) heard-order ∙ order-counts told size g v n t p s up.whole u low

  heard-nodes : mid.order.nodes ≡ g.nodes
  heard-nodes = ap (λ (c : Consumed). c.nodes) (heard-order ∙ up.whole.workers.working.order) ∙ up.whole.workers.of_run.nodes

  heard-inputs : mid.inputs.items ≡ inputs_for g v
  heard-inputs = ap (λ (w : TurnWorker D). w.inputs.items) news.rest ∙ up.whole.workers.of_run.inputs

  -- the mail that was found is the turn's, or it is an input
  mail-first : (turn : Effects) (m : Message) → turn.from ≡ m.from → turn.number ≡ m.number → (passed last : List (List ℕ)) (found : Option Message) → EndsWith v mid.order (length passed) nones nones2 found last → chosen mid.inputs.items mid.order found ≡ Some m
      → IsMailOf g.nodes v n turn last ⊎ ((turn.from ≡ outside) × (last ≡ []) × NoneIsLeft nones nones2 passed)
  mail-first turn m from number passed last (Some x) ends is =
      let same : x ≡ m = cc in
      let mail = next-mail v mid.order (packet_of ends.0) x ends.1.1 in
      let low : x.from < g.nodes = let here = mail.from in let nodes = heard-nodes in omega (arith, here, nodes) in
      inl (record {
        bytes = ends.0;
        alone = ends.1.0;
        mail = x;
        is = ap (packet_from g.nodes) mail.mail ∙ ap (λ (b : Bool). if b then Mail x ∷ [] else []) (lt-ltb x.from g.nodes low);
        to = mail.to;
        next = mail.number ∙ ap (λ (k : ℕ). k + 1) (heard-counts x.from low);
        from = ap (λ (y : Message). y.from) same ∙ sym from;
        number = ap (λ (y : Message). y.number) same ∙ sym number;
      })
  mail-first turn m from number passed last None ends is =
      let at : slice_get (inputs_for g v) (consumed_from mid.order outside) ≡ Some m = ap (λ (ms : List Message). slice_get ms (consumed_from mid.order outside)) (sym heard-inputs) ∙ is in
      inr (from ∙ (input_at_place v 0 g.inputs (consumed_from mid.order outside) m at).0, ends.0, ends.1)

  -- no mail that was consumed before is a next mail
  not-again : (turn : Effects) (last : List (List ℕ)) (m : Message) → IsMailOf g.nodes v n turn last → Contains (packets_from g.nodes last) (Mail m) → m.number ≤ count_from m.from n.turning.turns → ⊥
  not-again turn last m mail has old =
      let only : packets_from g.nodes last ≡ Mail mail.mail ∷ [] = ap (packets_from g.nodes) mail.alone ∙ append-nil (packet_from g.nodes (packet_of mail.bytes)) ∙ mail.is in
      let same : mail.mail ≡ m = mail-same mail.mail m (one-in (Mail mail.mail) (Mail m) (subst (λ (ps : List Packet). Contains ps (Mail m)) only has)) in
      let next : m.number ≡ count_from m.from n.turning.turns + 1 = subst (λ (y : Message). y.number ≡ count_from y.from n.turning.turns + 1) same mail.next in
      omega (arith, next, old)
    where
      mail-same : (x y : Message) → Mail x ≡ Mail y → x ≡ y
      mail-same x y e = cc

  was-passed : (turn : Effects) (passed last : List (List ℕ)) (m : Message) → IsMailOf g.nodes v n turn last ⊎ ((turn.from ≡ outside) × (last ≡ []) × NoneIsLeft nones nones2 passed)
      → Contains (packets_from g.nodes passed ++ packets_from g.nodes last) (Mail m) → m.number ≤ count_from m.from n.turning.turns → Contains (packets_from g.nodes passed) (Mail m)
  was-passed turn passed last m which has old =
      ⊎_elim
      (λ (mine : Contains (packets_from g.nodes passed) (Mail m)). mine)
      (λ (later : Contains (packets_from g.nodes last) (Mail m)).
      ⊎_elim
      (λ (mail : IsMailOf g.nodes v n turn last). absurd (not-again turn last m mail later old))
      (λ (input : (turn.from ≡ outside) × (last ≡ []) × NoneIsLeft nones nones2 passed). absurd (none-in (Mail m) (subst (λ (bs : List (List ℕ)). Contains (packets_from g.nodes bs) (Mail m)) input.1 later)))
      which)
      (Contains-append_cases (packets_from g.nodes passed) (packets_from g.nodes last) (Mail m) has)

  turn-steps : Takes (Ok Turn) → TurnSteps told size g v n gave put drew nones nones2 t (Created t2 p2 s2)
  unfolding handler-steps
  turn-steps takes =
      let listens = turn_listens told size count fate clocks words given_between put_between g v n t mid t1 p s oracle oracle2 net net2 nones nones2 up.whole still news takes fronts in
      let listened = listens.listened in
      let m : Message = takes.message in
      let from : takes.ran.effects.from ≡ m.from = ap (λ (x : Effects). x.from) takes.ran.made.effects in
      let number : takes.ran.effects.number ≡ m.number = ap (λ (x : Effects). x.number) takes.ran.made.effects in
      let which = mail-first takes.ran.effects m from number listened.passed listened.last takes.came.took.found listened.ends takes.came.took.chosen_is in
      let lead = turn_keeps_whole told size count fate clocks words given_between put_between g v n t mid t1 p s oracle oracle2 net net2 (Ok Turn) nones nones2 up.whole still news takes fronts in
      let e : Effects = takes.ran.effects in
      let turns : t1.turns.items ≡ t.turns.items ++ e ∷ [] = takes.ran.kept.turns ∙ ap (λ (es : List Effects). es ++ e ∷ []) (ap (λ (w : TurnWorker D). w.turns.items) takes.came.rest ∙ heard-turns) in
      let few = few-turns takes.came.open_yet in
      let more : length t1.turns.items ≡ length t.turns.items + 1 = ap length turns ∙ length-append t.turns.items (e ∷ []) in
      record {
        call = handler-steps (IsTurn v (is_full t.side)) lead (omega (arith, few)) (omega (arith, few, more)) (tell-after Turn takes);
        turn = e;
        last = sym lead.whole.workers.turns.kept ∙ turns ∙ ap (λ (es : List Effects). es ++ e ∷ []) up.whole.workers.turns.kept;
        drawn = takes.ran.drawn;
        first = record {
          passed = listened.passed;
          last = listened.last;
          parts = listens.given_is;
          most = let most = listened.most in subst (λ (bs : List (List ℕ)). length bs ≤ 4096) (sym listens.given_is) most;
          none_next = all-passed g.nodes v n mid.order heard-nodes heard-counts listened.passed listened.each;
          which = which;
        };
        again = λ x has to old.
            let was : Contains (packets_from g.nodes listened.passed ++ packets_from g.nodes listened.last) (Mail x) =
            subst (λ (ps : List Packet). Contains ps (Mail x)) (ap (packets_from g.nodes) listens.given_is ∙ flat_map-append (λ (bytes : List ℕ). packet_from g.nodes (packet_of bytes)) listened.passed listened.last) has in
            let puts : again_puts v mid.order listened.passed ≡ map (ack_put v t.order) lead.before = listens.before_are ∙ ap (λ (c : Consumed). map (ack_put v c) lead.before) heard-order in
            more-left g v n (map (ack_put v t.order) lead.before) (map (ack_put v t1.order) lead.last) x.from
            (subst (λ (ps : List Put). IsAnsweredIn g v n ps x.from) puts
            (again-answered g v n mid.order few-nodes up.known heard-nodes heard-counts (subst (λ (es : List Effects). length es < 2 ^ 64) up.whole.workers.turns.kept (omega (arith, few))) listened.passed x (was-passed takes.ran.effects listened.passed listened.last x which was old) to old));
      }

  idle-steps : Takes (Ok Idle) → IdleSteps told size g v n gave put nones nones2 t (Created t2 p2 s2)
  unfolding handler-steps
  idle-steps takes =
      let lead = turn_keeps_whole told size count fate clocks words given_between put_between g v n t mid t1 p s oracle oracle2 net net2 (Ok Idle) nones nones2 up.whole still news takes fronts in
      let listens = idle_listens told size count fate clocks words given_between put_between g v n t mid t1 p s oracle oracle2 net net2 nones nones2 up.whole still news takes fronts in
      let listened = listens.listened in
      let given : lead.given ≡ listened.passed = listens.given_is ∙ ap (λ (bs : List (List ℕ)). listened.passed ++ bs) listened.ends.0 ∙ append-nil listened.passed in
      let turns : t1.turns.items ≡ t.turns.items = ap (λ (w : TurnWorker D). w.turns.items) takes.came.rest ∙ heard-turns in
      let few = few-turns takes.came.open_yet in
      let same_count : length t1.turns.items ≡ length t.turns.items = ap length turns in
      let order : t1.order ≡ mid.order = ap (λ (w : TurnWorker D). w.order) takes.came.rest in
      let counts : (u : ℕ) → u < g.nodes → consumed_from mid.order u ≡ count_from u lead.after.turning.turns = λ u low. ap (λ (c : Consumed). consumed_from c u) (sym order) ∙ order-counts told size g v lead.after t1 p s lead.whole u low in
      let nodes : mid.order.nodes ≡ g.nodes = ap (λ (c : Consumed). c.nodes) (sym order ∙ lead.whole.workers.working.order) ∙ lead.whole.workers.of_run.nodes in
      let outside_count : consumed_from mid.order outside ≡ count_from outside lead.after.turning.turns =
      ap (λ (c : Consumed). slice_index c.consumed (place outside)) (sym order ∙ lead.whole.workers.working.order) ∙ lead.whole.workers.turns.counted.consumed outside (inr refl) in
      let inputs : mid.inputs.items ≡ inputs_for g v = ap (λ (w : TurnWorker D). w.inputs.items) news.rest ∙ up.whole.workers.of_run.inputs in
      let past = past-end mid.inputs.items (consumed_from mid.order outside) listens.no_input in
      let heard_order : mid.order ≡ t.order = ap (λ (w : TurnWorker D). w.order) news.rest in
      let before_counts : (u : ℕ) → u < g.nodes → consumed_from mid.order u ≡ count_from u n.turning.turns = λ u low. ap (λ (c : Consumed). consumed_from c u) heard_order ∙ order-counts told size g v n t p s up.whole u low in
      let puts : again_puts v mid.order listened.passed ≡ map (ack_put v t.order) lead.before ++ map (ack_put v t1.order) lead.last =
      listens.before_are ∙ ap (λ (c : Consumed). map (ack_put v c) lead.before) heard_order ∙ sym (append-nil (map (ack_put v t.order) lead.before)) ∙ ap (λ (senders : List ℕ). map (ack_put v t.order) lead.before ++ map (ack_put v t1.order) senders) (sym listens.last_are) in
      record {
        call = handler-steps (IsIdle v (is_full t.side)) lead (omega (arith, few)) (omega (arith, few, same_count)) (tell-after Idle takes);
        unmade = unmade takes.came.open_yet;
        most = let most = listened.most in subst (λ (bs : List (List ℕ)). length bs ≤ 4096) (sym listens.given_is) most;
        until = subst (λ (bs : List (List ℕ)). (length bs ≡ 4096) ⊎ (risen nones ≤ nones2)) (sym given) listened.ends.1;
        none_next = subst (λ (bs : List (List ℕ)). AllByRecursion (IsNotNext v lead.after) (packets_from g.nodes bs)) (sym given) (all-passed g.nodes v lead.after mid.order nodes counts listened.passed listened.each);
        no_input = let all : length mid.inputs.items ≡ length (inputs_for g v) = ap length inputs in omega (arith, past, all, outside_count);
        few = subst (λ (ps : List Put). length ps ≤ length lead.given) puts (subst (λ (bs : List (List ℕ)). length (again_puts v mid.order listened.passed) ≤ length bs) (sym given) (again-few v mid.order listened.passed));
        again = λ m has to old. subst (λ (ps : List Put). IsAnsweredIn g v n ps m.from) puts
            (again-answered g v n mid.order few-nodes up.known nodes before_counts (subst (λ (es : List Effects). length es < 2 ^ 64) up.whole.workers.turns.kept (omega (arith, few))) listened.passed m (subst (λ (bs : List (List ℕ)). Contains (packets_from g.nodes bs) (Mail m)) given has) to old);
        same_turns = idle_keeps_turns g v (packets_from g.nodes lead.given) n lead.after (one_after_other (acks_out v n lead.before) (acks_out v lead.after lead.last)) (is_full t.side) lead.call;
        same_sending = idle_keeps_sending g v (packets_from g.nodes lead.given) n lead.after (one_after_other (acks_out v n lead.before) (acks_out v lead.after lead.last)) (is_full t.side) lead.call;
      }

  capped-steps : Takes (Ok Capped) → CappedSteps told size g v n gave put t (Created t2 p2 s2)
  capped-steps takes =
      let lead = turn_keeps_whole told size count fate clocks words given_between put_between g v n t mid t1 p s oracle oracle2 net net2 (Ok Capped) nones nones2 up.whole still news takes fronts in
      let none : lead.call.events ≡ [] = lead.call.which in
      let run : NodeRun g (Contains (packets_from g.nodes lead.given)) v n [] (one_after_other (acks_out v n lead.before) (acks_out v lead.after lead.last)) lead.after =
      subst (λ (es : List Event). NodeRun g (Contains (packets_from g.nodes lead.given)) v n es (one_after_other (acks_out v n lead.before) (acks_out v lead.after lead.last)) lead.after) none lead.call.run in
      record {
        none_given = takes.given;
        none_put = takes.none;
        steps = record {
          after = lead.after;
          call = record { events = []; run = (refl, run.1); which = refl };
          spelled = tt;
          up = met-up told size t1 t2 p p2 s s2 met g v lead.after up.limits up.known lead.whole up.unspent (tell-after Capped takes) same joined empty;
        };
        same = run.1;
        heard = mid;
        hears = news;
        capped = takes.capped;
        over = capped_over told size g v n mid p s (heard-whole told size count fate clocks words given_between put_between g v n t mid t1 p s oracle oracle2 net net2 (Ok Capped) nones nones2 up.whole news takes fronts) heard-tell takes.capped;
      }

  -- ---- one in which a disk failed

  turnover-fails : TurnoverIsDown told size g v n gave put mid t1 p s → TurnoverFails told size g v n gave put (Created t2 p2 s2)
  turnover-fails is = record {
    none_given = is.doubts.was_given;
    none_put = is.doubts.was_put;
    with_news = told_of g mid;
    down = record {
      after = n;
      call = record { events = []; run = (refl, refl); which = refl };
      spelled = tt;
      down = meeting_stays_down told size g v [] n (turnover (told_of g mid)) t1 t2 p p2 s s2 (is.down []) same joined met;
    };
  }

  -- no turn was kept
  doubt-turns : Takes (Err Disk) → (t1.turns.items ≡ t.turns.items) × (length t.turns.items < 100000)
  doubt-turns takes =
      ⊎_elim
      (λ (turnover : IsTurnoverInDoubt told size count fate g.handler drew mid t1 gave put). (ap (λ (w : TurnWorker D). w.turns.items) turnover.rest ∙ heard-turns, few-turns turnover.open_yet))
      (λ (turn : IsTurnInDoubt told size count fate g.handler drew mid t1 gave put nones nones2).
      (turn.doubt.quiet.turns ∙ ap (λ (w : TurnWorker D). w.turns.items) turn.came.rest ∙ heard-turns, few-turns turn.came.open_yet))
      takes

  seal-fails : Takes (Err Disk) → SealIsDown told size count fate drew g v n gave put t t1 p s → SealFails told size g v n gave put drew t (Created t2 p2 s2)
  seal-fails takes is =
      let lead = is.doubts.before in
      let last : TurnWorker D = is.doubts.mid in
      let kept = doubt-turns takes in
      let few = kept.1 in
      let turns : last.turns.items ≡ t.turns.items = sym is.doubts.doubt.quiet.turns ∙ kept.0 in
      let same_count : length last.turns.items ≡ length t.turns.items = ap length turns in
      record {
        given = lead.given;
        was_given = lead.was_given;
        puts = map (ack_put v t.order) lead.before ++ map (ack_put v last.order) lead.last;
        were_put = lead.was_put;
        out = one_after_other (acks_out v n lead.before) (acks_out v lead.after lead.last);
        from = is.doubts.message.from;
        draws = is.doubts.doubt.effects.draws;
        pages = coming_pages is.doubts.doubt.begun;
        drawn = is.doubts.doubt.drawn;
        down = record {
          after = lead.after;
          call = lead.call;
          spelled =
              handler-spelled g (Contains (packets_from g.nodes lead.given)) v n lead.after lead.call.events lead.before lead.last t.order last.order few-nodes up.known (order-counts told size g v n t p s up.whole) (order-counts told size g v lead.after last p s lead.whole)
              (subst (λ (es : List Effects). length es < 2 ^ 64) up.whole.workers.turns.kept (omega (arith, few))) (subst (λ (es : List Effects). length es < 2 ^ 64) lead.whole.workers.turns.kept (omega (arith, few, same_count))) lead.call.run;
          down = meeting_stays_down told size g v (packets_from g.nodes lead.given) lead.after (seal is.doubts.message.from is.doubts.doubt.effects.draws (coming_pages is.doubts.doubt.begun)) t1 t2 p p2 s s2 is.down same joined met;
        };
      }

  disk-steps : Takes (Err Disk) → TurnoverFails told size g v n gave put (Created t2 p2 s2) ⊎ SealFails told size g v n gave put drew t (Created t2 p2 s2)
  disk-steps takes =
      let tell = (disk-failed told size count fate g.handler drew gave put nones nones2 p.side.image.disk mid t1 takes).0 heard-tell in
      ⊎_elim
      (λ (turnover : TurnoverIsDown told size g v n gave put mid t1 p s). inl (turnover-fails turnover))
      (λ (turn : SealIsDown told size count fate drew g v n gave put t t1 p s). inr (seal-fails takes turn))
      (turn_goes_down told size count fate clocks words given_between put_between g v n t mid t1 p s oracle oracle2 net net2 nones nones2 up.limits up.known up.whole still news takes fronts tell)

  -- ---- by the answer

  pub handled : (result : Result Took NodeFault) → Takes result → TurnStepsBy told size g v n gave put result drew nones nones2 t (Created t2 p2 s2)
  handled (Ok Turn) takes = turn-steps takes
  handled (Ok Idle) takes = idle-steps takes
  handled (Ok Capped) takes = capped-steps takes
  handled (Err Disk) takes = disk-steps takes
  handled (Err Memory) takes = tt
  handled (Err Outlet) takes = takes
  handled (Err (Damaged disk place)) takes = takes

  pub handled-disks : (result : Result Took NodeFault) → Takes result → DisksFailBy told count fate result (disks_apart t.side p.side) (disks_apart t2.side p2.side)
  handled-disks result takes =
      subst (DisksFailBy told count fate result (disks_apart t.side p.side)) (sym (met-disks told size t1 t2 p p2 s s2 met))
      (subst (λ (x : TurnSide D). DisksFailBy told count fate result (disks_apart x p.side) (disks_apart t1.side p.side)) heard-side (turn-disks told size count fate g.handler drew gave put nones nones2 p.side.image.disk result mid t1 takes))

  -- the same, where the handler that was called is the run's, and the worker is the one that the node had
  pub handled-by : (h : Handler) → h ≡ g.handler → (worker : TurnWorker D) → t ≡ worker → (result : Result Took NodeFault) → TakesTurn told size count fate h (Drew clocks words h oracle oracle2) result mid t1 gave put nones nones2
      → TurnStepsBy told size g v n gave put result (Drew clocks words h oracle oracle2) nones nones2 worker (Created t2 p2 s2)
  handled-by h of_run worker is result takes =
      subst (λ (k : Handler). TakesTurn told size count fate k (Drew clocks words k oracle oracle2) result mid t1 gave put nones nones2 → TurnStepsBy told size g v n gave put result (Drew clocks words k oracle oracle2) nones nones2 worker (Created t2 p2 s2)) (sym of_run)
      (λ (now : Takes result). subst (λ (w : TurnWorker D). TurnStepsBy told size g v n gave put result drew nones nones2 w (Created t2 p2 s2)) is (handled result now)) takes

  pub handled-disks-by : (h : Handler) → h ≡ g.handler → (result : Result Took NodeFault) → TakesTurn told size count fate h (Drew clocks words h oracle oracle2) result mid t1 gave put nones nones2
      → DisksFailBy told count fate result (disks_apart t.side p.side) (disks_apart t2.side p2.side)
  handled-disks-by h of_run result takes =
      handled-disks result (subst (λ (k : Handler). TakesTurn told size count fate k (Drew clocks words k oracle oracle2) result mid t1 gave put nones nones2) of_run takes)
