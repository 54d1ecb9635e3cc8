-- A call of the handler of a whole node, by its answer.
use Rattle.std.proofs.Common.{◌≡◌, ℕ, ◌+◌, ◌-◌, ◌<◌, ◌≤◌, inl, inr, Bool, true, false, ◌==◌, if◌then◌else◌, List, [], ◌∷◌, ◌++◌, map, length, slice_get, slice_index, Contains, Option, Some, None, Result, Ok, Err, refl, sym, ap, subst, ◌∙◌, ⊎_elim, arith, append_assoc, append-nil, eq-eqb}
use Rattle.std.specs.List.{AllByRecursion}
use Rattle.std.proofs.lemmas.Bool.{cases_lt, false≢true}
use Rattle.ken_disk.specs.Fates.{Fate}
use Rattle.ken_disk.specs.Story.{Story}
use Rattle.ken_model.specs.declared.messages.Message.{Message}
use Rattle.ken_model.specs.Game.{Game}
use Rattle.ken_model.specs.Handler.{Handler}
use Rattle.ken_model.specs.Network.{inputs_for, outside}
use Rattle.ken_record.specs.declared.effects.Effects.{Effects}
use Rattle.ken_record.specs.declared.page.Page.{Page}
use Rattle.ken_net.specs.Puts.{Put}
use Rattle.ken_core.specs.declared.events.Event.{Event}
use Rattle.ken_core.specs.declared.events.Event.TheVariants.{Ack, Seal, Turnover}
use Rattle.ken_core.specs.declared.events.Outcome.TheVariants.{Whole}
use Rattle.ken_core.specs.Calls.{IsIdle, IsNone, IsRenewed, IsSome, IsSomeOfTurn, IsTurn, answer_to, ended, left_out}
use Rattle.ken_core.specs.Nodes.{Node}
use Rattle.ken_core.specs.Packets.{Packet, Answer, Mail, Outgoing, nothing, one_after_other}
use Rattle.ken_core.specs.Runs.{NodeRun}
use Rattle.ken_core.specs.Steps.{NodeStep, sealed_node}
use Rattle.ken_core.specs.Turns.{effects_of, mails_to}
use Rattle.ken_core.specs.Turns.{consumed_from as count_from}
use Rattle.ken_core.proofs.Coming.{input_at_place}
use Rattle.ken_links.specs.Rings.{pushed, popped}
use Rattle.ken_order.specs.Consumed.{Consumed, IsSender, consumed_from, place}
use Rattle.ken_packet.specs.Reading.{packet_of}
use Rattle.ken_store.specs.Apart.{Apart}
use Rattle.ken_store.specs.declared.faults.StoreFault.TheVariants as store
use Rattle.ken_store.specs.declared.turning.TurnSide.{TurnSide}
use Rattle.ken_store.specs.Turning.{sealed_bytes, turn_pages}
use Rattle.ken_store.specs.Turnovers.{IsUnturned}
use Rattle.ken_store.proofs.Sealing.{pages_are}
use Rattle.ken_ship.specs.declared.faults.NodeFault.{NodeFault}
use Rattle.ken_ship.specs.declared.faults.NodeFault.TheVariants.{Disk, Damaged, Outlet, Memory}
use Rattle.ken_ship.specs.declared.worker.SendWorker.{SendWorker}
use Rattle.ken_ship.specs.Laws.{packets_from}
use Rattle.ken_ship.specs.Parts.{IsSameWorker as IsSameSender}
use Rattle.ken_work.specs.declared.patcher.PatchWorker.{PatchWorker}
use Rattle.ken_work.specs.declared.took.Took.{Took}
use Rattle.ken_work.specs.declared.took.Took.TheVariants.{Turn, Idle, Capped}
use Rattle.ken_work.specs.declared.worker.TurnWorker.{TurnWorker}
use Rattle.ken_work.specs.Calls.{BeforeTurn, GaveUp, IsSealInDoubt, IsTurnInDoubt, IsTurnoverInDoubt, RanTurn, Stopped, TakesTurn, answer_puts, amid_packets, at_input, at_message, at_turn, at_turnover, Drew}
use Rattle.ken_work.specs.Capped.{IsCapped}
use Rattle.ken_work.specs.Capped as caps
use Rattle.ken_work.specs.Hearing.{EndsWith, Listened, ack_put, again_puts, chosen}
use Rattle.ken_work.specs.Meeting.{AreFronts, AreJoined}
use Rattle.ken_work.specs.Patches.{waits_of}
use Rattle.ken_work.specs.Sealing.{Renews, RenewsBy, coming_pages, is_full}
use Rattle.ken_whole.specs.TurnLaws.{DoubtsSeal, HandlerLeadsTo, TookBy, TurnKeepsWhole, acks_out, told_of, turn_made}
use Rattle.ken_whole.specs.Whole.{HasReached, IsSettledAt, IsWhole, WereTold}
use Rattle.ken_work.specs.Workers.{HearsNews, IsSameWorker, Working, progress_told, turn_settled}
use Rattle.ken_whole.proofs.MeetingWhole.{whole-handler}
use Rattle.ken_whole.proofs.NextMails.{AreAgain, WasConsumed, all-again, front-again, mail-given, next-mail}
use Rattle.ken_whole.proofs.NumbersAfter.{consumed-push}
use Rattle.ken_whole.proofs.Paced.{renewed-room}
use Rattle.ken_whole.proofs.Rings.{ring-popped, ring-pushed}
use Rattle.ken_whole.proofs.Runs.{MayAck, acks-each, acks-run, after-nothing, run-append}
use Rattle.ken_whole.proofs.SealsWhole.{IsNextOf, may-seal, whole-sealed}
use Rattle.ken_whole.proofs.SendsWhole.{some-front}
use Rattle.ken_whole.proofs.Told.{told-heard}
use Rattle.ken_whole.proofs.TurnoversWhole.{may-turn, whole-still, whole-turned}

-- ---- some events of a turn, in order

some-none : (es : List Event) → IsSome [] es
some-none [] = ended
some-none (e ∷ es) = left_out (some-none es)

-- ---- what is acknowledged

abbrev acked_events : ℕ → List ℕ → List Event
acked_events v senders = map (λ (from : ℕ). Ack v from) senders

-- where the turns are the same, the same is put
acks-same : (v : ℕ) (n n2 : Node) (senders : List ℕ) → n2.turning.turns ≡ n.turning.turns → acks_out v n2 senders ≡ acks_out v n senders
acks-same v n n2 senders same =
    ap (λ (es : List Effects). record { puts = map (λ (from : ℕ). record { packet = Answer (record { from = v; to = from; through = count_from from es }); sealed = mails_to v from es; consumed = count_from from es }) senders; outs = [] }) same

-- the mail of a turn is acknowledged
abbrev last_of : ℕ → List ℕ
last_of from = if from == outside then [] else from ∷ []

last-events : (v from : ℕ) → acked_events v (last_of from) ≡ answer_to v from
last-events v from = by (from == outside)
  where
    by : (b : Bool) → acked_events v (if b then [] else from ∷ []) ≡ (if b then [] else Ack v from ∷ [])
    by true = refl
    by false = refl

last-puts : (v : ℕ) (c : Consumed) (from : ℕ) → map (ack_put v c) (last_of from) ≡ answer_puts v c from
last-puts v c from = by (from == outside)
  where
    by : (b : Bool) → map (ack_put v c) (if b then [] else from ∷ []) ≡ (if b then [] else ack_put v c from ∷ [])
    by true = refl
    by false = refl

all-map : {A : Type 0} (P Q : A → Type 0) → ((x : A) → P x → Q x) → (xs : List A) → AllByRecursion P xs → AllByRecursion Q xs
all-map P Q by [] all = tt
all-map P Q by (x ∷ xs) all = (by x all.0, all-map P Q by xs all.1)

-- ---- a turnover that ran out of memory left the side as it was

unturned-pages : {D : Type 0} (old new : TurnSide D) → IsUnturned old new → turn_pages new ≡ turn_pages old
unturned-pages old new is = pages_are _ _ _ _ (ap (λ h. sealed_bytes h.bytes h.begun) is.objects) (rw (is.head, is.base, is.base_turns, is.records) refl)

module _ {D : Type 0} (told : D → Option Story) (size count : D → ℕ) (fate : D → Option Fate) (drew : List ℕ → Type 0) (g : Game) (v : ℕ) (p : PatchWorker D) (s : SendWorker) where
  -- ---- the handler heard what it was told

  pub whole-heard : (n : Node) (t mid : TurnWorker D) → IsWhole told size g v n t p s → HearsNews t mid → AreFronts mid p s → IsWhole told size g v n mid p s
  whole-heard n t mid whole news fronts =
      let w = whole.workers in
      let h = whole.pages in
      let d = w.sends in
      let rest : mid ≡ record t { told = mid.told; pages = mid.pages; sealed = mid.sealed; settled = mid.settled; progress = mid.progress; news = mid.news; room = mid.room } =
      news.rest ∙ ap (λ (x : TurnWorker D). record t { told = mid.told; pages = x.pages; sealed = x.sealed; settled = mid.settled; progress = mid.progress; news = x.news; room = x.room }) (sym news.rest) in
      let side : mid.side ≡ t.side = ap (λ (x : TurnWorker D). x.side) news.rest in
      let pages_ring : pushed mid.pages ≡ pushed t.pages = ap (λ (x : TurnWorker D). pushed x.pages) news.rest in
      let sealed_ring : pushed mid.sealed ≡ pushed t.sealed = ap (λ (x : TurnWorker D). pushed x.sealed) news.rest in
      whole-handler told size g v n t mid p p s s whole rest same-sender
      (record {
        pages = ring-pushed t.pages mid.pages p.pages w.joined.pages news.same.pages;
        sealed = ring-pushed t.sealed mid.sealed s.sealed w.joined.sealed news.same.sealed;
        settled = ring-popped p.settled t.settled mid.settled w.joined.settled news.same.settled;
        progress = ring-popped s.told t.progress mid.progress w.joined.progress news.same.progress;
      })
      (subst (WereTold turn_settled (IsSettledAt n) (pushed p.settled) (popped mid.settled)) (sym news.settled.known)
      (told-heard turn_settled (IsSettledAt n) (pushed p.settled) (popped t.settled) (popped mid.settled) news.settled.items t.told.settled news.settled.popped_are fronts.settled w.settled))
      (subst (WereTold progress_told (HasReached g n) (pushed s.told) (popped mid.progress)) (sym news.progress.known)
      (told-heard progress_told (HasReached g n) (pushed s.told) (popped t.progress) (popped mid.progress) news.progress.items t.told.progress news.progress.popped_are fronts.progress w.progress))
      (record { queue = d.queue; ring = sealed_ring ∙ d.ring; due = d.due; sent = d.sent })
      (record {
        queue = h.queue;
        ring = pages_ring ∙ h.ring;
        image = h.image;
        apart = subst (λ (x : TurnSide D). Apart told size x p.side (waits_of h.queue) h.image) (sym side) h.apart;
        turning = h.turning ∙ ap turn_pages (sym side);
        patching = h.patching;
      })
    where
      same-sender : IsSameSender s s
      same-sender = record { node = refl; nodes = refl; sealed = ((refl, refl, refl, refl), refl); told = ((refl, refl, refl, refl), refl) }

  -- ---- the log is renewed where it is full

  record HasRenewed (full : Bool) (n : Node) (mid : TurnWorker D) : Type 1 where
    events : List Event
    is : IsRenewed v full events
    after : Node
    run : (put : Packet → Type 0) → NodeRun g put v n events nothing after
    same : after.turning.turns ≡ n.turning.turns
    whole : IsWhole told size g v after mid p s

  side-alone : (t mid : TurnWorker D) → mid ≡ record t { side = mid.side } → mid ≡ record t { side = mid.side; turns = mid.turns }
  side-alone t mid rest = rest ∙ ap (λ (x : TurnWorker D). record t { side = mid.side; turns = x.turns }) (sym rest)

  renewed-by : (full : Bool) (n : Node) (t mid : TurnWorker D) → is_full t.side ≡ full → IsWhole told size g v n t p s → RenewsBy told size count fate {T = Unit {0}} full (Ok tt) t mid.side → mid ≡ record t { side = mid.side } → Working told size g.handler mid → HasRenewed full n mid
  renewed-by true n t mid full whole turns rest working =
      let new = whole-turned told size g v n t mid p s whole full (side-alone t mid rest) (ap (λ (x : TurnWorker D). x.turns.items) rest) turns.turned working in
      record {
        events = Turnover v Whole (told_of g t) ∷ [];
        is = (told_of g t, refl);
        after = _;
        run = λ put. (_, (nothing, (refl, (may-turn told size g v n t p s whole, refl), refl, (refl, refl))));
        same = refl;
        whole = new;
      }
  renewed-by false n t mid full whole none rest working =
      let same : mid ≡ t = rest ∙ ap (λ (x : TurnSide D). record t { side = x }) none.1 in
      record { events = []; is = refl; after = n; run = λ put. (refl, refl); same = refl; whole = subst (λ (x : TurnWorker D). IsWhole told size g v n x p s) (sym same) whole }

  -- what was consumed is what the node counts
  consumed-is : (n : Node) (t : TurnWorker D) → IsWhole told size g v n t p s → (u : ℕ) → IsSender 8 u → consumed_from t.order u ≡ count_from u n.turning.turns
  consumed-is n t whole u is = ap (λ (c : Consumed). slice_index c.consumed (place u)) whole.workers.working.order ∙ whole.workers.turns.counted.consumed u is

  nodes-are : (n : Node) (t : TurnWorker D) → IsWhole told size g v n t p s → t.order.nodes ≡ g.nodes
  nodes-are n t whole = ap (λ (c : Consumed). c.nodes) whole.workers.working.order ∙ whole.workers.of_run.nodes

  few-nodes : (n : Node) (t : TurnWorker D) → IsWhole told size g v n t p s → g.nodes ≤ 8
  few-nodes n t whole = let k = whole.workers.working in let is = k.nodes in let mine = whole.workers.of_run.nodes in let most = k.side.owner.nodes in omega (arith, is, mine, most)

  may-ack : (n : Node) (t : TurnWorker D) → IsWhole told size g v n t p s → (from : ℕ) → WasConsumed t.order from → MayAck g n from
  may-ack n t whole from was =
      let nodes = nodes-are n t whole in
      let few = few-nodes n t whole in
      let low : from < g.nodes = let here = was.0 in omega (arith, here, nodes) in
      let some = was.1 in
      let is = consumed-is n t whole from (inl (omega (arith, low, few))) in
      (low, omega (arith, some, is))

  -- ---- packets were taken

  -- events up to the turn: the turnover, and acknowledgements of mail that was consumed before
  record HasIdled (full : Bool) (n : Node) (mid : TurnWorker D) (senders : List ℕ) : Type 1 where
    events : List Event
    idle : IsIdle v full events
    after : Node
    run : (put : Packet → Type 0) → NodeRun g put v n events (acks_out v n senders) after
    same : after.turning.turns ≡ n.turning.turns
    whole : IsWhole told size g v after mid p s

  idled-by : (full : Bool) (n : Node) (t mid : TurnWorker D) (senders : List ℕ) → IsWhole told size g v n t p s → HasRenewed full n mid → AllByRecursion (WasConsumed t.order) senders → HasIdled full n mid senders
  idled-by full n t mid senders whole renewed each =
      let n1 : Node = renewed.after in
      let may : AllByRecursion (MayAck g n1) senders = all-map (WasConsumed t.order) (MayAck g n1) (λ from was. subst (λ es. (from < g.nodes) × (0 < count_from from es)) (sym renewed.same) (may-ack n t whole from was)) senders each in
      record {
        events = renewed.events ++ acked_events v senders;
        idle = record { renewed = renewed.events; acks = acked_events v senders; parts = refl; renews = renewed.is; each = acks-each v senders };
        after = n1;
        run = λ put. run-append g put v n n1 n1 renewed.events (acked_events v senders) nothing (acks_out v n senders) (renewed.run put)
            (subst (λ (o : Outgoing). NodeRun g put v n1 (acked_events v senders) o n1) (acks-same v n n1 senders renewed.same) (acks-run g put v n1 senders renewed.whole.workers.sends.due.up may));
        same = renewed.same;
        whole = renewed.whole;
      }

  -- ---- the message

  -- it follows what was consumed, whether it is the mail that came or the next input
  record IsChosen (n : Node) (packets : List (List ℕ)) (m : Message) : Type 0 where
    sender : IsSender g.nodes m.from
    next : IsNextOf g (Contains (packets_from g.nodes packets)) v n m

  chosen-next : (n : Node) (t : TurnWorker D) → IsWhole told size g v n t p s → (passed last : List (List ℕ)) (nones nones2 count_passed : ℕ) (found : Option Message) (m : Message) → EndsWith v t.order count_passed nones nones2 found last → chosen t.inputs.items t.order found ≡ Some m
      → IsChosen n (passed ++ last) m
  chosen-next n t whole passed last nones nones2 count_passed (Some x) m ends is =
      let same : x ≡ m = cc in
      let mail = next-mail v t.order (packet_of ends.0) x ends.1.1 in
      let nodes = nodes-are n t whole in
      let few = few-nodes n t whole in
      let low : x.from < g.nodes = let from = mail.from in omega (arith, from, nodes) in
      let given : Contains (packets_from g.nodes (passed ++ last)) (Mail x) = subst (λ (bs : List (List ℕ)). Contains (packets_from g.nodes (passed ++ bs)) (Mail x)) (sym ends.1.0) (mail-given g.nodes passed ends.0 x mail.mail low) in
      subst (IsChosen n (passed ++ last)) same
      (record {
        sender = inl low;
        next = record { to = mail.to; number = mail.number ∙ ap (λ (k : ℕ). k + 1) (consumed-is n t whole x.from (inl (omega (arith, low, few)))); came = inl given };
      })
  chosen-next n t whole passed last nones nones2 count_passed None m ends is =
      let k : ℕ = consumed_from t.order outside in
      let at : slice_get (inputs_for g v) k ≡ Some m = ap (λ (ms : List Message). slice_get ms k) (sym whole.workers.of_run.inputs) ∙ is in
      let input = input_at_place v 0 g.inputs k m at in
      let counted : k ≡ count_from outside n.turning.turns = consumed-is n t whole outside (inr refl) in
      let from = input.0 in
      let number = input.2 in
      let place : k ≡ m.number - 1 = omega (arith, number) in
      let count : count_from m.from n.turning.turns ≡ count_from outside n.turning.turns = ap (λ (u : ℕ). count_from u n.turning.turns) from in
      record { sender = inr from; next = record { to = input.1; number = omega (arith, number, counted, count); came = inr (from, ap (slice_get (inputs_for g v)) (sym place) ∙ at) } }

  -- where the turns are the same
  chosen-same : (n n2 : Node) (packets : List (List ℕ)) (m : Message) → n2.turning.turns ≡ n.turning.turns → IsChosen n packets m → IsChosen n2 packets m
  chosen-same n n2 packets m same is = record {
    sender = is.sender;
    next = record { to = is.next.to; number = is.next.number ∙ ap (λ es. count_from m.from es + 1) (sym same); came = is.next.came };
  }

  -- ---- a turn was made and sealed

  record HasSealed (n : Node) (mid t2 : TurnWorker D) (m : Message) (packets : List (List ℕ)) : Type 0 where
    draws : List ℕ
    pages : List Page
    after : Node
    step : NodeStep g (Contains (packets_from g.nodes packets)) v n (Seal v m.from draws pages) after
    last : AllByRecursion (MayAck g after) (last_of m.from)
    whole : IsWhole told size g v after t2 p s

  last-may : (after : Node) (from : ℕ) → IsSender g.nodes from → 0 < count_from from after.turning.turns → AllByRecursion (MayAck g after) (last_of from)
  last-may after from sender some = by (from == outside) refl
    where
      by : (b : Bool) → (from == outside) ≡ b → AllByRecursion (MayAck g after) (if b then [] else from ∷ [])
      by true is = tt
      by false is = (⊎_elim (λ (low : from < g.nodes). (low, some)) (λ (out : from ≡ 255). absurd (false≢true (sym is ∙ eq-eqb from outside out))) sender, tt)

  sealed-by : (n : Node) (mid t2 : TurnWorker D) (m : Message) (packets : List (List ℕ)) → length mid.side.records.items < 32 → IsWhole told size g v n mid p s → length n.turning.turns < g.turns → IsChosen n packets m → AreJoined t2 p s → RanTurn told size count fate g.handler drew m mid t2 → HasSealed n mid t2 m packets
  sealed-by n mid t2 m packets room whole few is joined ran =
      let put : Packet → Type 0 = Contains (packets_from g.nodes packets) in
      let e : Effects = ran.effects in
      let pages : List Page = coming_pages ran.begun in
      let made_turn = turn_made m e ran.made.effect in
      let after : Node = sealed_node v made_turn pages n in
      let some : 0 < count_from m.from after.turning.turns = let push = consumed-push m.from n.turning.turns (effects_of v n.turning.turns made_turn) in let one : ◌≡◌ {A = ℕ} (if m.from == m.from then 1 else 0) 1 = ap (λ (b : Bool). if b then 1 else 0) (eq-eqb m.from m.from refl) in omega (arith, push, one) in
      record {
        draws = e.draws;
        pages = pages;
        after = after;
        step = (made_turn, (may-seal told size g v n mid p s whole m e ran.begun ran.made ran.seals.may put few is.next, refl));
        last = last-may after m.from is.sender some;
        whole = whole-sealed told size g v n mid p s whole m e ran.begun ran.made ran.seals.may t2 room ran.seals.sealed ran.seals.others.owner ran.kept ran.working joined;
      }

  module _ (gave : List (List ℕ) → Type 0) (n : Node) (old : TurnWorker D) (whole : IsWhole told size g v n old p s) where
    node-is : old.node ≡ v
    node-is = whole.workers.of_run.node

    few-turns : (IsCapped old → ⊥) → length n.turning.turns < g.turns
    few-turns yet =
        let turns = whole.workers.turns.counted.turns in
        let cap = whole.workers.of_run.cap in
        ⊎_elim
        (λ (low : old.side.numbers.turns < old.cap). omega (arith, low, turns, cap))
        (λ (high : old.cap ≤ old.side.numbers.turns). absurd (yet (caps.turns high)))
        (cases_lt old.side.numbers.turns old.cap)

    listened-by : (put : List Put → Type 0) (nones nones2 : ℕ) (found : Option Message) → Listened old.node old.order gave put nones nones2 found → Listened v old.order gave put nones nones2 found
    listened-by put nones nones2 found listened = subst (λ (k : ℕ). Listened k old.order gave put nones nones2 found) node-is listened

    -- a call that acknowledges nothing after a turn
    leads-by : (put : List Put → Type 0) (says : List Event → Type 0) (t2 : TurnWorker D) (packets : List (List ℕ)) (senders : List ℕ) (events : List Event) (after : Node) → gave packets → put (map (ack_put v old.order) senders) → says events
        → NodeRun g (Contains (packets_from g.nodes packets)) v n events (acks_out v n senders) after → IsWhole told size g v after t2 p s → HandlerLeadsTo told size g v n says gave put old t2 p s
    leads-by put says t2 packets senders events after given was which run now = record {
      given = packets;
      was_given = given;
      before = senders;
      last = [];
      was_put = subst put (sym (append-nil (map (ack_put v old.order) senders))) was;
      after = after;
      call = record { events = events; run = subst (λ (o : Outgoing). NodeRun g (Contains (packets_from g.nodes packets)) v n events o after) (sym (after-nothing (acks_out v n senders))) run; which = which };
      whole = now;
    }

    -- ---- up to the turn

    -- packets were given, the events so far lead to a node that the workers stand for, and a message that was chosen may be taken there
    pub record IsReady (put : List Put → Type 0) (mid : TurnWorker D) (message : Option Message) : Type 1 where
      packets : List (List ℕ)
      given : gave packets
      senders : List ℕ
      was_put : put (map (ack_put v old.order) senders)
      idled : HasIdled (is_full old.side) n mid senders
      few : length idled.after.turning.turns < g.turns
      room : length mid.side.records.items < 32
      takes : (m : Message) → message ≡ Some m → IsChosen idled.after packets m

    pub ready-by : (put : List Put → Type 0) (nones nones2 : ℕ) (mid : TurnWorker D) (message : Option Message) → BeforeTurn told size count fate g.handler drew old mid gave put nones nones2 message → IsReady put mid message
    ready-by put nones nones2 mid message came =
        let listened = listened-by put nones nones2 came.took.found came.took.listened in
        let again = all-again v old.order listened.passed in
        let packets : List (List ℕ) = listened.passed ++ listened.last in
        let before = idled-by (is_full old.side) n old mid again.senders whole (renewed-by (is_full old.side) n old mid refl whole came.renews came.rest came.working) again.each in
        record {
          packets = packets;
          given = listened.given;
          senders = again.senders;
          was_put = subst put again.are listened.acks;
          idled = before;
          few = let few = few-turns came.open_yet in let same = ap length before.same in omega (arith, few, same);
          room = renewed-room told size count fate (is_full old.side) old mid.side refl whole.workers.working.side came.renews;
          takes = λ m is. chosen-same n before.after packets m before.same (chosen-next n old whole listened.passed listened.last nones nones2 (length listened.passed) came.took.found m listened.ends (came.took.chosen_is ∙ is));
        }

    idle-leads : (put : List Put → Type 0) (mid : TurnWorker D) (message : Option Message) → IsReady put mid message → HandlerLeadsTo told size g v n (IsIdle v (is_full old.side)) gave put old mid p s
    idle-leads put mid message r =
        leads-by put (IsIdle v (is_full old.side)) mid r.packets r.senders r.idled.events r.idled.after r.given r.was_put r.idled.idle (r.idled.run (Contains (packets_from g.nodes r.packets))) r.idled.whole

    -- ---- a turn

    turn-leads : (put : List Put → Type 0) (mid t2 : TurnWorker D) (m : Message) → IsReady (λ ps. put (ps ++ answer_puts old.node t2.order m.from)) mid (Some m) → AreJoined t2 p s → RanTurn told size count fate g.handler drew m mid t2
        → HandlerLeadsTo told size g v n (IsTurn v (is_full old.side)) gave put old t2 p s
    turn-leads put mid t2 m r joined ran =
        let given : Packet → Type 0 = Contains (packets_from g.nodes r.packets) in
        let seal = sealed-by r.idled.after mid t2 m r.packets r.room r.idled.whole r.few (r.takes m refl) joined ran in
        let e : Event = Seal v m.from seal.draws seal.pages in
        let last : List ℕ = last_of m.from in
        let puts : answer_puts old.node t2.order m.from ≡ map (ack_put v t2.order) last = ap (λ (k : ℕ). answer_puts k t2.order m.from) node-is ∙ sym (last-puts v t2.order m.from) in
        let tail : NodeRun g given v r.idled.after (e ∷ acked_events v last) (acks_out v seal.after last) seal.after =
        (seal.after, (acks_out v seal.after last, (refl, seal.step, refl, acks-run g given v seal.after last seal.whole.workers.sends.due.up seal.last))) in
        record {
          given = r.packets;
          was_given = r.given;
          before = r.senders;
          last = last;
          was_put = subst (λ (ps : List Put). put (map (ack_put v old.order) r.senders ++ ps)) puts r.was_put;
          after = seal.after;
          call = record {
            events = r.idled.events ++ e ∷ acked_events v last;
            run = run-append g given v n r.idled.after seal.after r.idled.events (e ∷ acked_events v last) (acks_out v n r.senders) (acks_out v seal.after last) (r.idled.run given) tail;
            which = record { before = r.idled.events; idle = r.idled.idle; from = m.from; draws = seal.draws; pages = seal.pages; parts = ap (λ (es : List Event). r.idled.events ++ e ∷ es) (last-events v m.from) };
          };
          whole = seal.whole;
        }

    -- ---- memory ran out

    -- some turn's events begin with these
    some-of-turn : (full : Bool) (es : List Event) → IsIdle v full es → IsSomeOfTurn v full es
    some-of-turn full es idle = record {
      whole = es ++ Seal v 0 [] [] ∷ answer_to v 0;
      turn = record { before = es; idle = idle; from = 0; draws = []; pages = []; parts = refl };
      some = some-front es (Seal v 0 [] [] ∷ answer_to v 0);
    }

    gave-up : (mid t2 : TurnWorker D) (n1 : Node) → IsWhole told size g v n1 mid p s → GaveUp told size count fate g.handler drew mid t2 → IsWhole told size g v n1 t2 p s
    gave-up mid t2 n1 now up = whole-still told size g v mid t2 up.quiet.rest n1 p s now up.quiet.turns up.state.pages up.state.value up.state.node.owner up.state.numbers up.state.head up.state.base up.state.records up.working

    -- the turn was sealed, and its mail isn't acknowledged
    unacked-leads : (put : List Put → Type 0) (mid t2 : TurnWorker D) (m : Message) → IsReady put mid (Some m) → AreJoined t2 p s → RanTurn told size count fate g.handler drew m mid t2 → HandlerLeadsTo told size g v n (IsSomeOfTurn v (is_full old.side)) gave put old t2 p s
    unacked-leads put mid t2 m r joined ran =
        let given : Packet → Type 0 = Contains (packets_from g.nodes r.packets) in
        let seal = sealed-by r.idled.after mid t2 m r.packets r.room r.idled.whole r.few (r.takes m refl) joined ran in
        let e : Event = Seal v m.from seal.draws seal.pages in
        let es : List Event = r.idled.events ++ e ∷ [] in
        let all : es ++ answer_to v m.from ≡ r.idled.events ++ e ∷ answer_to v m.from = append_assoc r.idled.events (e ∷ []) (answer_to v m.from) in
        let run : NodeRun g given v n es (one_after_other (acks_out v n r.senders) nothing) seal.after =
        run-append g given v n r.idled.after seal.after r.idled.events (e ∷ []) (acks_out v n r.senders) nothing (r.idled.run given) (seal.after, (nothing, (refl, seal.step, refl, (refl, refl)))) in
        leads-by put (IsSomeOfTurn v (is_full old.side)) t2 r.packets r.senders es seal.after r.given r.was_put
        (record {
          whole = r.idled.events ++ e ∷ answer_to v m.from;
          turn = record { before = r.idled.events; idle = r.idled.idle; from = m.from; draws = seal.draws; pages = seal.pages; parts = refl };
          some = subst (IsSome es) all (some-front es (answer_to v m.from));
        })
        (subst (λ (o : Outgoing). NodeRun g given v n es o seal.after) (after-nothing (acks_out v n r.senders)) run)
        seal.whole

    -- packets were given, and some of the mail that was consumed before is acknowledged
    some-leads : (put : List Put → Type 0) (t2 : TurnWorker D) (packets : List (List ℕ)) (puts : List Put) → gave packets → put puts → AreAgain v old.order puts → Renews told size count fate {T = Unit {0}} (Ok tt) old t2.side → t2 ≡ record old { side = t2.side }
        → Working told size g.handler t2 → HandlerLeadsTo told size g v n (IsSomeOfTurn v (is_full old.side)) gave put old t2 p s
    some-leads put t2 packets puts given was again renews rest working =
        let before = idled-by (is_full old.side) n old t2 again.senders whole (renewed-by (is_full old.side) n old t2 refl whole renews rest working) again.each in
        leads-by put (IsSomeOfTurn v (is_full old.side)) t2 packets again.senders before.events before.after given (subst put again.are was) (some-of-turn (is_full old.side) before.events before.idle) (before.run (Contains (packets_from g.nodes packets))) before.whole

    -- a turnover that ran out of memory
    unturned-leads : (put : List Put → Type 0) (t2 : TurnWorker D) (full : Bool) → gave [] → put [] → RenewsBy told size count fate {T = Unit {0}} full (Err store.Memory) old t2.side → t2 ≡ record old { side = t2.side } → Working told size g.handler t2
        → HandlerLeadsTo told size g v n (IsSomeOfTurn v full) gave put old t2 p s
    unturned-leads put t2 true given was renews rest working =
        let is = renews.unturned in
        let now = whole-still told size g v old t2 (side-alone old t2 rest) n p s whole (ap (λ (x : TurnWorker D). x.turns.items) rest) (unturned-pages old.side t2.side is) (ap (λ x. x.value) is.objects) is.owner is.numbers is.head is.base is.records working in
        let turn : List Event = Turnover v Whole (told_of g old) ∷ Seal v 0 [] [] ∷ answer_to v 0 in
        leads-by put (IsSomeOfTurn v true) t2 [] [] [] n given was
        (record {
          whole = turn;
          turn = record {
            before = Turnover v Whole (told_of g old) ∷ [];
            idle = record { renewed = Turnover v Whole (told_of g old) ∷ []; acks = []; parts = refl; renews = (told_of g old, refl); each = tt };
            from = 0;
            draws = [];
            pages = [];
            parts = refl;
          };
          some = some-none turn;
        })
        (refl, refl) now
    unturned-leads put t2 false given was renews rest working = absurd renews.0

    stopped-leads : (put : List Put → Type 0) (nones nones2 : ℕ) (t2 : TurnWorker D) → AreJoined t2 p s → Stopped told size count fate g.handler drew old t2 gave put nones nones2 → HandlerLeadsTo told size g v n (IsSomeOfTurn v (is_full old.side)) gave put old t2 p s
    stopped-leads put nones nones2 t2 joined (at_turnover yet rest renews working given was) = unturned-leads put t2 (is_full old.side) given was renews rest working
    stopped-leads put nones nones2 t2 joined (at_message yet rest renews working (amid_packets stopped)) =
        let parts : again_puts v old.order stopped.packets ≡ stopped.puts ++ stopped.rest = ap (λ (k : ℕ). again_puts k old.order stopped.packets) (sym node-is) ∙ stopped.some in
        some-leads put t2 stopped.packets stopped.puts stopped.given stopped.acks (front-again v old.order (again_puts v old.order stopped.packets) stopped.puts stopped.rest parts (all-again v old.order stopped.packets)) renews rest working
    stopped-leads put nones nones2 t2 joined (at_message yet rest renews working (at_input message heard_all is)) =
        let listened = listened-by put nones nones2 None heard_all in
        some-leads put t2 (listened.passed ++ listened.last) (again_puts v old.order listened.passed) listened.given listened.acks (all-again v old.order listened.passed) renews rest working
    stopped-leads put nones nones2 t2 joined (at_turn mid message came ran) =
        let r = ready-by put nones nones2 mid (Some message) came in
        ⊎_elim
        (λ (up : GaveUp told size count fate g.handler drew mid t2).
        leads-by put (IsSomeOfTurn v (is_full old.side)) t2 r.packets r.senders r.idled.events r.idled.after r.given r.was_put (some-of-turn (is_full old.side) r.idled.events r.idled.idle) (r.idled.run (Contains (packets_from g.nodes r.packets)))
        (gave-up mid t2 r.idled.after r.idled.whole up))
        (λ (turn : RanTurn told size count fate g.handler drew message mid t2). unacked-leads put mid t2 message r joined turn)
        ran

    -- ---- a seal in doubt

    pub doubt-leads : (put : List Put → Type 0) (mid t2 : TurnWorker D) (m : Message) → IsReady put mid (Some m) → IsSealInDoubt told size count fate g.handler drew m mid t2 → DoubtsSeal told size count fate drew g v n gave put old t2 p s
    unfolding idle-leads leads-by
    doubt-leads put mid t2 m r doubt = record {
      mid = mid;
      before = idle-leads put mid (Some m) r;
      message = m;
      doubt = doubt;
      turn = turn_made m doubt.effects doubt.made.effect;
      turn_is = refl;
      room = r.room;
      may = may-seal told size g v r.idled.after mid p s r.idled.whole m doubt.effects doubt.begun doubt.made doubt.seals.may (Contains (packets_from g.nodes r.packets)) r.few (r.takes m refl).next;
    }

    -- ---- by the answer

    took-by : (result : Result Took NodeFault) (put : List Put → Type 0) (nones nones2 : ℕ) (t2 : TurnWorker D) → AreJoined t2 p s → TakesTurn told size count fate g.handler drew result old t2 gave put nones nones2 → TookBy told size count fate drew result g v n gave put old old t2 p s
    took-by (Ok Turn) put nones nones2 t2 joined is = turn-leads put is.mid t2 is.message (ready-by (λ ps. put (ps ++ answer_puts old.node t2.order is.message.from)) nones nones2 is.mid (Some is.message) is.came) joined is.ran
    took-by (Ok Idle) put nones nones2 t2 joined is = idle-leads put t2 None (ready-by put nones nones2 t2 None is.came)
    took-by (Ok Capped) put nones nones2 t2 joined is = leads-by put IsNone t2 [] [] [] n is.given is.none refl (refl, refl) (subst (λ (x : TurnWorker D). IsWhole told size g v n x p s) (sym is.same) whole)
    took-by (Err Memory) put nones nones2 t2 joined is = stopped-leads put nones nones2 t2 joined is
    took-by (Err Disk) put nones nones2 t2 joined is =
        ⊎_elim
        (λ (turnover : IsTurnoverInDoubt told size count fate g.handler drew old t2 gave put). inl (record { was_given = turnover.given; was_put = turnover.none; whole = whole; may = may-turn told size g v n old p s whole }))
        (λ (turn : IsTurnInDoubt told size count fate g.handler drew old t2 gave put nones nones2). inr (doubt-leads put turn.mid t2 turn.message (ready-by put nones nones2 turn.mid (Some turn.message) turn.came) turn.doubt))
        is
    took-by (Err Outlet) put nones nones2 t2 joined is = is
    took-by (Err (Damaged disk place)) put nones nones2 t2 joined is = is

  -- ---- from the worker as it was before it heard what it was told

  leads-from : (says says2 : List Event → Type 0) (gave : List (List ℕ) → Type 0) (put : List Put → Type 0) (n : Node) (t old t2 : TurnWorker D) → old.order ≡ t.order → ((es : List Event) → says es → says2 es) → HandlerLeadsTo told size g v n says gave put old t2 p s
      → HandlerLeadsTo told size g v n says2 gave put t t2 p s
  leads-from says says2 gave put n t old t2 same by is = record {
    given = is.given;
    was_given = is.was_given;
    before = is.before;
    last = is.last;
    was_put = subst (λ (c : Consumed). put (map (ack_put v c) is.before ++ map (ack_put v t2.order) is.last)) same is.was_put;
    after = is.after;
    call = record { events = is.call.events; run = is.call.run; which = by is.call.events is.call.which };
    whole = is.whole;
  }

  pub doubt-from : (gave : List (List ℕ) → Type 0) (put : List Put → Type 0) (n : Node) (t old t2 : TurnWorker D) → old.order ≡ t.order → is_full old.side ≡ is_full t.side → DoubtsSeal told size count fate drew g v n gave put old t2 p s → DoubtsSeal told size count fate drew g v n gave put t t2 p s
  unfolding leads-from
  doubt-from gave put n t old t2 order full is = record {
    mid = is.mid;
    before = leads-from (IsIdle v (is_full old.side)) (IsIdle v (is_full t.side)) gave put n t old is.mid order (λ es idle. subst (λ (b : Bool). IsIdle v b es) full idle) is.before;
    message = is.message;
    doubt = is.doubt;
    turn = is.turn;
    turn_is = is.turn_is;
    room = is.room;
    may = is.may;
  }

  took-from : (result : Result Took NodeFault) (gave : List (List ℕ) → Type 0) (put : List Put → Type 0) (n : Node) (t old t2 : TurnWorker D) → old.order ≡ t.order → is_full old.side ≡ is_full t.side → TookBy told size count fate drew result g v n gave put old old t2 p s
      → TookBy told size count fate drew result g v n gave put t old t2 p s
  took-from (Ok Turn) gave put n t old t2 order full is = leads-from (IsTurn v (is_full old.side)) (IsTurn v (is_full t.side)) gave put n t old t2 order (λ es turn. subst (λ (b : Bool). IsTurn v b es) full turn) is
  took-from (Ok Idle) gave put n t old t2 order full is = leads-from (IsIdle v (is_full old.side)) (IsIdle v (is_full t.side)) gave put n t old t2 order (λ es idle. subst (λ (b : Bool). IsIdle v b es) full idle) is
  took-from (Ok Capped) gave put n t old t2 order full is = leads-from IsNone IsNone gave put n t old t2 order (λ es none. none) is
  took-from (Err Memory) gave put n t old t2 order full is = leads-from (IsSomeOfTurn v (is_full old.side)) (IsSomeOfTurn v (is_full t.side)) gave put n t old t2 order (λ es some. subst (λ (b : Bool). IsSomeOfTurn v b es) full some) is
  took-from (Err Disk) gave put n t old t2 order full is = ⊎_elim (λ turnover. inl turnover) (λ seal. inr (doubt-from gave put n t old t2 order full seal)) is
  took-from (Err Outlet) gave put n t old t2 order full is = is
  took-from (Err (Damaged disk place)) gave put n t old t2 order full is = is

-- ---- what a call leaves of the rings that it pops

module _ {D : Type 0} (told : D → Option Story) (size count : D → ℕ) (fate : D → Option Fate) (h : Handler) (drew : List ℕ → Type 0) where
  record KeepsNews (old new : TurnWorker D) : Type 0 where
    settled : new.settled ≡ old.settled
    progress : new.progress ≡ old.progress

  news-by : (old new x : TurnWorker D) → new ≡ x → x.settled ≡ old.settled → x.progress ≡ old.progress → KeepsNews old new
  news-by old new x rest settled progress = record { settled = ap (λ (y : TurnWorker D). y.settled) rest ∙ settled; progress = ap (λ (y : TurnWorker D). y.progress) rest ∙ progress }

  news-joined : (a b c : TurnWorker D) → KeepsNews a b → KeepsNews b c → KeepsNews a c
  news-joined a b c one two = record { settled = two.settled ∙ one.settled; progress = two.progress ∙ one.progress }

  ran-news : (m : Message) (old new : TurnWorker D) → RanTurn told size count fate h drew m old new → KeepsNews old new
  ran-news m old new ran = news-by old new _ ran.kept.rest refl refl

  stopped-news : (gave : List (List ℕ) → Type 0) (put : List Put → Type 0) (nones nones2 : ℕ) (old new : TurnWorker D) → Stopped told size count fate h drew old new gave put nones nones2 → KeepsNews old new
  stopped-news gave put nones nones2 old new (at_turnover yet rest renews working given was) = news-by old new _ rest refl refl
  stopped-news gave put nones nones2 old new (at_message yet rest renews working stopped) = news-by old new _ rest refl refl
  stopped-news gave put nones nones2 old new (at_turn mid message came ran) =
      news-joined old mid new (news-by old mid _ came.rest refl refl)
      (⊎_elim (λ (up : GaveUp told size count fate h drew mid new). news-by mid new _ up.quiet.rest refl refl) (λ (turn : RanTurn told size count fate h drew message mid new). ran-news message mid new turn) ran)

  takes-news : (result : Result Took NodeFault) (gave : List (List ℕ) → Type 0) (put : List Put → Type 0) (nones nones2 : ℕ) (old new : TurnWorker D) → TakesTurn told size count fate h drew result old new gave put nones nones2 → KeepsNews old new
  takes-news (Ok Turn) gave put nones nones2 old new is = news-joined old is.mid new (news-by old is.mid _ is.came.rest refl refl) (ran-news is.message is.mid new is.ran)
  takes-news (Ok Idle) gave put nones nones2 old new is = news-by old new _ is.came.rest refl refl
  takes-news (Ok Capped) gave put nones nones2 old new is = news-by old new old is.same refl refl
  takes-news (Err Memory) gave put nones nones2 old new is = stopped-news gave put nones nones2 old new is
  takes-news (Err Disk) gave put nones nones2 old new is =
      ⊎_elim
      (λ (turnover : IsTurnoverInDoubt told size count fate h drew old new gave put). news-by old new _ turnover.rest refl refl)
      (λ (turn : IsTurnInDoubt told size count fate h drew old new gave put nones nones2). news-joined old turn.mid new (news-by old turn.mid _ turn.came.rest refl refl) (news-by turn.mid new _ turn.doubt.quiet.rest refl refl))
      is
  takes-news (Err Outlet) gave put nones nones2 old new is = absurd is
  takes-news (Err (Damaged disk place)) gave put nones nones2 old new is = absurd is

-- ---- an idle call

module _ {D : Type 0} where
  -- the packets that it was given are those that it listened to, what it put are the acknowledgements again, and no input waits
  pub record IdleListens (v : ℕ) (mid : TurnWorker D) (gave : List (List ℕ) → Type 0) (put : List Put → Type 0) (nones nones2 : ℕ) (given : List (List ℕ)) (before last : List ℕ) : Type 0 where
    pub listened : Listened v mid.order gave put nones nones2 None
    pub given_is : given ≡ listened.passed ++ listened.last
    pub before_are : again_puts v mid.order listened.passed ≡ map (ack_put v mid.order) before
    pub last_are : last ≡ []
    pub no_input : slice_get mid.inputs.items (consumed_from mid.order outside) ≡ None

  listens-by : (v : ℕ) (mid : TurnWorker D) (gave : List (List ℕ) → Type 0) (put : List Put → Type 0) (nones nones2 : ℕ) (given : List (List ℕ)) (before last : List ℕ) (found : Option Message) → chosen mid.inputs.items mid.order found ≡ None
      → (listened : Listened v mid.order gave put nones nones2 found) → given ≡ listened.passed ++ listened.last → again_puts v mid.order listened.passed ≡ map (ack_put v mid.order) before → last ≡ [] → IdleListens v mid gave put nones nones2 given before last
  listens-by v mid gave put nones nones2 given before last None is listened all puts none = record { listened = listened; given_is = all; before_are = puts; last_are = none; no_input = is }
  listens-by v mid gave put nones nones2 given before last (Some m) is listened all puts none = absurd cc

-- ---- a turn

-- the packets that it was given are those that it listened to, and what it put before the seal are the acknowledgements again
pub record TurnListens (v : ℕ) (c : Consumed) (gave : List (List ℕ) → Type 0) (put : List Put → Type 0) (nones nones2 : ℕ) (found : Option Message) (given : List (List ℕ)) (before : List ℕ) : Type 0 where
  pub listened : Listened v c gave put nones nones2 found
  pub given_is : given ≡ listened.passed ++ listened.last
  pub before_are : again_puts v c listened.passed ≡ map (ack_put v c) before

-- ---- a call of the handler

module _ {D O N : Type 0} (told : D → Option Story) (size count : D → ℕ) (fate : D → Option Fate) (clocks words : O → Option (List ℕ)) (given_between : N → N → List (List ℕ) → Type 0) (put_between : N → N → List Put → Type 0) where
  -- with what the handler heard the workers stand for the node as before
  pub heard-whole : (g : Game) (v : ℕ) (n : Node) (t mid t2 : TurnWorker D) (p : PatchWorker D) (s : SendWorker) (oracle oracle2 : O) (net net2 : N) (result : Result Took NodeFault) (nones nones2 : ℕ) → IsWhole told size g v n t p s → HearsNews t mid
      → TakesTurn told size count fate g.handler (Drew clocks words g.handler oracle oracle2) result mid t2 (given_between net net2) (put_between net net2) nones nones2 → AreFronts t2 p s → IsWhole told size g v n mid p s
  heard-whole g v n t mid t2 p s oracle oracle2 net net2 result nones nones2 whole news takes fronts =
      let drew : List ℕ → Type 0 = Drew clocks words g.handler oracle oracle2 in
      let kept = takes-news told size count fate g.handler drew result (given_between net net2) (put_between net net2) nones nones2 mid t2 takes in
      let heard_fronts : AreFronts mid p s = record {
        pages = (whole.pages.queue, ap (λ (x : TurnWorker D). pushed x.pages) news.rest ∙ whole.pages.ring);
        sealed = (whole.workers.sends.queue, ap (λ (x : TurnWorker D). pushed x.sealed) news.rest ∙ whole.workers.sends.ring);
        settled = (fronts.settled.0, fronts.settled.1 ∙ ap (λ x. popped x ++ fronts.settled.0) kept.settled);
        progress = (fronts.progress.0, fronts.progress.1 ∙ ap (λ x. popped x ++ fronts.progress.0) kept.progress);
      } in
      whole-heard told size count fate drew g v p s n t mid whole news heard_fronts

  pub turn_keeps_whole : TurnKeepsWhole told size count fate clocks words given_between put_between
  turn_keeps_whole g v n t mid t2 p s oracle oracle2 net net2 result nones nones2 whole same news takes fronts =
      let drew : List ℕ → Type 0 = Drew clocks words g.handler oracle oracle2 in
      let gave : List (List ℕ) → Type 0 = given_between net net2 in
      let put : List Put → Type 0 = put_between net net2 in
      let j = whole.workers.joined in
      let joined : AreJoined t2 p s = record {
        pages = ring-pushed t.pages t2.pages p.pages j.pages same.pages;
        sealed = ring-pushed t.sealed t2.sealed s.sealed j.sealed same.sealed;
        settled = ring-popped p.settled t.settled t2.settled j.settled same.settled;
        progress = ring-popped s.told t.progress t2.progress j.progress same.progress;
      } in
      let heard = heard-whole g v n t mid t2 p s oracle oracle2 net net2 result nones nones2 whole news takes fronts in
      let order : mid.order ≡ t.order = ap (λ (x : TurnWorker D). x.order) news.rest in
      let full : is_full mid.side ≡ is_full t.side = ap (λ (x : TurnWorker D). is_full x.side) news.rest in
      took-from told size count fate drew g v p s result gave put n t mid t2 order full (took-by told size count fate drew g v p s gave n mid heard result put nones nones2 t2 joined takes)

  pub idle_listens : (g : Game) (v : ℕ) (n : Node) (t mid t2 : TurnWorker D) (p : PatchWorker D) (s : SendWorker) (oracle oracle2 : O) (net net2 : N) (nones nones2 : ℕ) (whole : IsWhole told size g v n t p s) (same : IsSameWorker t t2) (news : HearsNews t mid)
      (takes : TakesTurn told size count fate g.handler (Drew clocks words g.handler oracle oracle2) (Ok Idle) mid t2 (given_between net net2) (put_between net net2) nones nones2) (fronts : AreFronts t2 p s)
      → let lead = turn_keeps_whole g v n t mid t2 p s oracle oracle2 net net2 (Ok Idle) nones nones2 whole same news takes fronts in IdleListens v mid (given_between net net2) (put_between net net2) nones nones2 lead.given lead.before lead.last
  unfolding turn_keeps_whole took-from leads-from took-by idle-leads leads-by ready-by whole-heard heard-whole
  idle_listens g v n t mid t2 p s oracle oracle2 net net2 nones nones2 whole same news takes fronts =
      let drew : List ℕ → Type 0 = Drew clocks words g.handler oracle oracle2 in
      let gave : List (List ℕ) → Type 0 = given_between net net2 in
      let put : List Put → Type 0 = put_between net net2 in
      let kept = takes-news told size count fate g.handler drew (Ok Idle) gave put nones nones2 mid t2 takes in
      let heard_fronts : AreFronts mid p s = record {
        pages = (whole.pages.queue, ap (λ (x : TurnWorker D). pushed x.pages) news.rest ∙ whole.pages.ring);
        sealed = (whole.workers.sends.queue, ap (λ (x : TurnWorker D). pushed x.sealed) news.rest ∙ whole.workers.sends.ring);
        settled = (fronts.settled.0, fronts.settled.1 ∙ ap (λ x. popped x ++ fronts.settled.0) kept.settled);
        progress = (fronts.progress.0, fronts.progress.1 ∙ ap (λ x. popped x ++ fronts.progress.0) kept.progress);
      } in
      let heard_whole = whole-heard told size count fate drew g v p s n t mid whole news heard_fronts in
      let took = takes.came.took in
      let lead = turn_keeps_whole g v n t mid t2 p s oracle oracle2 net net2 (Ok Idle) nones nones2 whole same news takes fronts in
      let listened = listened-by told size count fate drew g v p s gave n mid heard_whole put nones nones2 took.found took.listened in
      listens-by v mid gave put nones nones2 lead.given lead.before lead.last took.found took.chosen_is listened refl (all-again v mid.order listened.passed).are refl

  pub turn_listens : (g : Game) (v : ℕ) (n : Node) (t mid t2 : TurnWorker D) (p : PatchWorker D) (s : SendWorker) (oracle oracle2 : O) (net net2 : N) (nones nones2 : ℕ) (whole : IsWhole told size g v n t p s) (same : IsSameWorker t t2) (news : HearsNews t mid)
      (takes : TakesTurn told size count fate g.handler (Drew clocks words g.handler oracle oracle2) (Ok Turn) mid t2 (given_between net net2) (put_between net net2) nones nones2) (fronts : AreFronts t2 p s)
      → let lead = turn_keeps_whole g v n t mid t2 p s oracle oracle2 net net2 (Ok Turn) nones nones2 whole same news takes fronts in
      TurnListens v mid.order (given_between net net2) (λ ps. put_between net net2 (ps ++ answer_puts mid.node t2.order takes.message.from)) nones nones2 takes.came.took.found lead.given lead.before
  unfolding turn_keeps_whole took-from leads-from took-by turn-leads ready-by whole-heard heard-whole
  turn_listens g v n t mid t2 p s oracle oracle2 net net2 nones nones2 whole same news takes fronts =
      let drew : List ℕ → Type 0 = Drew clocks words g.handler oracle oracle2 in
      let gave : List (List ℕ) → Type 0 = given_between net net2 in
      let put : List Put → Type 0 = put_between net net2 in
      let heard_whole = heard-whole g v n t mid t2 p s oracle oracle2 net net2 (Ok Turn) nones nones2 whole news takes fronts in
      let took = takes.came.took in
      let before : List Put → Type 0 = λ ps. put (ps ++ answer_puts mid.node t2.order takes.message.from) in
      let listened = listened-by told size count fate drew g v p s gave n mid heard_whole before nones nones2 took.found took.listened in
      record { listened = listened; given_is = refl; before_are = (all-again v mid.order listened.passed).are }
