-- What a node's workers made so far, in one order of their steps: each step goes on from it.
use Rattle.std.proofs.Common.{◌≡◌, ℕ, ◌+◌, ◌^◌, ◌<◌, ◌≤◌, List, [], ◌∷◌, ◌++◌, length, map, take, true, false, Option, Some, None, Ok, Err, IsSome, inl, inr, ⊎_elim, refl, sym, ap, subst, ◌∙◌, append-nil, append_assoc, arith}
use Rattle.std.specs.List.{Contains, range_with_len}
use Rattle.std.proofs.lemmas.List.{length_push, map-append}
use Rattle.ken_disk.specs.declared.disk.Disk as disk
use Rattle.ken_disk.specs.Story.{Tells}
use Rattle.ken_app.specs.declared.oracle.Oracle as oracle
use Rattle.ken_model.specs.declared.messages.Message.{Message}
use Rattle.ken_model.specs.declared.messages.Out.{Out}
use Rattle.ken_model.specs.declared.reports.Emission.{Emission}
use Rattle.ken_model.specs.Game.{Game}
use Rattle.ken_net.specs.declared.net.Net as net
use Rattle.ken_net.specs.Puts.{Put}
use Rattle.ken_links.specs.Rings.{nones}
use Rattle.ken_record.specs.declared.effects.Effects.{Effects}
use Rattle.ken_core.specs.declared.events.Event.{Event}
use Rattle.ken_core.specs.Calls.{IsIdle, IsNone, IsPatchOf, IsSync, IsTurn}
use Rattle.ken_core.specs.Clusters.{emissions_by}
use Rattle.ken_core.specs.Nodes.{Node}
use Rattle.ken_core.specs.Packets.{Packet, Outgoing, nothing, one_after_other}
use Rattle.ken_core.specs.Packets as core
use Rattle.ken_core.specs.Runs.{NodeRun}
use Rattle.ken_ship.specs.declared.emit.Emit.{Emit}
use Rattle.ken_ship.specs.declared.emit.Emit.TheVariants.{Done, Refused, Nothing}
use Rattle.ken_store.specs.declared.faults.StoreFault.TheVariants as store
use Rattle.ken_ship.specs.declared.faults.NodeFault.TheVariants.{Outlet}
use Rattle.ken_ship.specs.declared.outlet.Outlet as outlet
use Rattle.ken_ship.specs.Fits.{AreMails}
use Rattle.ken_ship.specs.Laws.{mails_out, packets_from}
use Rattle.ken_ship.specs.Outlets.{also_took}
use Rattle.ken_ship.specs.Parts.{Part, part_of}
use Rattle.ken_ship.specs.Sending.{all_due, mail_put}
use Rattle.ken_ship.specs.Taking.{acks_in, acks_taken}
use Rattle.ken_work.specs.declared.patcher.PatchWorker.{PatchWorker}
use Rattle.ken_work.specs.declared.took.Took.{Took}
use Rattle.ken_work.specs.declared.took.Took.TheVariants.{Turn, Idle, Capped}
use Rattle.ken_work.specs.declared.worker.TurnWorker.{TurnWorker}
use Rattle.ken_work.specs.Calls.{TakesTurn, Drew}
use Rattle.ken_work.specs.Meeting.{AreFronts}
use Rattle.ken_work.specs.Sealing.{is_full}
use Rattle.ken_whole.specs.TurnLaws.{HandlerLeadsTo, TookBy, acks_out}
use Rattle.ken_whole.specs.Whole.{IsWhole}
use Rattle.ken_whole.specs.WholeLaws.{LeadsTo}
use Rattle.ken_whole.proofs.AcksWhole.{acks_keep_whole}
use Rattle.ken_whole.proofs.EmissionsWhole.{emission_keeps_whole}
use Rattle.ken_whole.proofs.PatchesWhole.{patch_keeps_whole, sync_keeps_whole}
use Rattle.ken_node.proofs.Recovered.{some-is}
use Rattle.ken_whole.proofs.Runs.{run-append}
use Rattle.ken_whole.proofs.SendsWhole.{sends_keep_whole}
use Rattle.ken_whole.proofs.TurnsWhole.{turn_keeps_whole}
use Rattle.ken_beside.specs.Puts.{AreOf, IsAnswer, IsMail, Shuffled, WerePut}
use Rattle.ken_beside.specs.Seats.{Handling, Sending}
use Rattle.ken_beside.specs.Steps.{HandlerStep, PatcherCall, PatcherFault, PatcherStep, SenderCall, EmitsOnce, SendsDue, TakesAcks, TurnsOnce, turns_once, patches_once, settles_once, patch_fails, sync_fails, sends_due, takes_acks, emits_once}
use Rattle.ken_beside.proofs.Calm.{AreCalm, calm-append, emit-calm, idle-calm, none-calm, patch-calm, sends-calm, sync-calm, taken-calm, turn-calm}
use Rattle.ken_beside.proofs.Counted.{few-turns, order-counts}
use Rattle.ken_beside.proofs.Disks.{image-goes}
use Rattle.ken_beside.proofs.Given.{handler-given, sender-given, step-given, taken, taken-just}
use Rattle.ken_beside.proofs.Lists.{shuffled-first, shuffled-second}
use Rattle.ken_beside.proofs.Over.{run-over}
use Rattle.ken_beside.proofs.Sorts.{acks-out, mails-out, of-then}
use Rattle.ken_beside.proofs.Spelled.{all-mails, handler-put, lines-mails, mails-put, none-put, put-then}

-- ---- what an outlet took

also-more : (xs ys : List Out) (told : Option (List Out)) → also_took ys (also_took xs told) ≡ also_took (xs ++ ys) told
also-more [] ys told = refl
also-more (x ∷ xs) [] None = refl
also-more (x ∷ xs) (y ∷ ys) None = refl
also-more (x ∷ xs) [] (Some outs) = ap (λ (os : List Out). Some (outs ++ x ∷ os)) (sym (append-nil xs))
also-more (x ∷ xs) (y ∷ ys) (Some outs) = ap Some (append_assoc outs (x ∷ xs) (y ∷ ys))

module _ {D N O U : Type 0} (d : disk.Ghosts D) (e : net.Ghosts N) (o : oracle.Ghosts O) (u : outlet.Ghosts U) (kind : Packet → Type 0) (g : Game) (v : ℕ)
    (put_still : (a : N) → e.put_between a a []) (put_joins : (a b c : N) (ps qs : List Put) → e.put_between a b ps → e.put_between b c qs → e.put_between a c (ps ++ qs))
    (few : g.nodes ≤ 8) (known : v < g.nodes) (n : Node) (t0 : Handling D N O) (s0 : Sending N U) where
  pub record SoFar (t : Handling D N O) (p : PatchWorker D) (s : Sending N U) : Type 0 where
    pub events : List Event
    pub out : Outgoing
    pub after : Node
    pub run : NodeRun g kind v n events out after
    pub calm : AreCalm events
    pub whole : IsWhole d.told d.size g v after t.worker p s.worker
    pub tells : IsSome (d.told p.side.image.disk)
    pub by_handler : List core.Put
    pub by_sender : List core.Put
    pub all : Shuffled by_handler by_sender out.puts
    pub handler_puts : WerePut g.nodes (e.put_between t0.net t.net) by_handler
    pub sender_puts : WerePut g.nodes (e.put_between s0.net s.net) by_sender
    pub handler_acks : AreOf IsAnswer by_handler
    pub sender_mails : AreOf IsMail by_sender
    pub emissions : (part_of s.worker).emissions ≡ (part_of s0.worker).emissions ++ emissions_by v out.outs
    pub took : u.took s.outlet ≡ also_took out.outs (u.took s0.outlet)

  -- ---- one worker goes on

  module _ (t : Handling D N O) (p : PatchWorker D) (s : Sending N U) (so : SoFar t p s) (es : List Event) (out : Outgoing) (n2 : Node) (run : NodeRun g kind v so.after es out n2) (calm : AreCalm es) where
    abbrev all_out : Outgoing
    all_out = one_after_other so.out out

    all-run : NodeRun g kind v n (so.events ++ es) all_out n2
    all-run = run-append g kind v n so.after n2 so.events es so.out out so.run run

    all-calm : AreCalm (so.events ++ es)
    all-calm = calm-append so.events es so.calm calm

    same-emissions : out.outs ≡ [] → emissions_by v so.out.outs ≡ emissions_by v all_out.outs
    same-emissions none = ap (emissions_by v) (sym (append-nil so.out.outs) ∙ ap (λ (os : List Out). so.out.outs ++ os) (sym none))

    same-took : out.outs ≡ [] → also_took so.out.outs (u.took s0.outlet) ≡ also_took all_out.outs (u.took s0.outlet)
    same-took none = ap (λ (os : List Out). also_took os (u.took s0.outlet)) (sym (append-nil so.out.outs) ∙ ap (λ (os : List Out). so.out.outs ++ os) (sym none))

    pub handler-goes-on : (t2 : Handling D N O) → out.outs ≡ [] → IsWhole d.told d.size g v n2 t2.worker p s.worker → WerePut g.nodes (e.put_between t.net t2.net) out.puts → AreOf IsAnswer out.puts → SoFar t2 p s
    handler-goes-on t2 none whole put acks = record {
      events = so.events ++ es;
      out = all_out;
      after = n2;
      run = all-run;
      calm = all-calm;
      whole = whole;
      tells = so.tells;
      by_handler = so.by_handler ++ out.puts;
      by_sender = so.by_sender;
      all = shuffled-first so.by_handler so.by_sender so.out.puts out.puts so.all;
      handler_puts = put-then g.nodes (e.put_between t0.net t.net) (e.put_between t.net t2.net) (e.put_between t0.net t2.net) so.by_handler out.puts (put_joins t0.net t.net t2.net) so.handler_puts put;
      sender_puts = so.sender_puts;
      handler_acks = of-then IsAnswer so.by_handler out.puts so.handler_acks acks;
      sender_mails = so.sender_mails;
      emissions = so.emissions ∙ ap (λ (x : List Emission). (part_of s0.worker).emissions ++ x) (same-emissions none);
      took = so.took ∙ same-took none;
    }

    pub patcher-goes-on : (p2 : PatchWorker D) → out ≡ nothing → IsWhole d.told d.size g v n2 t.worker p2 s.worker → IsSome (d.told p2.side.image.disk) → SoFar t p2 s
    patcher-goes-on p2 none whole tells =
        let outs : out.outs ≡ [] = ap (λ (x : Outgoing). x.outs) none in
        let same : so.out.puts ≡ all_out.puts = sym (append-nil so.out.puts) ∙ ap (λ (x : Outgoing). so.out.puts ++ x.puts) (sym none) in
        record {
          events = so.events ++ es;
          out = all_out;
          after = n2;
          run = all-run;
          calm = all-calm;
          whole = whole;
          tells = tells;
          by_handler = so.by_handler;
          by_sender = so.by_sender;
          all = subst (Shuffled so.by_handler so.by_sender) same so.all;
          handler_puts = so.handler_puts;
          sender_puts = so.sender_puts;
          handler_acks = so.handler_acks;
          sender_mails = so.sender_mails;
          emissions = so.emissions ∙ ap (λ (x : List Emission). (part_of s0.worker).emissions ++ x) (same-emissions outs);
          took = so.took ∙ same-took outs;
        }

    pub sender-goes-on : (s2 : Sending N U) → IsWhole d.told d.size g v n2 t.worker p s2.worker → WerePut g.nodes (e.put_between s.net s2.net) out.puts → AreOf IsMail out.puts
        → (part_of s2.worker).emissions ≡ (part_of s.worker).emissions ++ emissions_by v out.outs → u.took s2.outlet ≡ also_took out.outs (u.took s.outlet) → SoFar t p s2
    sender-goes-on s2 whole put mails emissions took = record {
      events = so.events ++ es;
      out = all_out;
      after = n2;
      run = all-run;
      calm = all-calm;
      whole = whole;
      tells = so.tells;
      by_handler = so.by_handler;
      by_sender = so.by_sender ++ out.puts;
      all = shuffled-second so.by_handler so.by_sender so.out.puts out.puts so.all;
      handler_puts = so.handler_puts;
      sender_puts = put-then g.nodes (e.put_between s0.net s.net) (e.put_between s.net s2.net) (e.put_between s0.net s2.net) so.by_sender out.puts (put_joins s0.net s.net s2.net) so.sender_puts put;
      handler_acks = so.handler_acks;
      sender_mails = of-then IsMail so.by_sender out.puts so.sender_mails mails;
      emissions =
          emissions
          ∙ ap (λ (x : List Emission). x ++ emissions_by v out.outs) so.emissions
          ∙ append_assoc (part_of s0.worker).emissions (emissions_by v so.out.outs) (emissions_by v out.outs)
          ∙ ap (λ (x : List Emission). (part_of s0.worker).emissions ++ x) (sym (map-append (λ (x : Out). let emission : Emission = record { node = v; out = x } in emission) so.out.outs out.outs));
      took = took ∙ ap (also_took out.outs) so.took ∙ also-more so.out.outs out.outs (u.took s0.outlet);
    }

  -- ---- the handler

  -- packets that a step was given are of the kind
  abbrev pub AreOfKind : List (List ℕ) → Type 0
  AreOfKind given = (packet : Packet) → Contains (packets_from g.nodes given) packet → kind packet

  module _ (t t2 : Handling D N O) (p : PatchWorker D) (s : Sending N U) (so : SoFar t p s) (fronts : AreFronts t2.worker p s.worker) where
    led-on : (given : List (List ℕ)) → AreOfKind given → (says : List Event → Type 0) → ((es : List Event) → says es → AreCalm es) → HandlerLeadsTo d.told d.size g v so.after says (λ x. x ≡ given) (e.put_between t.net t2.net) t.worker t2.worker p s.worker → length t.worker.turns.items < 2 ^ 64 → length t2.worker.turns.items < 2 ^ 64
        → SoFar t2 p s
    led-on mine kinds says calm lead short short2 =
        let out : Outgoing = one_after_other (acks_out v so.after lead.before) (acks_out v lead.after lead.last) in
        let given : Packet → Type 0 = Contains (packets_from g.nodes lead.given) in
        handler-goes-on t p s so lead.call.events out lead.after
        (run-over g given kind (subst AreOfKind (sym lead.was_given) kinds) v so.after lead.after lead.call.events out lead.call.run) (calm lead.call.events lead.call.which) t2 refl lead.whole
        (handler-put g given v so.after lead.after lead.call.events lead.before lead.last t.worker.order t2.worker.order (e.put_between t.net t2.net) few known
        (order-counts d.told d.size g v so.after t.worker p s.worker so.whole) (order-counts d.told d.size g v lead.after t2.worker p s.worker lead.whole)
        (subst (λ (ts : List Effects). length ts < 2 ^ 64) so.whole.workers.turns.kept short) (subst (λ (ts : List Effects). length ts < 2 ^ 64) lead.whole.workers.turns.kept short2) lead.call.run lead.was_put)
        (of-then IsAnswer (acks_out v so.after lead.before).puts (acks_out v lead.after lead.last).puts (acks-out v so.after lead.before) (acks-out v lead.after lead.last))

    abbrev drew : List ℕ → Type 0
    drew = Drew o.telling.clocks o.telling.words g.handler t.oracle t2.oracle

    module _ (answer : Took) (is : TurnsOnce d e o g.handler (Ok answer) t t2) where
      abbrev its : List (List ℕ)
      its = taken d.told d.size d.faults d.fate g.handler drew (e.given_between t.net t2.net) (e.nones t.net) (e.nones t2.net) (e.put_between t.net t2.net) is.mid t2.worker answer is.takes

      -- the call, as one that was given just these
      just : TakesTurn d.told d.size d.faults d.fate g.handler drew (Ok answer) is.mid t2.worker (λ x. x ≡ its) (e.put_between t.net t2.net) (e.nones t.net) (e.nones t2.net)
      just = taken-just d.told d.size d.faults d.fate g.handler drew (e.given_between t.net t2.net) (e.nones t.net) (e.nones t2.net) (e.put_between t.net t2.net) is.mid t2.worker answer is.takes

      led : TookBy d.told d.size d.faults d.fate drew (Ok answer) g v so.after (λ x. x ≡ its) (e.put_between t.net t2.net) t.worker is.mid t2.worker p s.worker
      led =
          turn_keeps_whole d.told d.size d.faults d.fate o.telling.clocks o.telling.words (λ a b x. x ≡ its) e.put_between g v so.after t.worker is.mid t2.worker p s.worker t.oracle t2.oracle t.net t2.net (Ok answer) (e.nones t.net) (e.nones t2.net)
          so.whole is.same is.hears just fronts

    turned : (answer : Took) → (is : TurnsOnce d e o g.handler (Ok answer) t t2) → AreOfKind (its answer is) → SoFar t2 p s
    turned Turn is kinds =
        let low = few-turns d.told d.size g v so.after t.worker is.mid p s.worker so.whole is.hears is.takes.came.open_yet in
        let more : length t2.worker.turns.items ≡ length t.worker.turns.items + 1 =
        ap length is.takes.ran.kept.turns ∙ length_push is.takes.mid.turns.items is.takes.ran.effects
        ∙ ap (λ (w : TurnWorker D). length w.turns.items + 1) is.takes.came.rest ∙ ap (λ (w : TurnWorker D). length w.turns.items + 1) is.hears.rest in
        led-on (its Turn is) kinds (IsTurn v (is_full t.worker.side)) (turn-calm v (is_full t.worker.side)) (led Turn is) (omega (arith, low)) (omega (arith, low, more))
    turned Idle is kinds =
        let low = few-turns d.told d.size g v so.after t.worker is.mid p s.worker so.whole is.hears is.takes.came.open_yet in
        let more : length t2.worker.turns.items ≡ length t.worker.turns.items =
        ap (λ (w : TurnWorker D). length w.turns.items) is.takes.came.rest ∙ ap (λ (w : TurnWorker D). length w.turns.items) is.hears.rest in
        led-on (its Idle is) kinds (IsIdle v (is_full t.worker.side)) (idle-calm v (is_full t.worker.side)) (led Idle is) (omega (arith, low)) (omega (arith, low, more))
    turned Capped is kinds =
        let lead = led Capped is in
        let out : Outgoing = one_after_other (acks_out v so.after lead.before) (acks_out v lead.after lead.last) in
        let run : NodeRun g (Contains (packets_from g.nodes lead.given)) v so.after [] out lead.after =
        subst (λ (es : List Event). NodeRun g (Contains (packets_from g.nodes lead.given)) v so.after es out lead.after) lead.call.which lead.call.run in
        handler-goes-on t p s so [] nothing lead.after (refl, run.1) tt t2 refl lead.whole (none-put g.nodes (e.put_between t.net t2.net) is.takes.none) tt

    pub handler-steps : (one : HandlerStep d e o g.handler t t2) → AreOfKind (handler-given d e o g.handler t t2 one) → SoFar t2 p s
    unfolding handler-given
    handler-steps (turns_once answer is) kinds = turned answer is kinds

  -- ---- the patcher

  module _ (t : Handling D N O) (p p2 : PatchWorker D) (s : Sending N U) (so : SoFar t p s) (fronts : AreFronts t.worker p2 s.worker) where
    patch-leads : (says : List Event → Type 0) → ((es : List Event) → says es → AreCalm es) → LeadsTo d.told d.size g v [] says so.after nothing t.worker p2 s.worker → IsSome (d.told p2.side.image.disk) → SoFar t p2 s
    patch-leads says calm lead tells =
        patcher-goes-on t p s so lead.call.events nothing lead.after
        (run-over g (Contains []) kind (λ packet there. absurd (omega (arith, there.1))) v so.after lead.after lead.call.events nothing lead.call.run) (calm lead.call.events lead.call.which) p2 refl lead.whole tells

    -- where its disk tells, a call that failed leads on too
    fault-leads : (says : List Event → Type 0) → ((es : List Event) → says es → AreCalm es) → Tells (d.told p2.side.image.disk) (λ h. LeadsTo d.told d.size g v [] says so.after nothing t.worker p2 s.worker) → IsSome (d.told p2.side.image.disk) → SoFar t p2 s
    fault-leads says calm lead tells = let h = some-is (d.told p2.side.image.disk) tells in patch-leads says calm (lead h.0 h.1) tells

    well : PatcherStep d p p2 → IsSome (d.told p2.side.image.disk) → SoFar t p2 s
    well (patches_once true same is) tells = patch-leads (IsPatchOf v) (patch-calm v) (patch_keeps_whole d.told d.size d.faults d.fate g v so.after t.worker p p2 s.worker (Ok true) so.whole same is fronts) tells
    well (patches_once false same is) tells = patch-leads IsNone none-calm (patch_keeps_whole d.told d.size d.faults d.fate g v so.after t.worker p p2 s.worker (Ok false) so.whole same is fronts) tells
    well (settles_once same is) tells = patch-leads (IsSync v) (sync-calm v) (sync_keeps_whole d.told d.size d.faults d.fate g v so.after t.worker p p2 s.worker (Ok tt) so.whole same is) tells

    failed : PatcherFault d p p2 → IsSome (d.told p2.side.image.disk) → SoFar t p2 s
    failed (patch_fails same is) tells = fault-leads (IsPatchOf v) (patch-calm v) (patch_keeps_whole d.told d.size d.faults d.fate g v so.after t.worker p p2 s.worker (Err store.Disk) so.whole same is fronts) tells
    failed (sync_fails same is) tells = fault-leads IsNone none-calm (sync_keeps_whole d.told d.size d.faults d.fate g v so.after t.worker p p2 s.worker (Err store.Disk) so.whole same is) tells

    pub patcher-steps : PatcherCall d p p2 → SoFar t p2 s
    patcher-steps call =
        let tells : IsSome (d.told p2.side.image.disk) = image-goes d p p2 call so.tells in
        ⊎_elim (λ step. well step tells) (λ fault. failed fault tells) call

  -- ---- the externaliser

  module _ (t : Handling D N O) (p : PatchWorker D) (s s2 : Sending N U) (so : SoFar t p s) (fronts : AreFronts t.worker p s2.worker) where
    same-still : s2.net ≡ s.net → WerePut g.nodes (e.put_between s.net s2.net) []
    same-still same = none-put g.nodes (e.put_between s.net s2.net) (subst (λ (x : N). e.put_between s.net x []) (sym same) (put_still s.net))

    no-more : (part_of s2.worker).emissions ≡ (part_of s.worker).emissions → (part_of s2.worker).emissions ≡ (part_of s.worker).emissions ++ emissions_by v []
    no-more same = same ∙ sym (append-nil (part_of s.worker).emissions)

    sent-on : SendsDue e u (Ok tt) s s2 → SoFar t p s2
    sent-on is =
        let due : List Message = all_due s.worker.nodes (part_of s2.worker).due.lines in
        let put : N → N → List Put → Type 0 = λ a b ps. e.put_between a b ps × (ps ≡ map mail_put due) in
        let law = sends_keep_whole d.told d.size put g v so.after t.worker p s.worker s2.worker s.net s2.net (Ok tt) (nones s.worker.sealed) (nones s2.worker.sealed) so.whole is.same is.told is.handed
        (record { puts = is.put.puts; were_put = (is.put.were_put, is.put.are); are = is.put.are }) fronts in
        let some = law.some in
        let mails : AreMails v (part_of s2.worker).due.lines = subst (λ (k : ℕ). AreMails k (part_of s2.worker).due.lines) (is.same.node ∙ so.whole.workers.of_run.sender) (lines-mails s2.worker) in
        let out : Outgoing = mails_out v so.after some.sending.messages in
        sender-goes-on t p s so some.sending.call.events out so.after
        (run-over g (Contains []) kind (λ packet there. absurd (omega (arith, there.1))) v so.after so.after some.sending.call.events out some.sending.call.run) (sends-calm g v so.after some.sending.call.events some.sending.call.which) s2 law.whole
        (mails-put g.nodes v so.after (e.put_between s.net s2.net) some.puts due some.sending.messages known some.were_put.0 some.were_put.1 some.sending.put (all-mails v (part_of s2.worker).due.lines (range_with_len 0 s.worker.nodes) mails))
        (mails-out v so.after some.sending.messages)
        (no-more (ap (λ (x : Part). x.emissions) is.part)) (ap u.took is.outlet)

    heard-on : (is : TakesAcks e u s s2) → AreOfKind is.heard.packets → SoFar t p s2
    heard-on is kinds =
        let law = (acks_keep_whole d.told d.size e.given_between g v so.after t.worker p s.worker s2.worker s.net s2.net (e.nones s.net) (e.nones s2.net) so.whole is.same is.sealed is.heard is.tells).some in
        sender-goes-on t p s so law.call.events nothing law.after
        (run-over g (Contains (packets_from g.nodes is.heard.packets)) kind kinds v so.after law.after law.call.events nothing law.call.run) (taken-calm v (acks_taken (acks_in v g.nodes is.heard.packets) (part_of s.worker).due.lines) law.call.events law.call.which) s2 law.whole
        (none-put g.nodes (e.put_between s.net s2.net) is.put) tt
        (no-more (ap (λ (x : Part). x.emissions) is.part)) (ap u.took is.outlet)

    none-emitted : LeadsTo d.told d.size g v [] IsNone so.after nothing t.worker p s2.worker → s2.net ≡ s.net → (part_of s2.worker).emissions ≡ (part_of s.worker).emissions → u.took s2.outlet ≡ u.took s.outlet → SoFar t p s2
    none-emitted law net emissions outlet =
        sender-goes-on t p s so law.call.events nothing law.after
        (run-over g (Contains []) kind (λ packet there. absurd (omega (arith, there.1))) v so.after law.after law.call.events nothing law.call.run) (none-calm law.call.events law.call.which) s2 law.whole
        (same-still net) tt (no-more emissions) outlet

    emitted-on : (answer : Emit) → EmitsOnce e u (Ok answer) s s2 → SoFar t p s2
    emitted-on (Done number) is =
        let law = emission_keeps_whole d.told d.size g v so.after t.worker p s.worker s2.worker (Ok (Done number)) so.whole is.same is.sealed is.part in
        let one : Out = law.out in
        let outs : is.part.0 ∷ is.part.1.0 ≡ one ∷ law.rest = sym is.part.1.1.0 ∙ law.oldest in
        let same : is.part.0 ≡ one = cc in
        let out : Outgoing = record { puts = []; outs = one ∷ [] } in
        sender-goes-on t p s so law.comes.call.events out law.comes.after
        (run-over g (Contains []) kind (λ packet there. absurd (omega (arith, there.1))) v so.after law.comes.after law.comes.call.events out law.comes.call.run) (emit-calm v law.comes.call.events law.comes.call.which) s2 law.comes.whole
        (same-still is.net) tt
        (ap (λ (x : Part). x.emissions) is.part.1.1.2
        ∙ ap (λ (k : ℕ). (part_of s.worker).emissions ++ record { node = k; out = is.part.0 } ∷ []) so.whole.workers.of_run.sender
        ∙ ap (λ (x : Out). (part_of s.worker).emissions ++ record { node = v; out = x } ∷ []) same)
        (is.took ∙ ap (λ (os : List Out). also_took (take 1 os) (u.took s.outlet)) law.oldest)
    emitted-on Refused is =
        none-emitted (emission_keeps_whole d.told d.size g v so.after t.worker p s.worker s2.worker (Ok Refused) so.whole is.same is.sealed is.part) is.net (ap (λ (x : Part). x.emissions) is.part.2) is.took
    emitted-on Nothing is =
        none-emitted (emission_keeps_whole d.told d.size g v so.after t.worker p s.worker s2.worker (Ok Nothing) so.whole is.same is.sealed is.part) is.net (ap (λ (x : Part). x.emissions) is.part.1) is.took

    worn-out : EmitsOnce e u (Err Outlet) s s2 → SoFar t p s2
    worn-out is =
        none-emitted (emission_keeps_whole d.told d.size g v so.after t.worker p s.worker s2.worker (Err Outlet) so.whole is.same is.sealed is.part) is.net (ap (λ (x : Part). x.emissions) is.part.2) is.took

    pub sender-steps : (one : SenderCall e u s s2) → AreOfKind (sender-given e u s s2 one) → SoFar t p s2
    unfolding sender-given step-given
    sender-steps (inl (sends_due is)) kinds = sent-on is
    sender-steps (inl (takes_acks is)) kinds = heard-on is kinds
    sender-steps (inl (emits_once answer is)) kinds = emitted-on answer is
    sender-steps (inr is) kinds = worn-out is
