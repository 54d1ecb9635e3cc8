-- What each call of a node leaves of its run, by the answer.
use Rattle.std.proofs.Common.{◌≡◌, ◌≢◌, ℕ, ◌+◌, zero, suc, ◌<◌, ◌≤◌, ⊎_elim, List, [], ◌∷◌, ◌++◌, length, slice_index_or, slice_set, Bool, true, false, Option, Some, None, Result, Ok, Err, refl, sym, ap, subst, ◌∙◌, arith}
use Rattle.std.specs.Prelude.{IfSome, IsErrOf}
use Rattle.std.specs.Result.{IsErrAnd}
use Rattle.std.proofs.lemmas.List.{append-nil, get_or-set_same, length-set, map-append}
use Rattle.std.proofs.lemmas.List.Elements.{All-nil}
use Rattle.std.specs.List.{AllByRecursion}
use Rattle.ken_disk.specs.Story.{Story}
use Rattle.ken_model.specs.declared.messages.Out.{Out}
use Rattle.ken_model.specs.declared.reports.Emission.{Emission}
use Rattle.ken_model.specs.Emissions.{emitted_by}
use Rattle.ken_model.specs.Game.{Game}
use Rattle.ken_model.specs.Handler.{Handler}
use Rattle.ken_core.specs.declared.events.Event.{Event}
use Rattle.ken_core.specs.Calls.{Doubt, no_doubt}
use Rattle.ken_core.specs.Clusters.{WasPut, emissions_by}
use Rattle.ken_core.specs.Nodes.{Node}
use Rattle.ken_core.specs.Packets.{Packet, nothing}
use Rattle.ken_net.specs.Standings.{Leaving}
use Rattle.ken_ship.specs.Laws.{packets_from}
use Rattle.ken_ship.specs.Outlets.{also_took}
use Rattle.ken_ship.specs.declared.emit.Emit.{Emit}
use Rattle.ken_ship.specs.declared.emit.Emit.TheVariants.{Done, Refused, Nothing}
use Rattle.ken_ship.specs.declared.faults.NodeFault.{NodeFault}
use Rattle.ken_ship.specs.declared.faults.NodeFault.TheVariants.{Disk, Damaged, Outlet, Memory}
use Rattle.ken_node.specs.declared.stage.Stage.{Stage}
use Rattle.ken_work.specs.declared.took.Took.{Took}
use Rattle.ken_work.specs.declared.took.Took.TheVariants.{Turn, Idle, Capped}
use Rattle.ken_node.specs.declared.watched.Watched.{Watched}
use Rattle.ken_work.specs.declared.worker.TurnWorker.{TurnWorker}
use Rattle.ken_node.specs.Down.{IsDown}
use Rattle.ken_work.specs.Faults.{IsFaultOfWorker}
use Rattle.ken_node.specs.NodeCalls.{EmitsNone, EmitStepsBy, HearSteps, PatchStepsBy, SendSteps, SettleStepsBy}
use Rattle.ken_node.specs.NodeTurns.{HandlerSteps, SealFails, TurnStepsBy, TurnoverFails}
use Rattle.ken_work.specs.Sealing.{is_full}
use Rattle.ken_node.specs.Stages.{emissions_in}
use Rattle.ken_node.specs.Up.{IsUp, MayBeCalled, MayBeCalledOn, MayTakeTurns}
use Rattle.ken_flow.specs.Groups.{group_of, with_node}
use Rattle.ken_run.specs.declared.faults.RunFault.{RunFault}
use Rattle.ken_run.specs.declared.run.Run.{Run}
use Rattle.ken_run.specs.declared.station.Station.{Station}
use Rattle.ken_run.specs.Ends.{WereGiven, WerePut}
use Rattle.ken_run.specs.Running.{IsRunning, IsStopped, LeavesBy, LeavesFault, LeavesRunBy, LeavesRunFault, MayWork, StaysUp}
use Rattle.ken_run.specs.Stations.{HasEmitted, IsStation, RestartsStation}
use Rattle.ken_run.specs.Left.{left_at, outputs_left, pages_left, tries_at, turns_left}
use Rattle.ken_run.proofs.Calls.{acks-were, alone-down, alone-up, handler-down, handler-up, known, mail-were, no-further, sender-up, still-emitted}
use Rattle.ken_run.proofs.Fewer.{few-turns, outputs-fewer, pages-fewer, turns-fewer}
use Rattle.ken_run.proofs.Lifted.{accord-after, with-here}
use Rattle.ken_run.proofs.Quiet.{IsQuiet, idle-quiet, run-quiet, sends-quiet, turn-quiet}

-- a measure of a node is that of its station
pub left-is : {D O U : Type 0} (left : Stage (Watched D) → ℕ) (items : List (Station D O U)) (v : ℕ) (d : Station D O U) → v < length items → left_at left items v ≡ left (slice_index_or items v d).node.stage
left-is left [] v d low = absurd (omega (arith, low))
left-is left (s ∷ ss) zero d low = refl
left-is left (s ∷ ss) (suc v) d low = left-is left ss v d (omega (arith, low))

pub fewer-at : {D O U : Type 0} (left : Stage (Watched D) → ℕ) (items : List (Station D O U)) (k v : ℕ) (s s2 : Station D O U) → k ≡ v → v < length items → slice_index_or items v s ≡ s → left s2.node.stage < left s.node.stage
    → left_at left (slice_set items k s2) v < left_at left items v
fewer-at {D} {O} {U} left items k v s s2 at low is fewer =
    let before : left_at left items v ≡ left s.node.stage = left-is left items v s low ∙ ap (λ (x : Station D O U). left x.node.stage) is in
    let long : v < length (slice_set items k s2) = subst (λ (n : ℕ). v < n) (sym (length-set items k s2)) low in
    let after : left_at left (slice_set items k s2) v ≡ left s2.node.stage =
    left-is left (slice_set items k s2) v s2 long ∙ ap (λ (x : Station D O U). left x.node.stage) (ap (λ j. slice_index_or (slice_set items j s2) v s2) at ∙ get_or-set_same items v s2 s2 low) in
    omega (arith, before, after, fewer)

-- an outlet that told what was emitted tells one output more
pub took-more : (told : Option (List Out)) (os : List Out) (o : Out) → IfSome told (λ t. t ≡ os) → IfSome (also_took (o ∷ []) told) (λ t. t ≡ os ++ o ∷ [])
took-more None os o is = tt
took-more (Some ts) os o is = ap (λ xs. xs ++ o ∷ []) is

-- what a call of a node asks
module _ {D O U A : Type 0} (told : Watched D → Option Story) (size : Watched D → ℕ) (took : U → Option (List Out)) (handles : A → Handler) (g : Game) (made : ℕ) (r : Run D O U A) (v : ℕ) (s : Station D O U)
    (running : IsRunning told size took handles g made r) (low : v < made) (is : slice_index_or r.stations.items v s ≡ s) where
  pub own-station : IsStation took g (group_of g running.nodes running.emissions) v (emitted_by v running.emissions) s
  own-station = subst (IsStation took g (group_of g running.nodes running.emissions) v (emitted_by v running.emissions)) is (running.stands.each v s low)

  -- the node is up
  pub up-before : IsUp told size g v (running.nodes v) s.node.stage
  up-before = subst (λ (x : Station D O U). IsUp told size g v (running.nodes v) x.node.stage) is (running.up v s low)

  pub may-call : MayBeCalled told size s.node.stage
  may-call = record { game = g; node = v; stands_for = running.nodes v; up = up-before }

  pub may-call-on : MayBeCalledOn told size s.mail.from (length r.waiting.mail) s.node.stage
  may-call-on = record {
    game = g;
    stands_for = running.nodes v;
    up = subst (λ u. IsUp told size g u (running.nodes v) s.node.stage) (sym own-station.mail.from) up-before;
    count = running.stands.boxes.0;
  }

  pub may-turn : MayTakeTurns told size (handles r.app) s.acks.from (length r.waiting.acks) s.node.stage
  may-turn = record {
    game = g;
    stands_for = running.nodes v;
    up = subst (λ u. IsUp told size g u (running.nodes v) s.node.stage) (sym own-station.acks.from) up-before;
    count = running.stands.boxes.1;
    of_run = running.stands.handler;
    keeps = running.stands.keeps;
  }

module _ {D O U A : Type 0} (told : Watched D → Option Story) (size : Watched D → ℕ) (took : U → Option (List Out)) (handles : A → Handler) (g : Game) (made : ℕ) (r r2 : Run D O U A) (v : ℕ) (s s2 : Station D O U)
    (running : IsRunning told size took handles g made r) (low : v < made)
    (is : slice_index_or r.stations.items v s ≡ s) (same : (r2.nodes ≡ r.nodes) × (r2.app ≡ r.app)) (stations : r2.stations.items ≡ slice_set r.stations.items v s2) where
  others : (u : ℕ) (d : Station D O U) → u < made → u ≢ v → IsUp told size g u (running.nodes u) (slice_index_or r.stations.items u d).node.stage
  others u d below ne = running.up u d below

  module _ (nones : ℕ) (drew : List ℕ → Type 0) (handler : TurnWorker (Watched D)) (kept : emissions_in s2.node.stage ≡ emissions_in s.node.stage) (rest : s2 ≡ record s { node = s2.node; luck = s2.luck; acks = s2.acks }) where
    -- a call of the handler after which the node is up
    handled : (says : List Event → Type 0) → ((es : List Event) → says es → AllByRecursion IsQuiet es)
        → HandlerSteps told size g v (running.nodes v) (WereGiven v nones r.waiting.mail r2.waiting.mail) (WerePut s.acks s2.acks r.waiting.acks r2.waiting.acks) says s2.node.stage → IsRunning told size took handles g made r2
    handled says quiet h =
        let call = h.steps.call in
        handler-up told size took handles g made r r2 v s s2 running.nodes running.emissions running.stands low is same stations h.given nones h.puts call.events h.out h.steps.after
        h.was_given h.were_put call.run h.steps.spelled (run-quiet g _ v (running.nodes v) call.events h.out h.steps.after (quiet call.events call.which) call.run) kept rest h.steps.up others

    pub turn-leaves : (result : Result Took NodeFault) → TurnStepsBy told size g v (running.nodes v) (WereGiven v nones r.waiting.mail r2.waiting.mail) (WerePut s.acks s2.acks r.waiting.acks r2.waiting.acks) result drew 0 nones handler s2.node.stage
        → LeavesBy told size took handles result g made v r2
    turn-leaves (Ok Turn) t = handled _ (turn-quiet v (is_full handler.side)) t.call
    turn-leaves (Ok Idle) t = handled _ (idle-quiet v (is_full handler.side)) t.call
    turn-leaves (Ok Capped) t =
        let call = t.steps.call in
        handler-up told size took handles g made r r2 v s s2 running.nodes running.emissions running.stands low is same stations [] nones [] call.events nothing t.steps.after
        t.none_given t.none_put call.run t.steps.spelled refl kept rest t.steps.up others
    turn-leaves (Err Disk) t = ⊎_elim
        (λ (f : TurnoverFails told size g v (running.nodes v) (WereGiven v nones r.waiting.mail r2.waiting.mail) (WerePut s.acks s2.acks r.waiting.acks r2.waiting.acks) s2.node.stage).
        let call = f.down.call in
        handler-down told size took handles g made r r2 v s s2 running.nodes running.emissions running.stands low is same stations [] nones [] call.events nothing f.down.after _
        f.none_given f.none_put call.run f.down.spelled refl kept rest f.down.down others)
        (λ (f : SealFails told size g v (running.nodes v) (WereGiven v nones r.waiting.mail r2.waiting.mail) (WerePut s.acks s2.acks r.waiting.acks r2.waiting.acks) drew handler s2.node.stage).
        let call = f.down.call in
        handler-down told size took handles g made r r2 v s s2 running.nodes running.emissions running.stands low is same stations f.given nones f.puts call.events f.out f.down.after _
        f.was_given f.were_put call.run f.down.spelled (run-quiet g _ v (running.nodes v) call.events f.out f.down.after (idle-quiet v (is_full handler.side) call.events call.which) call.run) kept rest f.down.down others)
        t
    turn-leaves (Err Memory) t = tt
    turn-leaves (Err Outlet) t = absurd t
    turn-leaves (Err (Damaged disk place)) t = absurd t

    -- a turn is one less to make
    pub turn-fewer : (result : Result Took NodeFault) → result ≡ Ok Turn → TurnStepsBy told size g v (running.nodes v) (WereGiven v nones r.waiting.mail r2.waiting.mail) (WerePut s.acks s2.acks r.waiting.acks r2.waiting.acks) result drew 0 nones handler s2.node.stage
        → turns_left s2.node.stage < turns_left s.node.stage
    turn-fewer (Ok Turn) was t =
        let h = t.call in
        let after = h.steps.after in
        let packets = packets_from g.nodes h.given in
        let few : length (with_node v after running.nodes v).turning.turns ≤ g.turns =
        few-turns g (with_node v after running.nodes) (running.emissions ++ emissions_by v h.out.outs) v
        (accord-after g running.nodes running.emissions v packets h.steps.call.events h.out after running.stands.accord (known told size took handles g made r r2 v s s2 running.nodes running.emissions running.stands low is same stations) (mail-were told size took handles g made r r2 v s s2 running.nodes running.emissions running.stands low is same stations h.given nones h.was_given) h.steps.call.run) in
        turns-fewer told size g v (running.nodes v) after s.node.stage s2.node.stage t.turn (up-before told size took handles g made r v s running low is) h.steps.up t.last
        (subst (λ (n : Node). length n.turning.turns ≤ g.turns) (with-here v after running.nodes) few)
    turn-fewer (Ok Idle) was t = absurd (cc)
    turn-fewer (Ok Capped) was t = absurd (cc)
    turn-fewer (Err fault) was t = absurd (cc)

  module _ (waits : r2.waiting ≡ r.waiting) (kept : emissions_in s2.node.stage ≡ emissions_in s.node.stage) (rest : s2 ≡ record s { node = s2.node }) where
    links : (s2.mail ≡ s.mail) × (s2.acks ≡ s.acks)
    links = (ap (λ (x : Station D O U). x.mail) rest, ap (λ (x : Station D O U). x.acks) rest)

    emitted : HasEmitted took v (emitted_by v running.emissions ++ []) s2
    emitted = still-emitted told size took handles g made r r2 v s s2 running.nodes running.emissions running.stands low is same stations nothing refl kept (ap (λ (x : Station D O U). x.out) rest)

    pub patch-leaves : (result : Result Bool NodeFault) → PatchStepsBy told size result g v (running.nodes v) s2.node.stage → LeavesBy told size took handles result g made v r2
    patch-leaves (Ok true) p =
        alone-up told size took handles g made r r2 v s s2 running.nodes running.emissions running.stands low is same stations [] p.call.events nothing p.after (All-nil (WasPut (group_of g running.nodes running.emissions))) waits p.call.run links emitted p.up others
    patch-leaves (Ok false) p =
        let steps = p.0 in
        alone-up told size took handles g made r r2 v s s2 running.nodes running.emissions running.stands low is same stations [] steps.call.events nothing steps.after (All-nil (WasPut (group_of g running.nodes running.emissions))) waits steps.call.run links emitted steps.up others
    patch-leaves (Err Disk) p =
        alone-down told size took handles g made r r2 v s s2 running.nodes running.emissions running.stands low is same stations [] p.call.events nothing p.after no_doubt (All-nil (WasPut (group_of g running.nodes running.emissions))) waits p.call.run links emitted p.down others
    patch-leaves (Err Memory) p = tt
    patch-leaves (Err Outlet) p = absurd p
    patch-leaves (Err (Damaged disk place)) p = absurd p

    pub settle-leaves : (result : Result (Unit {0}) NodeFault) → SettleStepsBy told size result g v (running.nodes v) s2.node.stage → LeavesBy told size took handles result g made v r2
    settle-leaves (Ok x) p =
        alone-up told size took handles g made r r2 v s s2 running.nodes running.emissions running.stands low is same stations [] p.call.events nothing p.after (All-nil (WasPut (group_of g running.nodes running.emissions))) waits p.call.run links emitted p.up others
    settle-leaves (Err Disk) p =
        alone-down told size took handles g made r r2 v s s2 running.nodes running.emissions running.stands low is same stations [] p.call.events nothing p.after no_doubt (All-nil (WasPut (group_of g running.nodes running.emissions))) waits p.call.run links emitted p.down others
    settle-leaves (Err Memory) p = tt
    settle-leaves (Err Outlet) p = absurd p
    settle-leaves (Err (Damaged disk place)) p = absurd p

    -- a page is one less to write
    pub patch-fewer : (result : Result Bool NodeFault) → result ≡ Ok true → PatchStepsBy told size result g v (running.nodes v) s2.node.stage → pages_left s2.node.stage < pages_left s.node.stage
    patch-fewer (Ok true) was p = pages-fewer told size g v (running.nodes v) p.after s.node.stage s2.node.stage [] nothing (up-before told size took handles g made r v s running low is) p.up p.call
    patch-fewer (Ok false) was p = absurd (cc)
    patch-fewer (Err fault) was p = absurd (cc)

  -- ---- the externaliser

  module _ (kept : emissions_in s2.node.stage ≡ emissions_in s.node.stage) where
    pub send-leaves : WereGiven v 0 r.waiting.acks r2.waiting.acks [] → s2 ≡ record s { node = s2.node; mail = s2.mail }
        → SendSteps told size g v (running.nodes v) (WerePut s.mail s2.mail r.waiting.mail r2.waiting.mail) s2.node.stage → IsRunning told size took handles g made r2
    send-leaves gave rest p =
        let call = p.steps.call in
        sender-up told size took handles g made r r2 v s s2 running.nodes running.emissions running.stands low is same stations [] 0 p.puts call.events p.out p.steps.after
        gave p.were_put call.run p.steps.spelled (run-quiet g _ v (running.nodes v) call.events p.out p.steps.after (sends-quiet g v (running.nodes v) call.events call.which) call.run) kept rest p.steps.up others

    pub hear-leaves : (nones : ℕ) → r2.waiting.mail ≡ r.waiting.mail → s2 ≡ record s { node = s2.node }
        → HearSteps told size g v (running.nodes v) (WereGiven v nones r.waiting.acks r2.waiting.acks) 0 nones s2.node.stage → IsRunning told size took handles g made r2
    hear-leaves nones mail rest p =
        let were = acks-were told size took handles g made r r2 v s s2 running.nodes running.emissions running.stands low is same stations p.given nones p.was_given in
        let steps = p.steps (no-further g running.nodes running.emissions v (packets_from g.nodes p.given) running.stands.accord (known told size took handles g made r r2 v s s2 running.nodes running.emissions running.stands low is same stations) were) in
        sender-up told size took handles g made r r2 v s s2 running.nodes running.emissions running.stands low is same stations p.given nones [] steps.call.events nothing steps.after
        p.was_given (record { links_are = ap (λ (x : Station D O U). x.mail) rest; passed_on = mail }) steps.call.run steps.spelled refl kept (rest ∙ ap (λ (x : Leaving). record s { node = s2.node; mail = x }) (sym (ap (λ (x : Station D O U). x.mail) rest))) steps.up others

  -- ---- an output

  module _ (rest : s2 ≡ record s { node = s2.node; out = s2.out }) (waits : r2.waiting ≡ r.waiting) where
    apart : (s2.mail ≡ s.mail) × (s2.acks ≡ s.acks)
    apart = (ap (λ (x : Station D O U). x.mail) rest, ap (λ (x : Station D O U). x.acks) rest)

    own-emitted : HasEmitted took v (emitted_by v running.emissions) s
    own-emitted = let own = own-station told size took handles g made r v s running low is in own.emitted

    nothing-emitted : EmitsNone told size g v (running.nodes v) (λ (taken : List Out). took s2.out ≡ also_took taken (took s.out)) s.node.stage s2.node.stage → IsRunning told size took handles g made r2
    nothing-emitted e =
        let steps = e.steps in
        alone-up told size took handles g made r r2 v s s2 running.nodes running.emissions running.stands low is same stations [] steps.call.events nothing steps.after
        (All-nil (WasPut (group_of g running.nodes running.emissions))) waits steps.call.run apart
        (record {
          kept = e.emitted ∙ own-emitted.kept ∙ ap (emissions_by v) (sym (append-nil (emitted_by v running.emissions)));
          took_it = subst (λ (t : Option (List Out)). IfSome t (λ told. told ≡ emitted_by v running.emissions ++ [])) (sym e.taken) (subst (λ (os : List Out). IfSome (took s.out) (λ told. told ≡ os)) (sym (append-nil (emitted_by v running.emissions))) own-emitted.took_it);
        })
        steps.up others

    pub emit-leaves : (result : Result Emit NodeFault) → EmitStepsBy told size result g v (running.nodes v) (λ (taken : List Out). took s2.out ≡ also_took taken (took s.out)) s.node.stage s2.node.stage → LeavesBy told size took handles result g made v r2
    emit-leaves (Ok (Done number)) e =
        let steps = e.steps in
        alone-up told size took handles g made r r2 v s s2 running.nodes running.emissions running.stands low is same stations [] steps.call.events _ steps.after
        (All-nil (WasPut (group_of g running.nodes running.emissions))) waits steps.call.run apart
        (record {
          kept = e.emitted ∙ ap (λ (es : List Emission). es ++ record { node = v; out = e.out } ∷ []) own-emitted.kept ∙ sym (map-append (λ (o : Out). let x : Emission = record { node = v; out = o } in x) (emitted_by v running.emissions) (e.out ∷ []));
          took_it = subst (λ (t : Option (List Out)). IfSome t (λ told. told ≡ emitted_by v running.emissions ++ e.out ∷ [])) (sym e.taken) (took-more (took s.out) (emitted_by v running.emissions) e.out own-emitted.took_it);
        })
        steps.up others
    emit-leaves (Ok Refused) e = nothing-emitted e.0
    emit-leaves (Ok Nothing) e = nothing-emitted e.0
    emit-leaves (Err Outlet) e = nothing-emitted e.0
    emit-leaves (Err Memory) e = tt
    emit-leaves (Err Disk) e = absurd e
    emit-leaves (Err (Damaged disk place)) e = absurd e

    -- an output is one less to emit
    pub emit-fewer : (result : Result Emit NodeFault) (number : ℕ) → result ≡ Ok (Done number) → EmitStepsBy told size result g v (running.nodes v) (λ (taken : List Out). took s2.out ≡ also_took taken (took s.out)) s.node.stage s2.node.stage → outputs_left s2.node.stage < outputs_left s.node.stage
    emit-fewer (Ok (Done n)) number was e = outputs-fewer told size g v (running.nodes v) e.steps.after s.node.stage s2.node.stage [] _ (up-before told size took handles g made r v s running low is) e.steps.up e.steps.call
    emit-fewer (Ok Refused) number was e = absurd (cc)
    emit-fewer (Ok Nothing) number was e = absurd (cc)
    emit-fewer (Err fault) number was e = absurd (cc)

-- ---- one call after another

module _ {D O U A : Type 0} (told : Watched D → Option Story) (size : Watched D → ℕ) (took : U → Option (List Out)) (handles : A → Handler) (v : ℕ) where
  -- a call may follow where all stayed up
  pub still-works : (old new : Run D O U A) → StaysUp told size took handles v old new → MayWork told size took handles v old → MayWork told size took handles v new
  still-works old new stays may = record { game = may.game; made = may.made; running = stays may.game may.made may.running may.known; known = may.known }

  pub stays-on : (old mid new : Run D O U A) → StaysUp told size took handles v old mid → StaysUp told size took handles v mid new → StaysUp told size took handles v old new
  stays-on old mid new one two g made running low = two g made (one g made running low) low

  pub stays-first : (r : Run D O U A) → StaysUp told size took handles v r r
  stays-first r g made running low = running

  -- a fault that is handed on leaves what it left
  pub handed-on : {T : Type 0} (result : Result T NodeFault) (fault : NodeFault) (g : Game) (made : ℕ) (r : Run D O U A) → IsErrAnd result (λ e. e ≡ fault) → LeavesFault told size took handles fault g made v r → LeavesBy told size took handles result g made v r
  handed-on (Ok x) fault g made r same is = absurd same
  handed-on (Err e) fault g made r same is = subst (λ (x : NodeFault). LeavesFault told size took handles x g made v r) (sym same) is

-- a fault of a visit that is handed on leaves what it left
pub run-handed-on : {D O U A T : Type 0} (told : Watched D → Option Story) (size : Watched D → ℕ) (took : U → Option (List Out)) (handles : A → Handler) (result : Result T RunFault) (fault : RunFault) (g : Game) (made : ℕ) (r : Run D O U A) → IsErrAnd result (λ e. e ≡ fault) → LeavesRunFault told size took handles fault g made r → LeavesRunBy told size took handles result g made r
run-handed-on told size took handles (Ok x) fault g made r same is = absurd same
run-handed-on told size took handles (Err e) fault g made r same is = subst (λ (x : RunFault). LeavesRunFault told size took handles x g made r) (sym same) is

-- ---- a restart

-- how often a node was restarted is what its station says
pub tries-is : {D O U : Type 0} (items : List (Station D O U)) (v : ℕ) (d : Station D O U) → v < length items → tries_at items v ≡ (slice_index_or items v d).restarts
tries-is [] v d low = absurd (omega (arith, low))
tries-is (s ∷ ss) zero d low = refl
tries-is (s ∷ ss) (suc v) d low = tries-is ss v d (omega (arith, low))

-- a restart that failed counts
pub tries-after : {D O U : Type 0} (items : List (Station D O U)) (k v : ℕ) (s s2 : Station D O U) → k ≡ v → v < length items → slice_index_or items v s ≡ s → s2.restarts ≡ s.restarts + 1 → tries_at (slice_set items k s2) v ≡ tries_at items v + 1
tries-after {D} {O} {U} items k v s s2 at low is more =
    let before : tries_at items v ≡ s.restarts = tries-is items v s low ∙ ap (λ (x : Station D O U). x.restarts) is in
    let long : v < length (slice_set items k s2) = subst (λ (n : ℕ). v < n) (sym (length-set items k s2)) low in
    let after : tries_at (slice_set items k s2) v ≡ s2.restarts =
    tries-is (slice_set items k s2) v s2 long ∙ ap (λ (x : Station D O U). x.restarts) (ap (λ j. slice_index_or (slice_set items j s2) v s2) at ∙ get_or-set_same items v s2 s2 low) in
    omega (arith, before, after, more)

pub restart-tried : {D O U : Type 0} (told : Watched D → Option Story) (size : Watched D → ℕ) (g : Game) (v : ℕ) (given : List Packet) (n : Node) (doubt : Doubt) (old new : Station D O U) (result : Result (Unit {0}) NodeFault) → IsErrOf result Disk → RestartsStation told size result g v given n doubt old new → new.restarts ≡ old.restarts + 1
restart-tried told size g v given n doubt old new (Ok x) is b = absurd (cc)
restart-tried told size g v given n doubt old new (Err Disk) is b = b.2
restart-tried told size g v given n doubt old new (Err Memory) is b = absurd (cc)
restart-tried told size g v given n doubt old new (Err Outlet) is b = absurd b
restart-tried told size g v given n doubt old new (Err (Damaged disk place)) is b = absurd b

pub restart-failed : {D O U : Type 0} (told : Watched D → Option Story) (size : Watched D → ℕ) (g : Game) (v : ℕ) (given : List Packet) (n : Node) (doubt : Doubt) (old new : Station D O U) (result : Result (Unit {0}) NodeFault) (fault : NodeFault)
    → IsErrAnd result (λ e. e ≡ fault) → IsFaultOfWorker {T = ℕ} (Err fault) → IsDown told g v given n doubt new.node.stage → new.lines.items ≡ old.lines.items → new.restarts ≡ old.restarts + 1 → RestartsStation told size result g v given n doubt old new
restart-failed told size g v given n doubt old new (Ok x) fault same sound down lines tries = absurd same
restart-failed told size g v given n doubt old new (Err Disk) fault same sound down lines tries = (down, lines, tries)
restart-failed told size g v given n doubt old new (Err Memory) fault same sound down lines tries = tt
restart-failed told size g v given n doubt old new (Err Outlet) fault same sound down lines tries = absurd (subst (λ (x : NodeFault). IsFaultOfWorker {T = ℕ} (Err x)) (sym same) sound)
restart-failed told size g v given n doubt old new (Err (Damaged disk place)) fault same sound down lines tries = absurd (subst (λ (x : NodeFault). IsFaultOfWorker {T = ℕ} (Err x)) (sym same) sound)

module _ {D O U A : Type 0} (told : Watched D → Option Story) (size : Watched D → ℕ) (took : U → Option (List Out)) (handles : A → Handler) (g : Game) (made : ℕ) (r r2 : Run D O U A) (v : ℕ) (s s2 : Station D O U)
    (stopped : IsStopped told size took handles g made v r)
    (is : slice_index_or r.stations.items v s ≡ s) (same : (r2.nodes ≡ r.nodes) × (r2.app ≡ r.app)) (stations : r2.stations.items ≡ slice_set r.stations.items v s2) where
  pub down-before : IsDown told g v stopped.given (stopped.nodes v) stopped.doubt s.node.stage
  down-before = subst (λ (x : Station D O U). IsDown told g v stopped.given (stopped.nodes v) stopped.doubt x.node.stage) is (stopped.down s)

  module _ (waits : r2.waiting ≡ r.waiting) (kept : emissions_in s2.node.stage ≡ emissions_in s.node.stage) (rest : s2 ≡ record s { node = s2.node; restarts = s2.restarts; lines = s2.lines }) where
    both : (s2.mail ≡ s.mail) × (s2.acks ≡ s.acks)
    both = (ap (λ (x : Station D O U). x.mail) rest, ap (λ (x : Station D O U). x.acks) rest)

    as-emitted : HasEmitted took v (emitted_by v stopped.emissions ++ []) s2
    as-emitted = still-emitted told size took handles g made r r2 v s s2 stopped.nodes stopped.emissions stopped.stands stopped.known is same stations nothing refl kept (ap (λ (x : Station D O U). x.out) rest)

    pub restart-leaves : (result : Result (Unit {0}) NodeFault) → RestartsStation told size result g v stopped.given (stopped.nodes v) stopped.doubt s s2 → LeavesBy told size took handles result g made v r2
    restart-leaves (Ok x) b =
        let up = b.1.0 in
        alone-up told size took handles g made r r2 v s s2 stopped.nodes stopped.emissions stopped.stands stopped.known is same stations stopped.given up.call.events nothing up.after stopped.put waits up.call.run both as-emitted
        (record {
          limits = down-before.limits;
          known = down-before.known;
          handler = up.handler;
          patcher = up.patcher;
          sender = up.sender;
          stage_is = up.stage_is;
          whole = up.whole;
          empty = up.empty;
          unspent = up.unspent;
          tell = up.tell;
        })
        stopped.others
    restart-leaves (Err Disk) b =
        alone-down told size took handles g made r r2 v s s2 stopped.nodes stopped.emissions stopped.stands stopped.known is same stations stopped.given [] nothing (stopped.nodes v) stopped.doubt stopped.put waits (refl, refl) both as-emitted b.0 stopped.others
    restart-leaves (Err Memory) b = tt
    restart-leaves (Err Outlet) b = absurd b
    restart-leaves (Err (Damaged disk place)) b = absurd b
