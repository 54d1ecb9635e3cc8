-- How each call of a node moves the flow of its run.
use Rattle.std.proofs.Common.{◌≡◌, ◌≢◌, ℕ, ◌+◌, ◌-◌, ◌*◌, ◌<◌, ◌≤◌, ◌⊎◌, inl, inr, ⊎_elim, List, [], ◌∷◌, ◌++◌, length, map, All, Contains, slice_index_or, slice_set, Bool, true, false, Option, Some, None, Result, Ok, Err, refl, sym, ap, subst, ◌∙◌, arith, append-nil, length-append}
use Rattle.std.specs.Prelude.{IfSome, IsErrOf, IsSome, OnOk, slice_get, slice_index}
use Rattle.std.proofs.lemmas.Bool.{cases_eq}
use Rattle.std.proofs.lemmas.List.{get_or-map, get_or-set_same, get_or_default, length-map, map-append, map-set, same_lists}
use Rattle.std.proofs.lemmas.List.Elements.{All-nil}
use Rattle.std.proofs.lemmas.Option.{slice_get_cases, slice_get_within}
use Rattle.std.proofs.Math.Seq.{map-set_same}
use Rattle.ken_disk.specs.Story.{Story}
use Rattle.ken_model.specs.declared.messages.Out.{Out}
use Rattle.ken_model.specs.declared.reports.Emission.{Emission}
use Rattle.ken_model.specs.Emissions.{emitted_by}
use Rattle.ken_model.specs.Game.{Game}
use Rattle.ken_model.specs.Handler.{Handler}
use Rattle.ken_record.specs.declared.effects.Effects.{Effects}
use Rattle.ken_net.specs.Counts.{risen}
use Rattle.ken_net.specs.Inboxes.{all_filed}
use Rattle.ken_net.specs.Standings.{Standing, Leaving, after_puts, all_passed}
use Rattle.ken_core.specs.declared.events.Event.{Event}
use Rattle.ken_core.specs.declared.events.Event.TheVariants.{Emit as EmitEvent}
use Rattle.ken_core.specs.Calls.{Call, Doubt, IsEmit, no_doubt}
use Rattle.ken_core.specs.Clusters.{WasPut, emissions_by}
use Rattle.ken_core.specs.Nodes.{Node}
use Rattle.ken_core.specs.Packets.{Packet, Outgoing, nothing}
use Rattle.ken_core.specs.Runs.{NodeRun}
use Rattle.ken_core.specs.Steps.{emitted_node}
use Rattle.ken_core.specs.Turns.{outs_of}
use Rattle.ken_ship.specs.declared.emit.Emit.{Emit}
use Rattle.ken_ship.specs.declared.emit.Emit.TheVariants.{Done, Refused, Nothing}
use Rattle.ken_ship.specs.declared.faults.NodeFault.{NodeFault}
use Rattle.ken_ship.specs.declared.faults.NodeFault.TheVariants.{Disk, Damaged, Outlet, Memory}
use Rattle.ken_ship.specs.declared.hearing.TheConstants.{MOST_TAKEN}
use Rattle.ken_ship.specs.declared.items.Sealed.{Sealed}
use Rattle.ken_ship.specs.Handing.{with_turns}
use Rattle.ken_ship.specs.Laws.{IsDueOf, packets_from}
use Rattle.ken_ship.specs.Outlets.{also_took}
use Rattle.ken_ship.specs.Parts.{part_of}
use Rattle.ken_node.specs.declared.stage.Stage.{Stage}
use Rattle.ken_node.specs.declared.stage.Stage.TheVariants.{Uncreated, Created, Moved as MovedStage}
use Rattle.ken_node.specs.declared.watched.Watched.{Watched}
use Rattle.ken_node.specs.NodeCalls.{EmitStepsBy, EmitsNone, HearSteps, PatchStepsBy, SendSteps, SettleStepsBy}
use Rattle.ken_node.specs.Down.{IsDown, IsOfNode}
use Rattle.ken_node.specs.Remaining.{turns_to_make}
use Rattle.ken_node.specs.Stages.{emissions_in, refusals_in, turns_in}
use Rattle.ken_node.specs.Up.{IsUp}
use Rattle.ken_flow.specs.Groups.{group_of, with_node}
use Rattle.ken_flow.specs.Standstill.{AreShort, Emits, Flow, Heard, MakesNoTurn, Posted, Written, open_outs}
use Rattle.ken_run.specs.declared.inboxes.InFlight.{InFlight}
use Rattle.ken_run.specs.declared.run.Run.{Run}
use Rattle.ken_run.specs.declared.station.Station.{Station}
use Rattle.ken_run.specs.Ends.{WereGiven, WerePut}
use Rattle.ken_run.specs.Flowing.{Moved, flow_of, work_left}
use Rattle.ken_run.specs.Running.{IsRunning, StandsFor}
use Rattle.ken_run.specs.Stations.{HasEmitted}
use Rattle.ken_run.proofs.Calls.{acks-were, alone-stands, known, no-further, sender-stands, still-emitted}
use Rattle.ken_run.proofs.Fewer.{no-queue}
use Rattle.ken_run.proofs.Hearing.{Rises, hears}
use Rattle.ken_run.proofs.Leaving.{own-station, took-more}
use Rattle.ken_run.proofs.Lifted.{ups-after, with-here, with-other}
use Rattle.ken_run.proofs.Moves.{work-same, work-turn}
use Rattle.ken_run.proofs.Posting.{posts-first, posts-few, posts-for}
use Rattle.ken_run.proofs.Quiet.{run-quiet, sends-quiet}
use Rattle.ken_whole.proofs.Quietly.{none_keeps, patch_keeps_sending, patch_keeps_turns, sends_keep, sync_keeps_sending, sync_keeps_turns}

-- ---- a node that is up

module _ {D : Type 0} (told : D → Option Story) (size : D → ℕ) (g : Game) (v : ℕ) (n : Node) (stage : Stage D) (up : IsUp told size g v n stage) where
  pub to-make-is : turns_to_make stage ≡ g.turns - length n.turning.turns
  to-make-is =
      let workers = up.whole.workers in
      ap turns_to_make up.stage_is
      ∙ ap (λ (cap : ℕ). cap - length up.handler.turns.items) workers.of_run.cap
      ∙ ap (λ (ts : List Effects). g.turns - length ts) workers.turns.kept

  -- what is due of it waits at its externaliser
  pub due-of : IsDueOf g v n (part_of up.sender).due
  due-of =
      let sends = up.whole.workers.sends in
      let none : sends.queue ≡ [] = no-queue sends.ring up.empty.sealed.all in
      subst (λ (queue : List Sealed). IsDueOf g v n (with_turns v queue (part_of up.sender).due)) none sends.due

  pub refusals-few : refusals_in stage ≤ 64
  refusals-few = subst (λ (x : Stage D). refusals_in x ≤ 64) (sym up.stage_is) up.sender.counted

-- ---- a node that is down

to-make-in : {D : Type 0} (g : Game) (v : ℕ) (stage : Stage D) → IsOfNode g v stage → turns_to_make stage ≡ g.turns - length (turns_in stage)
to-make-in g v (Uncreated disks parts) is = ap (λ (cap : ℕ). cap - length parts.turns.items) is.cap
to-make-in g v (Created t p s) is = ap (λ (cap : ℕ). cap - length t.turns.items) is.0.cap
to-make-in g v MovedStage is = absurd is

pub down-to-make : {D : Type 0} (told : D → Option Story) (g : Game) (v : ℕ) (given : List Packet) (n : Node) (doubt : Doubt) (stage : Stage D) → IsDown told g v given n doubt stage → turns_to_make stage ≡ g.turns - length n.turning.turns
down-to-make told g v given n doubt stage down = to-make-in g v stage down.of_node ∙ ap (λ (ts : List Effects). g.turns - length ts) down.turns

-- ---- outputs

-- an output that is due
some-within : (outs : List Out) (k : ℕ) → IsSome (slice_get outs k) → k < length outs
some-within outs k some = by (slice_get outs k) refl some
  where
    by : (o : Option Out) → slice_get outs k ≡ o → IsSome o → k < length outs
    by (Some x) is some = slice_get_within outs k x is
    by None is some = absurd (cc)

none-past : (outs : List Out) (k : ℕ) → slice_get outs k ≡ None → length outs ≤ k
none-past outs k none = elim (slice_get_cases outs k).1 [
  | inl (x, low, is, at) ↦ absurd (let no : Some x ≡ None = sym is ∙ none in cc)
  | inr (high, is) ↦ high
]

-- the node after an emission
emitted-after : (g : Game) (v : ℕ) (n after : Node) (given : List Packet) (out : Outgoing) → Call g v given (IsEmit v) n out after → after ≡ emitted_node n
emitted-after g v n after given out call =
    let run : NodeRun g (Contains given) v n (EmitEvent v ∷ []) out after = subst (λ (es : List Event). NodeRun g (Contains given) v n es out after) call.which call.run in
    let step = run.1.1.1 in
    run.1.1.3.1 ∙ step.1.2

-- ---- flows

abbrev pub flow-made : (ℕ → Node) → List (List (List ℕ)) → List (List (List ℕ)) → List (List Standing) → List (List Standing) → List ℕ → Flow
flow-made ns m k ml kl rs = record { nodes = ns; mail = m; acks = k; mail_links = ml; ack_links = kl; refusals = rs }

pub same-flow : (ns : ℕ → Node) (m m2 k k2 : List (List (List ℕ))) (ml ml2 kl kl2 : List (List Standing)) (rs rs2 : List ℕ) → m ≡ m2 → k ≡ k2 → ml ≡ ml2 → kl ≡ kl2 → rs ≡ rs2 → flow-made ns m k ml kl rs ≡ flow-made ns m2 k2 ml2 kl2 rs2
same-flow ns m m2 k k2 ml ml2 kl kl2 rs rs2 a b c d e = cc

-- ---- inboxes

-- an inbox from which all was taken that could be is empty
pub emptied-box : (v nones : ℕ) (boxes boxes2 : List (List (List ℕ))) (given : List (List ℕ)) → AreShort boxes → WereGiven v nones boxes boxes2 given → (length given ≡ MOST_TAKEN) ⊎ (risen 0 ≤ nones) → slice_index_or boxes2 v [] ≡ []
emptied-box v nones boxes boxes2 given short gave until = ⊎_elim
    (λ (many : length given ≡ MOST_TAKEN).
    let few = short v in
    let all : length (slice_index_or boxes v []) ≡ length given + length (slice_index_or boxes2 v []) = ap (λ (x : List (List ℕ)). length x) gave.gave.front ∙ length-append given (slice_index_or boxes2 v []) in
    absurd (omega (arith, many, few, all)))
    (λ (some : risen 0 ≤ nones). gave.emptied (omega (arith, some)))
    until

-- nothing was taken
pub none-taken : (v nones : ℕ) (boxes boxes2 : List (List (List ℕ))) → WereGiven v nones boxes boxes2 [] → boxes2 ≡ boxes
none-taken v nones boxes boxes2 gave =
    same_lists boxes2 boxes gave.gave.count
    (λ k d low.
    let low2 : k < length boxes = let e = gave.gave.count in omega (arith, low, e) in
    let same : slice_index_or boxes2 k [] ≡ slice_index_or boxes k [] = ⊎_elim
    (λ (here : k ≡ v). subst (λ (x : ℕ). slice_index_or boxes2 x [] ≡ slice_index_or boxes x []) (sym here) (sym gave.gave.front))
    (λ other. gave.gave.others k other)
    (cases_eq k v) in
    get_or_default boxes2 k d [] low ∙ same ∙ get_or_default boxes k [] d low2)

module _ {D O U A : Type 0} (told : Watched D → Option Story) (size : Watched D → ℕ) (took : U → Option (List Out)) (handles : A → Handler) (g : Game) (made : ℕ) (r r2 : Run D O U A) (v : ℕ) (s s2 : Station D O U)
    (running : IsRunning told size took handles g made r) (low : v < made)
    (is : slice_index_or r.stations.items v s ≡ s) (same : (r2.nodes ≡ r.nodes) × (r2.app ≡ r.app)) (stations : r2.stations.items ≡ slice_set r.stations.items v s2) (most : r2.restarts ≡ r.restarts) where
  pub placed : v < length r.stations.items
  placed = subst (λ (k : ℕ). v < k) (sym running.stands.width) low

  pub own-up : IsUp told size g v (running.nodes v) s.node.stage
  own-up = subst (λ (x : Station D O U). IsUp told size g v (running.nodes v) x.node.stage) is (running.up v s low)

  pub others-up : (u : ℕ) (d : Station D O U) → u < made → u ≢ v → IsUp told size g u (running.nodes u) (slice_index_or r.stations.items u d).node.stage
  others-up u d below ne = running.up u d below

  pub below-all : v < g.nodes
  below-all = known told size took handles g made r r2 v s s2 running.nodes running.emissions running.stands low is same stations

  -- ---- a part of each station

  pub same-all : {X : Type 0} (f : Station D O U → X) → f s2 ≡ f s → map f r2.stations.items ≡ map f r.stations.items
  same-all f one = ap (λ (xs : List (Station D O U)). map f xs) stations ∙ map-set_same f r.stations.items v s2 s (one ∙ ap f (sym is))

  pub one-changed : {X : Type 0} (f : Station D O U → X) → map f r2.stations.items ≡ slice_set (map f r.stations.items) v (f s2)
  one-changed f = ap (λ (xs : List (Station D O U)). map f xs) stations ∙ map-set f r.stations.items v s2

  pub was-own : {X : Type 0} (f : Station D O U → X) (e : X) → slice_index_or (map f r.stations.items) v e ≡ f s
  was-own f e = get_or-map f r.stations.items v s e placed ∙ ap f is

  now-own : {X : Type 0} (f : Station D O U → X) (e : X) → slice_index_or (map f r2.stations.items) v e ≡ f s2
  now-own {X} f e = ap (λ (xs : List X). slice_index_or xs v e) (one-changed f) ∙ get_or-set_same (map f r.stations.items) v (f s2) e (subst (λ (k : ℕ). v < k) (sym (length-map r.stations.items f)) placed)

  -- ---- the node after the call

  pub no-turn : (after : Node) → after.turning.turns ≡ (running.nodes v).turning.turns → MakesNoTurn v running.nodes (with_node v after running.nodes)
  no-turn after kept = record {
    turns = ap (λ (x : Node). x.turning.turns) (with-here v after running.nodes) ∙ kept;
    others = λ u ne. with-other u v after running.nodes ne;
  }

  pub sending-kept : (after : Node) → after.sending ≡ (running.nodes v).sending → (with_node v after running.nodes v).sending ≡ (running.nodes v).sending
  sending-kept after kept = ap (λ (x : Node). x.sending) (with-here v after running.nodes) ∙ kept

  -- ---- the run after the call

  module _ (given : List Packet) (events : List Event) (out : Outgoing) (after : Node) (were : All (WasPut (group_of g running.nodes running.emissions)) given) (run : NodeRun g (Contains given) v (running.nodes v) events out after)
      (stands2 : StandsFor told size took handles g made (with_node v after running.nodes) (running.emissions ++ emissions_by v out.outs) r2) (up : IsUp told size g v after s2.node.stage) where
    abbrev pub now-is : IsRunning told size took handles g made r2
    now-is = record {
      nodes = with_node v after running.nodes;
      emissions = running.emissions ++ emissions_by v out.outs;
      stands = stands2;
      up = ups-after g running.nodes running.emissions v given events out after running.stands.accord below-all were run told size took handles made r r2 s2 running.stands low same stations up others-up;
    }

    pub moves-by : (how : Flow → Flow → Type 0) → s2.restarts ≡ s.restarts → after.turning.turns ≡ (running.nodes v).turning.turns → how (flow_of running.nodes r) (flow_of (with_node v after running.nodes) r2) → Moved told size took handles how g made r r2 running
    moves-by how tries kept moved =
        let to_make : turns_to_make s2.node.stage ≡ turns_to_make s.node.stage =
        to-make-is told size g v after s2.node.stage up ∙ ap (λ (ts : List Effects). g.turns - length ts) kept ∙ sym (to-make-is told size g v (running.nodes v) s.node.stage own-up) in
        record { now = now-is; moved = inr (work-same r r2 v s s2 placed is most stations tries to_make, moved) }

    -- or it made a turn
    pub moves-turn : (how : Flow → Flow → Type 0) → s2.restarts ≡ s.restarts → turns_to_make s2.node.stage < turns_to_make s.node.stage → Moved told size took handles how g made r r2 running
    moves-turn how tries fewer = record { now = now-is; moved = inl (work-turn r r2 v s s2 placed is most stations tries fewer) }

  -- a node that is down made no turn
  pub less-down : (given : List Packet) (after : Node) (doubt : Doubt) → IsDown told g v given after doubt s2.node.stage → after.turning.turns ≡ (running.nodes v).turning.turns → s2.restarts ≡ s.restarts → work_left r2 ≤ work_left r
  less-down given after doubt down kept tries =
      let to_make : turns_to_make s2.node.stage ≡ turns_to_make s.node.stage =
      down-to-make told g v given after doubt s2.node.stage down ∙ ap (λ (ts : List Effects). g.turns - length ts) kept ∙ sym (to-make-is told size g v (running.nodes v) s.node.stage own-up) in
      let less = work-same r r2 v s s2 placed is most stations tries to_make in
      omega (arith, less)

  -- ---- a call without the network that changes no numbers

  module _ (waits : r2.waiting ≡ r.waiting) (kept : emissions_in s2.node.stage ≡ emissions_in s.node.stage) (refused : refusals_in s2.node.stage ≡ refusals_in s.node.stage) (rest : s2 ≡ record s { node = s2.node }) where
    links : (s2.mail ≡ s.mail) × (s2.acks ≡ s.acks)
    links = (ap (λ (x : Station D O U). x.mail) rest, ap (λ (x : Station D O U). x.acks) rest)

    emitted : HasEmitted took v (emitted_by v running.emissions ++ []) s2
    emitted = still-emitted told size took handles g made r r2 v s s2 running.nodes running.emissions running.stands low is same stations nothing refl kept (ap (λ (x : Station D O U). x.out) rest)

    written : (events : List Event) (after : Node) → NodeRun g (Contains []) v (running.nodes v) events nothing after → IsUp told size g v after s2.node.stage → after.turning.turns ≡ (running.nodes v).turning.turns → after.sending ≡ (running.nodes v).sending
        → Moved told size took handles (Written v) g made r r2 running
    written events after run up turns sending =
        let were = All-nil (WasPut (group_of g running.nodes running.emissions)) in
        moves-by [] events nothing after were run
        (alone-stands told size took handles g made r r2 v s s2 running.nodes running.emissions running.stands low is same stations [] events nothing after were waits run links emitted) up (Written v) (ap (λ (x : Station D O U). x.restarts) rest) turns
        (record {
          no_turn = no-turn after turns;
          sending = sending-kept after sending;
          flow = same-flow (with_node v after running.nodes) r2.waiting.mail r.waiting.mail r2.waiting.acks r.waiting.acks _ _ _ _ _ _
              (ap (λ (x : InFlight). x.mail) waits) (ap (λ (x : InFlight). x.acks) waits)
              (same-all (λ (x : Station D O U). x.mail.links) (ap (λ (x : Leaving). x.links) links.0)) (same-all (λ (x : Station D O U). x.acks.links) (ap (λ (x : Leaving). x.links) links.1)) (same-all (λ (x : Station D O U). refusals_in x.node.stage) refused);
        })

    pub patch-moves : (result : Result Bool NodeFault) → PatchStepsBy told size result g v (running.nodes v) s2.node.stage → OnOk result (Moved told size took handles (Written v) g made r r2 running)
    patch-moves (Ok true) p = written p.call.events p.after p.call.run p.up (patch_keeps_turns g v [] (running.nodes v) p.after nothing p.call) (patch_keeps_sending g v [] (running.nodes v) p.after nothing p.call)
    patch-moves (Ok false) p =
        let steps = p.0 in
        let all : steps.after ≡ running.nodes v = none_keeps g v [] (running.nodes v) steps.after nothing steps.call in
        written steps.call.events steps.after steps.call.run steps.up (ap (λ (x : Node). x.turning.turns) all) (ap (λ (x : Node). x.sending) all)
    patch-moves (Err fault) p = tt

    pub patch-less : (result : Result Bool NodeFault) → IsErrOf result Disk → PatchStepsBy told size result g v (running.nodes v) s2.node.stage → work_left r2 ≤ work_left r
    patch-less (Ok b) was p = absurd (cc)
    patch-less (Err Disk) was p = less-down [] p.after no_doubt p.down (patch_keeps_turns g v [] (running.nodes v) p.after nothing p.call) (ap (λ (x : Station D O U). x.restarts) rest)
    patch-less (Err Memory) was p = absurd (cc)
    patch-less (Err Outlet) was p = absurd (cc)
    patch-less (Err (Damaged disk place)) was p = absurd (cc)

    pub settle-moves : (result : Result (Unit {0}) NodeFault) → SettleStepsBy told size result g v (running.nodes v) s2.node.stage → OnOk result (Moved told size took handles (Written v) g made r r2 running)
    settle-moves (Ok x) p = written p.call.events p.after p.call.run p.up (sync_keeps_turns g v [] (running.nodes v) p.after nothing p.call) (sync_keeps_sending g v [] (running.nodes v) p.after nothing p.call)
    settle-moves (Err fault) p = tt

    pub settle-less : (result : Result (Unit {0}) NodeFault) → IsErrOf result Disk → SettleStepsBy told size result g v (running.nodes v) s2.node.stage → work_left r2 ≤ work_left r
    settle-less (Ok b) was p = absurd (cc)
    settle-less (Err Disk) was p =
        let all : p.after ≡ running.nodes v = none_keeps g v [] (running.nodes v) p.after nothing p.call in
        less-down [] p.after no_doubt p.down (ap (λ (x : Node). x.turning.turns) all) (ap (λ (x : Station D O U). x.restarts) rest)
    settle-less (Err Memory) was p = absurd (cc)
    settle-less (Err Outlet) was p = absurd (cc)
    settle-less (Err (Damaged disk place)) was p = absurd (cc)

  -- ---- the externaliser

  pub send-moves : emissions_in s2.node.stage ≡ emissions_in s.node.stage → refusals_in s2.node.stage ≡ refusals_in s.node.stage → WereGiven v 0 r.waiting.acks r2.waiting.acks [] → s2 ≡ record s { node = s2.node; mail = s2.mail }
      → SendSteps told size g v (running.nodes v) (WerePut s.mail s2.mail r.waiting.mail r2.waiting.mail) s2.node.stage → Moved told size took handles (Posted g v) g made r r2 running
  send-moves kept refused gave rest p =
      let n : Node = running.nodes v in
      let after : Node = p.steps.after in
      let call = p.steps.call in
      let links : Station D O U → List Standing = λ x. x.mail.links in
      let all : p.steps.after ≡ running.nodes v = sends_keep g v [] (running.nodes v) p.steps.after p.out p.steps.call in
      let turns : p.steps.after.turning.turns ≡ (running.nodes v).turning.turns = ap (λ (x : Node). x.turning.turns) all in
      moves-by [] call.events p.out p.steps.after (acks-were told size took handles g made r r2 v s s2 running.nodes running.emissions running.stands low is same stations [] 0 gave) call.run
      (sender-stands told size took handles g made r r2 v s s2 running.nodes running.emissions running.stands low is same stations [] 0 p.puts call.events p.out p.steps.after gave p.were_put call.run p.steps.spelled
      (run-quiet g _ v (running.nodes v) call.events p.out p.steps.after (sends-quiet g v (running.nodes v) call.events call.which) call.run) kept rest) p.steps.up (Posted g v) (ap (λ (x : Station D O U). x.restarts) rest) turns
      (record {
        no_turn = no-turn p.steps.after turns;
        sending = sending-kept p.steps.after (ap (λ (x : Node). x.sending) all);
        puts = p.puts;
        known = posts-for g (Contains []) v (running.nodes v) p.steps.after call.events p.out call.which call.run p.puts p.steps.spelled;
        few = posts-few g (Contains []) v (running.nodes v) p.steps.after call.events p.out call.which call.run p.puts p.steps.spelled;
        first = posts-first g (Contains []) v (running.nodes v) p.steps.after call.events p.out call.which call.run p.puts p.steps.spelled;
        flow = same-flow (with_node v p.steps.after running.nodes) _ _ _ _ _ _ _ _ _ _
            (p.were_put.passed_on ∙ ap (λ (l : List Standing). all_filed (all_passed p.puts l) r.waiting.mail) (sym (was-own (λ (x : Station D O U). x.mail.links) [])))
            (none-taken v 0 r.waiting.acks r2.waiting.acks gave)
            (one-changed (λ (x : Station D O U). x.mail.links)
            ∙ ap (λ (l : List Standing). slice_set (map (λ (x : Station D O U). x.mail.links) r.stations.items) v l) (ap (λ (x : Leaving). x.links) p.were_put.links_are ∙ ap (λ (l : List Standing). after_puts p.puts l) (sym (was-own (λ (x : Station D O U). x.mail.links) []))))
            (same-all (λ (x : Station D O U). x.acks.links) (ap (λ (x : Station D O U). x.acks.links) rest))
            (same-all (λ (x : Station D O U). refusals_in x.node.stage) refused);
      })

  pub hear-moves : emissions_in s2.node.stage ≡ emissions_in s.node.stage → refusals_in s2.node.stage ≡ refusals_in s.node.stage → (nones : ℕ) → r2.waiting.mail ≡ r.waiting.mail → s2 ≡ record s { node = s2.node }
      → HearSteps told size g v (running.nodes v) (WereGiven v nones r.waiting.acks r2.waiting.acks) 0 nones s2.node.stage → Moved told size took handles (Heard g v) g made r r2 running
  hear-moves kept refused nones mail rest p =
      let packets = packets_from g.nodes p.given in
      let were = acks-were told size took handles g made r r2 v s s2 running.nodes running.emissions running.stands low is same stations p.given nones p.was_given in
      let steps = p.steps (no-further g running.nodes running.emissions v packets running.stands.accord below-all were) in
      let call = steps.call in
      let wide = due-of told size g v (running.nodes v) s.node.stage own-up in
      let heard : Rises v packets (running.nodes v) steps.after = hears g (Contains packets) v (running.nodes v) steps.after packets call.events nothing wide.width call.which call.run in
      let rises : Rises v packets (running.nodes v) (with_node v steps.after running.nodes v) = subst (Rises v packets (running.nodes v)) (sym (with-here v steps.after running.nodes)) heard in
      moves-by packets call.events nothing steps.after were call.run
      (sender-stands told size took handles g made r r2 v s s2 running.nodes running.emissions running.stands low is same stations p.given nones [] call.events nothing steps.after p.was_given
      (record { links_are = ap (λ (x : Station D O U). x.mail) rest; passed_on = mail }) call.run steps.spelled refl kept (rest ∙ ap (λ (x : Leaving). record s { node = s2.node; mail = x }) (sym (ap (λ (x : Station D O U). x.mail) rest))))
      steps.up (Heard g v) (ap (λ (x : Station D O U). x.restarts) rest) heard.turns
      (record {
        no_turn = no-turn steps.after heard.turns;
        given = p.given;
        gave = p.was_given.gave;
        emptied = emptied-box v nones r.waiting.acks r2.waiting.acks p.given running.stands.short.1 p.was_given p.until;
        width = rises.width;
        rises = rises.rises;
        taken = rises.taken;
        emitted = rises.emitted;
        flow = same-flow (with_node v steps.after running.nodes) _ _ r2.waiting.acks r2.waiting.acks _ _ _ _ _ _
            mail refl
            (same-all (λ (x : Station D O U). x.mail.links) (ap (λ (x : Station D O U). x.mail.links) rest))
            (same-all (λ (x : Station D O U). x.acks.links) (ap (λ (x : Station D O U). x.acks.links) rest))
            (same-all (λ (x : Station D O U). refusals_in x.node.stage) refused);
      })

  -- ---- an output

  module _ (rest : s2 ≡ record s { node = s2.node; out = s2.out }) (waits : r2.waiting ≡ r.waiting) where
    apart : (s2.mail ≡ s.mail) × (s2.acks ≡ s.acks)
    apart = (ap (λ (x : Station D O U). x.mail) rest, ap (λ (x : Station D O U). x.acks) rest)

    own-emitted : HasEmitted took v (emitted_by v running.emissions) s
    own-emitted = let own = own-station told size took handles g made r v s running low is in own.emitted

    abbrev refusals-of : Station D O U → ℕ
    refusals-of x = refusals_in x.node.stage

    was-open : open_outs (flow_of running.nodes r) v ≡ 65 * (length (outs_of (running.nodes v).turning.turns) - (running.nodes v).sending.emitted) - refusals_in s.node.stage
    was-open = ap (λ (k : ℕ). 65 * (length (outs_of (running.nodes v).turning.turns) - (running.nodes v).sending.emitted) - k) (was-own refusals-of 0)

    now-open : (after : Node) → open_outs (flow_of (with_node v after running.nodes) r2) v ≡ 65 * (length (outs_of after.turning.turns) - after.sending.emitted) - refusals_in s2.node.stage
    now-open after =
        ap (λ (x : Node). 65 * (length (outs_of x.turning.turns) - x.sending.emitted) - slice_index (map refusals-of r2.stations.items) v) (with-here v after running.nodes)
        ∙ ap (λ (k : ℕ). 65 * (length (outs_of after.turning.turns) - after.sending.emitted) - k) (now-own refusals-of 0)

    emits : (events : List Event) (out : Outgoing) (after : Node) → NodeRun g (Contains []) v (running.nodes v) events out after → IsUp told size g v after s2.node.stage → HasEmitted took v (emitted_by v running.emissions ++ out.outs) s2
        → after.turning.turns ≡ (running.nodes v).turning.turns → after.sending.acked ≡ (running.nodes v).sending.acked
        → (open_outs (flow_of (with_node v after running.nodes) r2) v < open_outs (flow_of running.nodes r) v) ⊎ ((open_outs (flow_of (with_node v after running.nodes) r2) v ≡ open_outs (flow_of running.nodes r) v) × (length (outs_of after.turning.turns) ≤ after.sending.emitted))
        → Moved told size took handles (Emits v) g made r r2 running
    emits events out after run up emitted turns acked how =
        let were = All-nil (WasPut (group_of g running.nodes running.emissions)) in
        let here : with_node v after running.nodes v ≡ after = with-here v after running.nodes in
        moves-by [] events out after were run
        (alone-stands told size took handles g made r r2 v s s2 running.nodes running.emissions running.stands low is same stations [] events out after were waits run apart emitted) up (Emits v) (ap (λ (x : Station D O U). x.restarts) rest) turns
        (record {
          no_turn = no-turn after turns;
          acked = ap (λ (x : Node). x.sending.acked) here ∙ acked;
          how = subst (λ (x : Node). (open_outs (flow_of (with_node v after running.nodes) r2) v < open_outs (flow_of running.nodes r) v) ⊎ ((open_outs (flow_of (with_node v after running.nodes) r2) v ≡ open_outs (flow_of running.nodes r) v) × (length (outs_of x.turning.turns) ≤ x.sending.emitted))) (sym here) how;
          flow = same-flow (with_node v after running.nodes) _ _ _ _ _ _ _ _ _ _
              (ap (λ (x : InFlight). x.mail) waits) (ap (λ (x : InFlight). x.acks) waits)
              (same-all (λ (x : Station D O U). x.mail.links) (ap (λ (x : Leaving). x.links) apart.0)) (same-all (λ (x : Station D O U). x.acks.links) (ap (λ (x : Leaving). x.links) apart.1))
              (one-changed refusals-of ∙ ap (λ (k : ℕ). slice_set (map refusals-of r.stations.items) v k) (sym (now-own refusals-of 0)));
        })

    nothing-emitted : (e : EmitsNone told size g v (running.nodes v) (λ (taken : List Out). took s2.out ≡ also_took taken (took s.out)) s.node.stage s2.node.stage) → HasEmitted took v (emitted_by v running.emissions ++ []) s2
    nothing-emitted e = record {
      kept = e.emitted ∙ own-emitted.kept ∙ ap (emissions_by v) (sym (append-nil (emitted_by v running.emissions)));
      took_it = subst (λ (t : Option (List Out)). IfSome t (λ told. told ≡ emitted_by v running.emissions ++ [])) (sym e.taken) (subst (λ (os : List Out). IfSome (took s.out) (λ told. told ≡ os)) (sym (append-nil (emitted_by v running.emissions))) own-emitted.took_it);
    }

    pub emit-moves : (result : Result Emit NodeFault) → EmitStepsBy told size result g v (running.nodes v) (λ (taken : List Out). took s2.out ≡ also_took taken (took s.out)) s.node.stage s2.node.stage → OnOk result (Moved told size took handles (Emits v) g made r r2 running)
    emit-moves (Ok (Done number)) e =
        let steps = e.steps in
        let out : Outgoing = record { puts = []; outs = e.out ∷ [] } in
        let after : Node = steps.after in
        let emitted_is : steps.after ≡ emitted_node (running.nodes v) = emitted-after g v (running.nodes v) steps.after [] (record { puts = []; outs = e.out ∷ [] }) steps.call in
        let within = slice_get_within (outs_of (running.nodes v).turning.turns) (running.nodes v).sending.emitted e.out e.was_due in
        let few = refusals-few told size g v (running.nodes v) s.node.stage own-up in
        let was = was-open in
        let now : open_outs (flow_of (with_node v steps.after running.nodes) r2) v ≡ 65 * (length (outs_of (running.nodes v).turning.turns) - ((running.nodes v).sending.emitted + 1)) - 0 =
        now-open steps.after ∙ ap (λ (x : Node). 65 * (length (outs_of x.turning.turns) - x.sending.emitted) - refusals_in s2.node.stage) emitted_is
        ∙ ap (λ (k : ℕ). 65 * (length (outs_of (running.nodes v).turning.turns) - ((running.nodes v).sending.emitted + 1)) - k) e.refusals in
        emits steps.call.events (record { puts = []; outs = e.out ∷ [] }) steps.after steps.call.run steps.up
        (record {
          kept = e.emitted ∙ ap (λ (es : List Emission). es ++ record { node = v; out = e.out } ∷ []) own-emitted.kept ∙ sym (map-append (λ (o : Out). let x : Emission = record { node = v; out = o } in x) (emitted_by v running.emissions) (e.out ∷ []));
          took_it = subst (λ (t : Option (List Out)). IfSome t (λ told. told ≡ emitted_by v running.emissions ++ e.out ∷ [])) (sym e.taken) (took-more (took s.out) (emitted_by v running.emissions) e.out own-emitted.took_it);
        })
        (ap (λ (x : Node). x.turning.turns) emitted_is) (ap (λ (x : Node). x.sending.acked) emitted_is)
        (inl (omega (arith, within, few, was, now)))
    emit-moves (Ok Refused) e =
        let steps = e.0.steps in
        let all : steps.after ≡ running.nodes v = none_keeps g v [] (running.nodes v) steps.after nothing steps.call in
        let within = some-within (outs_of (running.nodes v).turning.turns) (running.nodes v).sending.emitted e.1 in
        let was = was-open in
        let few : refusals_in s.node.stage < 64 = e.2 in
        let now : open_outs (flow_of (with_node v steps.after running.nodes) r2) v ≡ 65 * (length (outs_of (running.nodes v).turning.turns) - (running.nodes v).sending.emitted) - (refusals_in s.node.stage + 1) =
        now-open steps.after ∙ ap (λ (x : Node). 65 * (length (outs_of x.turning.turns) - x.sending.emitted) - refusals_in s2.node.stage) all
        ∙ ap (λ (k : ℕ). 65 * (length (outs_of (running.nodes v).turning.turns) - (running.nodes v).sending.emitted) - k) e.3 in
        emits steps.call.events nothing steps.after steps.call.run steps.up (nothing-emitted e.0) (ap (λ (x : Node). x.turning.turns) all) (ap (λ (x : Node). x.sending.acked) all)
        (inl (omega (arith, within, few, was, now)))
    emit-moves (Ok Nothing) e =
        let steps = e.0.steps in
        let all : steps.after ≡ running.nodes v = none_keeps g v [] (running.nodes v) steps.after nothing steps.call in
        let past : length (outs_of (running.nodes v).turning.turns) ≤ (running.nodes v).sending.emitted = none-past (outs_of (running.nodes v).turning.turns) (running.nodes v).sending.emitted e.1 in
        let now : open_outs (flow_of (with_node v steps.after running.nodes) r2) v ≡ open_outs (flow_of running.nodes r) v =
        now-open steps.after ∙ ap (λ (x : Node). 65 * (length (outs_of x.turning.turns) - x.sending.emitted) - refusals_in s2.node.stage) all
        ∙ ap (λ (k : ℕ). 65 * (length (outs_of (running.nodes v).turning.turns) - (running.nodes v).sending.emitted) - k) e.2 ∙ sym was-open in
        emits steps.call.events nothing steps.after steps.call.run steps.up (nothing-emitted e.0) (ap (λ (x : Node). x.turning.turns) all) (ap (λ (x : Node). x.sending.acked) all)
        (inr (now, subst (λ (x : Node). length (outs_of x.turning.turns) ≤ x.sending.emitted) (sym all) past))
    emit-moves (Err fault) e = tt

    pub emit-less : (result : Result Emit NodeFault) → IsErrOf result Disk → EmitStepsBy told size result g v (running.nodes v) (λ (taken : List Out). took s2.out ≡ also_took taken (took s.out)) s.node.stage s2.node.stage → work_left r2 ≤ work_left r
    emit-less (Ok x) was e = absurd (cc)
    emit-less (Err Disk) was e = absurd e
    emit-less (Err Memory) was e = absurd (cc)
    emit-less (Err Outlet) was e = absurd (cc)
    emit-less (Err (Damaged disk place)) was e = absurd (cc)
