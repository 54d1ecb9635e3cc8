-- How a call of a node's handler moves the flow of its run.
use Rattle.std.proofs.Common.{◌≡◌, ℕ, ◌+◌, ◌*◌, ◌^◌, ◌<◌, ◌≤◌, ◌⊎◌, inl, inr, ⊎_elim, List, [], ◌∷◌, length, map, Contains, slice_index_or, slice_set, Option, Result, Ok, Err, refl, sym, ap, subst, ◌∙◌, arith}
use Rattle.std.specs.Prelude.{IfOk, IsErrOf, OnOk}
use Rattle.std.specs.List.{AllByRecursion}
use Rattle.std.proofs.lemmas.List.{length-set}
use Rattle.std.proofs.lemmas.List.Elements.{All-contains, All-from_recursion}
use Rattle.ken_disk.specs.Story.{Story}
use Rattle.ken_model.specs.declared.messages.Out.{Out}
use Rattle.ken_model.specs.declared.facts.TheConstants.{MAX_NODES, MAX_TURNS}
use Rattle.ken_model.specs.Game.{Game}
use Rattle.ken_model.specs.Handler.{Handler}
use Rattle.ken_model.specs.Network.{inputs_for, outside}
use Rattle.ken_record.specs.declared.effects.Effects.{Effects}
use Rattle.ken_net.specs.Inboxes.{all_filed}
use Rattle.ken_net.specs.Puts.{Put}
use Rattle.ken_net.specs.Standings.{Leaving, Standing, after_puts, all_passed}
use Rattle.ken_core.specs.Nodes.{Node}
use Rattle.ken_core.specs.Packets.{Mail, nothing}
use Rattle.ken_core.specs.Turns.{consumed_from, stamp_after}
use Rattle.ken_ship.specs.declared.faults.NodeFault.{NodeFault}
use Rattle.ken_ship.specs.declared.faults.NodeFault.TheVariants.{Disk, Damaged, Outlet, Memory}
use Rattle.ken_ship.specs.Laws.{packets_from}
use Rattle.ken_work.specs.declared.took.Took.{Took}
use Rattle.ken_work.specs.declared.took.Took.TheVariants.{Turn, Idle, Capped}
use Rattle.ken_node.specs.declared.watched.Watched.{Watched}
use Rattle.ken_work.specs.declared.worker.TurnWorker.{TurnWorker}
use Rattle.ken_node.specs.NodeTurns.{CappedSteps, IdleSteps, IsNotNext, SealFails, TurnoverFails, TurnSteps, TurnStepsBy}
use Rattle.ken_node.specs.Remaining.{turns_to_make}
use Rattle.ken_work.specs.Sealing.{is_full}
use Rattle.ken_node.specs.Stages.{emissions_in, refusals_in}
use Rattle.ken_node.specs.Up.{IsUp}
use Rattle.ken_flow.specs.Groups.{with_node}
use Rattle.ken_flow.specs.Standstill.{IsAnswered, IsIdle, IsOver, Rested}
use Rattle.ken_flow.proofs.Stamps.{stamps_are_low}
use Rattle.ken_run.specs.declared.run.Run.{Run}
use Rattle.ken_run.specs.declared.station.Station.{Station}
use Rattle.ken_run.specs.Ends.{WereGiven, WerePut}
use Rattle.ken_run.specs.Flowing.{Moved, flow_of, work_left}
use Rattle.ken_run.specs.Left.{left_at, turns_left}
use Rattle.ken_run.specs.Patched.{HasNoInput, MakesNone}
use Rattle.ken_run.specs.Running.{IsRunning}
use Rattle.ken_run.proofs.Calls.{handler-stands, mail-were}
use Rattle.ken_run.proofs.Fewer.{turns-left-are}
use Rattle.ken_run.proofs.Leaving.{left-is, turn-fewer}
use Rattle.ken_run.proofs.Moves.{work-turn}
use Rattle.ken_run.proofs.Moving.{emptied-box, less-down, moves-by, moves-turn, no-turn, none-taken, one-changed, own-up, placed, same-all, same-flow, sending-kept, to-make-is, was-own}
use Rattle.ken_run.proofs.Patched.{station-now, up-no-input}
use Rattle.ken_run.proofs.Quiet.{idle-quiet, run-quiet, turn-quiet}
use Rattle.ken_whole.proofs.Quietly.{idle_keeps_turns, none_keeps}
use Rattle.ken_run.proofs.Within.{puts-within}

stamp-low : (most stamp : ℕ) (es : List Effects) → stamp ≤ most → AllByRecursion (λ (e : Effects). e.stamp ≤ most) es → stamp_after stamp es ≤ most
stamp-low most stamp [] low all = low
stamp-low most stamp (e ∷ es) low all = stamp-low most e.stamp es all.0 all.1

module _ {D O U A : Type 0} (told : Watched D → Option Story) (size : Watched D → ℕ) (took : U → Option (List Out)) (handles : A → Handler) (g : Game) (made : ℕ) (r r2 : Run D O U A) (v : ℕ) (s s2 : Station D O U)
    (running : IsRunning told size took handles g made r) (low : v < made)
    (is : slice_index_or r.stations.items v s ≡ s) (same : (r2.nodes ≡ r.nodes) × (r2.app ≡ r.app)) (stations : r2.stations.items ≡ slice_set r.stations.items v s2) (most : r2.restarts ≡ r.restarts)
    (nones : ℕ) (drew : List ℕ → Type 0) (handler : TurnWorker (Watched D)) (kept : emissions_in s2.node.stage ≡ emissions_in s.node.stage) (refused : refusals_in s2.node.stage ≡ refusals_in s.node.stage) (rest : s2 ≡ record s { node = s2.node; luck = s2.luck; acks = s2.acks }) where
  tries : s2.restarts ≡ s.restarts
  tries = ap (λ (x : Station D O U). x.restarts) rest

  abbrev Gave : List (List ℕ) → Type 0
  Gave given = WereGiven v nones r.waiting.mail r2.waiting.mail given

  abbrev WasPutBy : List Put → Type 0
  WasPutBy puts = WerePut s.acks s2.acks r.waiting.acks r2.waiting.acks puts

  abbrev links-of : Station D O U → List Standing
  links-of x = x.acks.links

  -- what was put is on the links, and what these passed on in the inboxes
  links-after : (puts : List Put) → WasPutBy puts → map (λ (x : Station D O U). x.acks.links) r2.stations.items ≡ slice_set (map (λ (x : Station D O U). x.acks.links) r.stations.items) v (after_puts puts (slice_index_or (map (λ (x : Station D O U). x.acks.links) r.stations.items) v []))
  links-after puts put =
      one-changed told size took handles g made r r2 v s s2 running low is same stations most (λ (x : Station D O U). x.acks.links)
      ∙ ap (λ (l : List Standing). slice_set (map (λ (x : Station D O U). x.acks.links) r.stations.items) v l) (ap (λ (x : Leaving). x.links) put.links_are ∙ ap (λ (l : List Standing). after_puts puts l) (sym (was-own told size took handles g made r r2 v s s2 running low is same stations most (λ (x : Station D O U). x.acks.links) [])))

  boxes-after : (puts : List Put) → WasPutBy puts → r2.waiting.acks ≡ all_filed (all_passed puts (slice_index_or (map (λ (x : Station D O U). x.acks.links) r.stations.items) v [])) r.waiting.acks
  boxes-after puts put = put.passed_on ∙ ap (λ (l : List Standing). all_filed (all_passed puts l) r.waiting.acks) (sym (was-own told size took handles g made r r2 v s s2 running low is same stations most (λ (x : Station D O U). x.acks.links) []))

  mail-same : map (λ (x : Station D O U). x.mail.links) r2.stations.items ≡ map (λ (x : Station D O U). x.mail.links) r.stations.items
  mail-same = same-all told size took handles g made r r2 v s s2 running low is same stations most (λ (x : Station D O U). x.mail.links) (ap (λ (x : Station D O U). x.mail.links) rest)

  refusals-same : map (λ (x : Station D O U). refusals_in x.node.stage) r2.stations.items ≡ map (λ (x : Station D O U). refusals_in x.node.stage) r.stations.items
  refusals-same = same-all told size took handles g made r r2 v s s2 running low is same stations most (λ (x : Station D O U). refusals_in x.node.stage) refused

  -- nothing waited
  idle-moves : IdleSteps told size g v (running.nodes v) Gave WasPutBy 0 nones handler s2.node.stage → Moved told size took handles (Rested g v) g made r r2 running
  idle-moves t =
      let h = t.call in
      let after : Node = t.call.steps.after in
      let call = t.call.steps.call in
      let packets = packets_from g.nodes t.call.given in
      let were = mail-were told size took handles g made r r2 v s s2 running.nodes running.emissions running.stands low is same stations t.call.given nones t.call.was_given in
      let stands2 = handler-stands told size took handles g made r r2 v s s2 running.nodes running.emissions running.stands low is same stations t.call.given nones t.call.puts call.events t.call.out t.call.steps.after
      t.call.was_given t.call.were_put call.run t.call.steps.spelled (run-quiet g _ v (running.nodes v) call.events t.call.out t.call.steps.after (idle-quiet v (is_full handler.side) call.events call.which) call.run) kept rest in
      let idle : IsIdle g v (flow_of running.nodes r) (flow_of (with_node v t.call.steps.after running.nodes) r2) = record {
        given = t.call.given;
        gave = t.call.was_given.gave;
        unmade = t.unmade;
        emptied = emptied-box v nones r.waiting.mail r2.waiting.mail t.call.given running.stands.short.0 t.call.was_given t.until;
        none_next = λ m one to next.
            All-contains (IsNotNext v t.call.steps.after) packets (Mail m) (All-from_recursion (IsNotNext v t.call.steps.after) packets t.none_next) one to
            (next ∙ ap (λ (ts : List Effects). consumed_from m.from ts + 1) (sym t.same_turns));
        no_input = subst (λ (ts : List Effects). length (inputs_for g v) ≤ consumed_from outside ts) t.same_turns t.no_input;
        puts = t.call.puts;
        few = t.few;
        known = puts-within g (Contains packets) v (running.nodes v) t.call.steps.after call.events t.call.out t.call.puts call.run t.call.steps.spelled;
        again = λ m one to old. let x = t.again m one to old in let a : IsAnswered g v (running.nodes v) t.call.puts m.from = record { put = x.put; one = x.one; to = x.to; bytes = x.packet } in a;
        flow = same-flow (with_node v t.call.steps.after running.nodes) r2.waiting.mail r2.waiting.mail _ _ _ _ _ _ _ _
            refl (boxes-after t.call.puts t.call.were_put) mail-same (links-after t.call.puts t.call.were_put) refusals-same;
      } in
      moves-by told size took handles g made r r2 v s s2 running low is same stations most packets call.events t.call.out t.call.steps.after were call.run stands2 t.call.steps.up (Rested g v) tries t.same_turns
      (record {
        no_turn = no-turn told size took handles g made r r2 v s s2 running low is same stations most t.call.steps.after t.same_turns;
        sending = sending-kept told size took handles g made r r2 v s s2 running low is same stations most t.call.steps.after t.same_sending;
        how = inl idle;
      })

  -- no stamp is high
  over-turns : (g.turns ≤ length (running.nodes v).turning.turns) ⊎ (2 ^ 63 ≤ stamp_after 0 (running.nodes v).turning.turns) → g.turns ≤ length (running.nodes v).turning.turns
  over-turns (inl made) = made
  over-turns (inr high) =
      let early = stamps_are_low g running.nodes running.emissions running.stands.limits running.stands.accord in
      let low = stamp-low (MAX_NODES * MAX_TURNS) 0 (running.nodes v).turning.turns (omega arith) (early.stamps v) in
      absurd (omega (arith, low, high))

  -- no turn is made any more
  capped-moves : g.turns ≤ length (running.nodes v).turning.turns → CappedSteps told size g v (running.nodes v) Gave WasPutBy handler s2.node.stage → Moved told size took handles (Rested g v) g made r r2 running
  capped-moves over t =
      let after : Node = t.steps.after in
      let call = t.steps.call in
      let all : t.steps.after ≡ running.nodes v = none_keeps g v [] (running.nodes v) t.steps.after nothing t.steps.call in
      let were = mail-were told size took handles g made r r2 v s s2 running.nodes running.emissions running.stands low is same stations [] nones t.none_given in
      let stands2 = handler-stands told size took handles g made r r2 v s s2 running.nodes running.emissions running.stands low is same stations [] nones [] call.events nothing t.steps.after
      t.none_given t.none_put call.run t.steps.spelled refl kept rest in
      let over_is : IsOver g v (flow_of running.nodes r) (flow_of (with_node v t.steps.after running.nodes) r2) = record {
        made = over;
        flow = same-flow (with_node v t.steps.after running.nodes) _ _ _ _ _ _ _ _ _ _
            (none-taken v nones r.waiting.mail r2.waiting.mail t.none_given) t.none_put.passed_on mail-same
            (same-all told size took handles g made r r2 v s s2 running low is same stations most (λ (x : Station D O U). x.acks.links) (ap (λ (x : Leaving). x.links) t.none_put.links_are)) refusals-same;
      } in
      moves-by told size took handles g made r r2 v s s2 running low is same stations most [] call.events nothing t.steps.after were call.run stands2 t.steps.up (Rested g v) tries (ap (λ (x : Node). x.turning.turns) all)
      (record {
        no_turn = no-turn told size took handles g made r r2 v s s2 running low is same stations most t.steps.after (ap (λ (x : Node). x.turning.turns) all);
        sending = sending-kept told size took handles g made r r2 v s s2 running low is same stations most t.steps.after (ap (λ (x : Node). x.sending) all);
        how = inr over_is;
      })

  -- a turn was made
  turned-moves : TurnSteps told size g v (running.nodes v) Gave WasPutBy drew 0 nones handler s2.node.stage → turns_to_make s2.node.stage < turns_to_make s.node.stage → Moved told size took handles (Rested g v) g made r r2 running
  turned-moves t fewer =
      let call = t.call.steps.call in
      let packets = packets_from g.nodes t.call.given in
      let were = mail-were told size took handles g made r r2 v s s2 running.nodes running.emissions running.stands low is same stations t.call.given nones t.call.was_given in
      let stands2 = handler-stands told size took handles g made r r2 v s s2 running.nodes running.emissions running.stands low is same stations t.call.given nones t.call.puts call.events t.call.out t.call.steps.after
      t.call.was_given t.call.were_put call.run t.call.steps.spelled (run-quiet g _ v (running.nodes v) call.events t.call.out t.call.steps.after (turn-quiet v (is_full handler.side) call.events call.which) call.run) kept rest in
      moves-turn told size took handles g made r r2 v s s2 running low is same stations most packets call.events t.call.out t.call.steps.after were call.run stands2 t.call.steps.up (Rested g v) tries fewer

  fewer-to-make : TurnSteps told size g v (running.nodes v) Gave WasPutBy drew 0 nones handler s2.node.stage → turns_to_make s2.node.stage < turns_to_make s.node.stage
  fewer-to-make t =
      let less = turn-fewer told size took handles g made r r2 v s s2 running low is same stations nones drew handler kept rest (Ok Turn) refl t in
      let own = own-up told size took handles g made r r2 v s s2 running low is same stations most in
      let was = to-make-is told size g v (running.nodes v) s.node.stage own in
      let was2 = turns-left-are told size g v (running.nodes v) s.node.stage own in
      let now = to-make-is told size g v t.call.steps.after s2.node.stage t.call.steps.up in
      let now2 = turns-left-are told size g v t.call.steps.after s2.node.stage t.call.steps.up in
      omega (arith, less, was, was2, now, now2)

  pub turn-moves : (result : Result Took NodeFault) → TurnStepsBy told size g v (running.nodes v) Gave WasPutBy result drew 0 nones handler s2.node.stage → OnOk result (Moved told size took handles (Rested g v) g made r r2 running)
  turn-moves (Ok Turn) t = turned-moves t (fewer-to-make t)
  turn-moves (Ok Idle) t = idle-moves t
  turn-moves (Ok Capped) t = capped-moves (over-turns t.over) t
  turn-moves (Err fault) t = tt

  -- a turn takes work away
  pub turn-worked : (result : Result Took NodeFault) → result ≡ Ok Turn → TurnStepsBy told size g v (running.nodes v) Gave WasPutBy result drew 0 nones handler s2.node.stage → work_left r2 < work_left r
  turn-worked (Ok Turn) was t = work-turn r r2 v s s2 (placed told size took handles g made r r2 v s s2 running low is same stations most) is most stations tries (fewer-to-make t)
  turn-worked (Ok Idle) was t = absurd (cc)
  turn-worked (Ok Capped) was t = absurd (cc)
  turn-worked (Err fault) was t = absurd (cc)

  pub turn-less : (result : Result Took NodeFault) → IsErrOf result Disk → TurnStepsBy told size g v (running.nodes v) Gave WasPutBy result drew 0 nones handler s2.node.stage → work_left r2 ≤ work_left r
  turn-less (Ok x) was t = absurd (cc)
  turn-less (Err Disk) was t = ⊎_elim
      (λ (f : TurnoverFails told size g v (running.nodes v) Gave WasPutBy s2.node.stage).
      let all : f.down.after ≡ running.nodes v = none_keeps g v [] (running.nodes v) f.down.after nothing f.down.call in
      less-down told size took handles g made r r2 v s s2 running low is same stations most [] f.down.after _ f.down.down (ap (λ (x : Node). x.turning.turns) all) tries)
      (λ (f : SealFails told size g v (running.nodes v) Gave WasPutBy drew handler s2.node.stage).
      less-down told size took handles g made r r2 v s s2 running low is same stations most (packets_from g.nodes f.given) f.down.after _ f.down.down (idle_keeps_turns g v (packets_from g.nodes f.given) (running.nodes v) f.down.after f.out (is_full handler.side) f.down.call) tries)
      t
  turn-less (Err Memory) was t = absurd (cc)
  turn-less (Err Outlet) was t = absurd (cc)
  turn-less (Err (Damaged disk place)) was t = absurd (cc)

  -- ---- a call that made no turn: none can be made now

  own-now : (d : Station D O U) → slice_index_or r2.stations.items v d ≡ s2
  own-now d = station-now v v r r2 s s2 refl (placed told size took handles g made r r2 v s s2 running low is same stations most) is stations d

  made-none : (after : Node) → IsUp told size g v after s2.node.stage → g.turns ≤ length after.turning.turns → left_at turns_left r2.stations.items v ≡ 0
  made-none after up over =
      let low2 : v < length r2.stations.items = subst (λ (k : ℕ). v < k) (sym (ap length stations ∙ length-set r.stations.items v s2)) (placed told size took handles g made r r2 v s s2 running low is same stations most) in
      let left = left-is turns_left r2.stations.items v s low2 ∙ ap (λ (x : Station D O U). turns_left x.node.stage) (own-now s) ∙ turns-left-are told size g v after s2.node.stage up in
      omega (arith, left, over)

  pub turn-rests : (result : Result Took NodeFault) → TurnStepsBy told size g v (running.nodes v) Gave WasPutBy result drew 0 nones handler s2.node.stage → IfOk result (λ took. (took ≡ Turn) ⊎ MakesNone v r2)
  turn-rests (Ok Turn) t = inl refl
  turn-rests (Ok Idle) t =
      inr (inr (
        emptied-box v nones r.waiting.mail r2.waiting.mail t.call.given running.stands.short.0 t.call.was_given t.until,
        (λ d. subst (λ (x : Station D O U). HasNoInput x.node.stage) (sym (own-now d)) (up-no-input told size g v t.call.steps.after s2.node.stage t.call.steps.up t.no_input)),
      ))
  turn-rests (Ok Capped) t =
      let over = over-turns t.over in
      let kept : length t.steps.after.turning.turns ≡ length (running.nodes v).turning.turns = ap (λ (x : Node). length x.turning.turns) t.same in
      inr (inl (made-none t.steps.after t.steps.up (omega (arith, over, kept))))
  turn-rests (Err fault) t = tt
