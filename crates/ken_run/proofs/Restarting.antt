-- A restart takes work away.
use Rattle.std.proofs.Common.{◌≡◌, ℕ, ◌-◌, ◌<◌, ◌≤◌, List, [], ◌∷◌, ◌++◌, length, Contains, slice_index_or, slice_set, true, false, Option, Result, Ok, Err, sym, ap, subst, ◌∙◌, arith}
use Rattle.std.proofs.lemmas.List.{length_push}
use Rattle.ken_disk.specs.Story.{Story}
use Rattle.ken_model.specs.declared.messages.Out.{Out}
use Rattle.ken_model.specs.Game.{Game}
use Rattle.ken_model.specs.Handler.{Handler}
use Rattle.ken_record.specs.declared.effects.Effects.{Effects}
use Rattle.ken_core.specs.declared.events.Event.{Event}
use Rattle.ken_core.specs.declared.events.Event.TheVariants.{Seal, SealCut, Patch, SyncImage, Turnover, Send, Ack, TakeAck, Emit, Crash, Recover}
use Rattle.ken_core.specs.declared.events.Outcome.TheVariants.{Whole, Landed, Lost}
use Rattle.ken_core.specs.Nodes.{Node}
use Rattle.ken_core.specs.Packets.{Outgoing, Packet, nothing}
use Rattle.ken_core.specs.Runs.{NodeRun}
use Rattle.ken_core.specs.Steps.{NodeStep}
use Rattle.ken_core.specs.Turns.{effects_of}
use Rattle.ken_ship.specs.declared.faults.NodeFault.{NodeFault}
use Rattle.ken_ship.specs.declared.faults.NodeFault.TheVariants.{Disk, Damaged, Outlet, Memory}
use Rattle.ken_node.specs.declared.watched.Watched.{Watched}
use Rattle.ken_node.specs.NodeCalls.{UnlessMemory}
use Rattle.ken_node.specs.Remaining.{turns_to_make}
use Rattle.ken_node.specs.Up.{IsUp}
use Rattle.ken_run.specs.declared.run.Run.{Run}
use Rattle.ken_run.specs.declared.station.Station.{Station}
use Rattle.ken_run.specs.Flowing.{work_left}
use Rattle.ken_run.specs.Running.{IsStopped}
use Rattle.ken_run.specs.Stations.{RestartsStation}
use Rattle.ken_run.proofs.Leaving.{down-before}
use Rattle.ken_run.proofs.Moves.{work-try}
use Rattle.ken_run.proofs.Moving.{down-to-make, to-make-is}

-- no event takes a turn away
same-long : (ts us : List Effects) → us ≡ ts → length ts ≤ length us
same-long ts us same = let e = ap (λ (xs : List Effects). length xs) same in omega (arith, e)

one-longer : (ts us : List Effects) (t : Effects) → us ≡ ts ++ t ∷ [] → length ts ≤ length us
one-longer ts us t same = let e = ap (λ (xs : List Effects). length xs) same ∙ length_push ts t in omega (arith, e)

module _ (g : Game) (put : Packet → Type 0) (v : ℕ) where
  step-grows : (n n2 : Node) (e : Event) → NodeStep g put v n e n2 → length n.turning.turns ≤ length n2.turning.turns
  step-grows n n2 (Seal node from draws pages) step = one-longer n.turning.turns n2.turning.turns (effects_of v n.turning.turns step.0) (ap (λ (m : Node). m.turning.turns) step.1.1)
  step-grows n n2 (SealCut node from draws pages true) step = one-longer n.turning.turns n2.turning.turns (effects_of v n.turning.turns step.0) (ap (λ (m : Node). m.turning.turns) step.1.1)
  step-grows n n2 (SealCut node from draws pages false) step = same-long n.turning.turns n2.turning.turns (ap (λ (m : Node). m.turning.turns) step.1.1)
  step-grows n n2 (Patch node page) step = same-long n.turning.turns n2.turning.turns (ap (λ (m : Node). m.turning.turns) step.1.1.1.2)
  step-grows n n2 (SyncImage node) step = same-long n.turning.turns n2.turning.turns (ap (λ (m : Node). m.turning.turns) step.1)
  step-grows n n2 (Turnover node Whole told) step = same-long n.turning.turns n2.turning.turns (ap (λ (m : Node). m.turning.turns) step.1)
  step-grows n n2 (Turnover node Landed told) step = same-long n.turning.turns n2.turning.turns (ap (λ (m : Node). m.turning.turns) step.1)
  step-grows n n2 (Turnover node Lost told) step = same-long n.turning.turns n2.turning.turns (ap (λ (m : Node). m.turning.turns) step.1)
  step-grows n n2 (Send node to i) step = same-long n.turning.turns n2.turning.turns (ap (λ (m : Node). m.turning.turns) step.1.3)
  step-grows n n2 (Ack node from) step = same-long n.turning.turns n2.turning.turns (ap (λ (m : Node). m.turning.turns) step.3)
  step-grows n n2 (TakeAck node from through) step = same-long n.turning.turns n2.turning.turns (ap (λ (m : Node). m.turning.turns) step.3)
  step-grows n n2 (Emit node) step = same-long n.turning.turns n2.turning.turns (ap (λ (m : Node). m.turning.turns) step.1.2)
  step-grows n n2 (Crash node pages) step = same-long n.turning.turns n2.turning.turns (ap (λ (m : Node). m.turning.turns) step.1)
  step-grows n n2 (Recover node) step = same-long n.turning.turns n2.turning.turns (ap (λ (m : Node). m.turning.turns) step.2)

  run-grows : (n n2 : Node) (es : List Event) (out : Outgoing) → NodeRun g put v n es out n2 → length n.turning.turns ≤ length n2.turning.turns
  run-grows n n2 [] out run = same-long n.turning.turns n2.turning.turns (ap (λ (m : Node). m.turning.turns) run.1)
  run-grows n n2 (e ∷ es) out run =
      let one = step-grows n run.0 e run.1.1.1 in
      let rest = run-grows run.0 n2 es run.1.0 run.1.1.3 in
      omega (arith, one, rest)

module _ {D O U A : Type 0} (told : Watched D → Option Story) (size : Watched D → ℕ) (took : U → Option (List Out)) (handles : A → Handler) (g : Game) (made : ℕ) (r r2 : Run D O U A) (v : ℕ) (s s2 : Station D O U)
    (stopped : IsStopped told size took handles g made v r)
    (is : slice_index_or r.stations.items v s ≡ s) (same : (r2.nodes ≡ r.nodes) × (r2.app ≡ r.app)) (stations : r2.stations.items ≡ slice_set r.stations.items v s2) (most : r2.restarts ≡ r.restarts) (may : s.restarts < r.restarts) where
  placed : v < length r.stations.items
  placed = subst (λ (k : ℕ). v < k) (sym stopped.stands.width) stopped.known

  had : turns_to_make s.node.stage ≡ g.turns - length (stopped.nodes v).turning.turns
  had = down-to-make told g v stopped.given (stopped.nodes v) stopped.doubt s.node.stage (down-before told size took handles g made r r2 v s s2 stopped is same stations)

  pub restart-worked : (result : Result (Unit {0}) NodeFault) → RestartsStation told size result g v stopped.given (stopped.nodes v) stopped.doubt s s2 → UnlessMemory result (work_left r2 < work_left r)
  restart-worked (Ok x) b =
      let again = b.1.0 in
      let down = down-before told size took handles g made r r2 v s s2 stopped is same stations in
      let up : IsUp told size g v again.after s2.node.stage = record {
        limits = down.limits;
        known = down.known;
        handler = again.handler;
        patcher = again.patcher;
        sender = again.sender;
        stage_is = again.stage_is;
        whole = again.whole;
        empty = again.empty;
        unspent = again.unspent;
        tell = again.tell;
      } in
      let grows = run-grows g (Contains stopped.given) v (stopped.nodes v) again.after again.call.events nothing again.call.run in
      let now = to-make-is told size g v again.after s2.node.stage up in
      let was = had in
      work-try r r2 v s s2 placed is most stations may b.1.2 (omega (arith, grows, now, was))
  restart-worked (Err Disk) b =
      let now = down-to-make told g v stopped.given (stopped.nodes v) stopped.doubt s2.node.stage b.0 in
      let was = had in
      work-try r r2 v s s2 placed is most stations may b.2 (omega (arith, now, was))
  restart-worked (Err Memory) b = tt
  restart-worked (Err Outlet) b = absurd b
  restart-worked (Err (Damaged disk place)) b = absurd b
