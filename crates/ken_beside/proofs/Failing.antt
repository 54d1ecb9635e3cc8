-- A call of the handler that failed, after all that the other two made.
use Rattle.std.proofs.Common.{◌≡◌, ℕ, ◌^◌, ◌<◌, ◌≤◌, List, [], ◌++◌, length, Option, Err, ⊎_elim, refl, sym, ap, subst, ◌∙◌, arith}
use Rattle.std.specs.List.{Contains}
use Rattle.std.proofs.lemmas.List.Elements.{Contains-append_cases}
use Rattle.ken_disk.specs.declared.disk.Disk as disk
use Rattle.ken_disk.specs.Fates.{Fate}
use Rattle.ken_disk.specs.Story.{Story}
use Rattle.ken_app.specs.declared.oracle.Oracle as oracle
use Rattle.ken_model.specs.Game.{Game}
use Rattle.ken_model.specs.Handler.{Handler}
use Rattle.ken_net.specs.declared.net.Net as net
use Rattle.ken_net.specs.Puts.{Put}
use Rattle.ken_links.specs.Rings.{pushed, popped}
use Rattle.ken_record.specs.declared.effects.Effects.{Effects}
use Rattle.ken_core.specs.declared.events.Event.{Event}
use Rattle.ken_core.specs.Nodes.{Node}
use Rattle.ken_core.specs.Runs.{NodeRun}
use Rattle.ken_core.specs.Calls.{seal, turnover}
use Rattle.ken_core.specs.Packets.{Packet, Outgoing, nothing, one_after_other}
use Rattle.ken_store.specs.declared.turning.TurnSide.{TurnSide}
use Rattle.ken_store.specs.Apart.{disks_apart}
use Rattle.ken_ship.specs.declared.faults.NodeFault.TheVariants.{Disk}
use Rattle.ken_ship.specs.declared.outlet.Outlet as outlet
use Rattle.ken_ship.specs.declared.worker.SendWorker.{SendWorker}
use Rattle.ken_ship.specs.Laws.{packets_from}
use Rattle.ken_work.specs.declared.patcher.PatchWorker.{PatchWorker}
use Rattle.ken_work.specs.declared.worker.TurnWorker.{TurnWorker}
use Rattle.ken_work.specs.Calls.{IsTurnInDoubt, IsTurnoverInDoubt, TakesTurn, Drew}
use Rattle.ken_work.specs.Capped.{IsCapped}
use Rattle.ken_node.specs.Down.{AreTold}
use Rattle.ken_node.specs.DownLaws.{SealIsDown, TurnoverIsDown}
use Rattle.ken_work.specs.Meeting.{AreFronts}
use Rattle.ken_node.specs.Restarts.{OneHasFailed}
use Rattle.ken_work.specs.Sealing.{coming_pages, is_full}
use Rattle.ken_node.specs.Synced.{LeavesSynced}
use Rattle.ken_whole.specs.TurnLaws.{acks_out, told_of}
use Rattle.ken_whole.proofs.Runs.{run-append}
use Rattle.ken_whole.proofs.Quietly.{idle_keeps_turns}
use Rattle.ken_node.proofs.TurnDisks.{disk-failed}
use Rattle.ken_node.proofs.TurnDown.{turn_goes_down}
use Rattle.ken_weave.proofs.Lists.{front_then}
use Rattle.ken_beside.specs.Failing.{FailureBeside}
use Rattle.ken_beside.specs.Puts.{IsAnswer}
use Rattle.ken_beside.specs.Seats.{Handling}
use Rattle.ken_beside.specs.Steps.{TurnsOnce}
use Rattle.ken_beside.proofs.Calm.{idle-calm}
use Rattle.ken_beside.proofs.Counted.{few-turns, order-counts}
use Rattle.ken_beside.proofs.FailingSynced.{failed-synced}
use Rattle.ken_beside.proofs.Over.{run-over}
use Rattle.ken_beside.proofs.Taken.{packets-append, packets-left, packets-right}
use Rattle.ken_beside.proofs.Sorts.{acks-out, of-then}
use Rattle.ken_beside.proofs.Spelled.{handler-put, none-put}
use Rattle.ken_beside.proofs.Together.{side_by_side}

-- it pushed nothing, and popped no more news
record IsStill {D : Type 0} (old new : TurnWorker D) : Type 0 where
  pages : pushed new.pages ≡ pushed old.pages
  sealed : pushed new.sealed ≡ pushed old.sealed
  settled : new.settled ≡ old.settled
  progress : new.progress ≡ old.progress

module _ {D : Type 0} (told : D → Option Story) (size count : D → ℕ) (fate : D → Option Fate) (h : Handler) (drew : List ℕ → Type 0) (gave : List (List ℕ) → Type 0) (put : List Put → Type 0) (nones nones2 : ℕ) (old new : TurnWorker D) where
  failed-still : TakesTurn told size count fate h drew (Err Disk) old new gave put nones nones2 → IsStill old new
  failed-still takes =
      ⊎_elim
      (λ (is : IsTurnoverInDoubt told size count fate h drew old new gave put). record {
        pages = ap (λ (w : TurnWorker D). pushed w.pages) is.rest;
        sealed = ap (λ (w : TurnWorker D). pushed w.sealed) is.rest;
        settled = ap (λ (w : TurnWorker D). w.settled) is.rest;
        progress = ap (λ (w : TurnWorker D). w.progress) is.rest;
      })
      (λ (is : IsTurnInDoubt told size count fate h drew old new gave put nones nones2). record {
        pages = ap (λ (w : TurnWorker D). pushed w.pages) is.doubt.quiet.rest ∙ ap (λ (w : TurnWorker D). pushed w.pages) is.came.rest;
        sealed = ap (λ (w : TurnWorker D). pushed w.sealed) is.doubt.quiet.rest ∙ ap (λ (w : TurnWorker D). pushed w.sealed) is.came.rest;
        settled = ap (λ (w : TurnWorker D). w.settled) is.doubt.quiet.rest ∙ ap (λ (w : TurnWorker D). w.settled) is.came.rest;
        progress = ap (λ (w : TurnWorker D). w.progress) is.doubt.quiet.rest ∙ ap (λ (w : TurnWorker D). w.progress) is.came.rest;
      })
      takes

  -- no turn was kept, and more may be made
  doubt-turns : TakesTurn told size count fate h drew (Err Disk) old new gave put nones nones2 → (new.turns.items ≡ old.turns.items) × (IsCapped old → ⊥)
  doubt-turns takes =
      ⊎_elim
      (λ (is : IsTurnoverInDoubt told size count fate h drew old new gave put). (ap (λ (w : TurnWorker D). w.turns.items) is.rest, is.open_yet))
      (λ (is : IsTurnInDoubt told size count fate h drew old new gave put nones nones2). (is.doubt.quiet.turns ∙ ap (λ (w : TurnWorker D). w.turns.items) is.came.rest, is.came.open_yet))
      takes

-- two runs, as one over all that was given
one-run : (g : Game) (v : ℕ) (n mid n2 : Node) (xs ys zs : List (List ℕ)) (es fs : List Event) (out more : Outgoing) → NodeRun g (Contains (packets_from g.nodes (xs ++ ys))) v n es out mid → NodeRun g (Contains (packets_from g.nodes zs)) v mid fs more n2
    → NodeRun g (Contains (packets_from g.nodes ((xs ++ zs) ++ ys))) v n (es ++ fs) (one_after_other out more) n2
one-run g v n mid n2 xs ys zs es fs out more before then =
    let all : Packet → Type 0 = Contains (packets_from g.nodes ((xs ++ zs) ++ ys)) in
    run-append g all v n mid n2 es fs out more
    (run-over g (Contains (packets_from g.nodes (xs ++ ys))) all
    (λ packet there.
    ⊎_elim
    (λ (left : Contains (packets_from g.nodes xs) packet). packets-left g.nodes (xs ++ zs) ys packet (packets-left g.nodes xs zs packet left))
    (λ (right : Contains (packets_from g.nodes ys) packet). packets-right g.nodes (xs ++ zs) ys packet right)
    (Contains-append_cases (packets_from g.nodes xs) (packets_from g.nodes ys) packet (subst (λ (ps : List Packet). Contains ps packet) (packets-append g.nodes xs ys) there)))
    v n mid es out before)
    (run-over g (Contains (packets_from g.nodes zs)) all (λ packet there. packets-left g.nodes (xs ++ zs) ys packet (packets-right g.nodes xs zs packet there)) v mid n2 fs more then)

module _ {D N O U : Type 0} (d : disk.Ghosts D) (e : net.Ghosts N) (o : oracle.Ghosts O) (u : outlet.Ghosts U)
    (put_still : (a : N) → e.put_between a a []) (put_joins : (a b c : N) (ps qs : List Put) → e.put_between a b ps → e.put_between b c qs → e.put_between a c (ps ++ qs))
    (given_still : (a : N) → e.given_between a a []) (given_joins : (a b c : N) (xs ys : List (List ℕ)) → e.given_between a b xs → e.given_between b c ys → e.given_between a c (xs ++ ys)) where
  -- before the call only what was pushed had left the rings
  fronts-before : (h : Handler) (t t2 : Handling D N O) (p : PatchWorker D) (s : SendWorker) → TurnsOnce d e o h (Err Disk) t t2 → AreFronts t2.worker p s → AreFronts t.worker p s
  fronts-before h t t2 p s is fronts =
      let still = failed-still d.told d.size d.faults d.fate h (Drew o.telling.clocks o.telling.words h t.oracle t2.oracle) (e.given_between t.net t2.net) (e.put_between t.net t2.net) (e.nones t.net) (e.nones t2.net) is.mid t2.worker is.takes in
      let rest = is.hears.rest in
      record {
        pages = (fronts.pages.0, sym (still.pages ∙ ap (λ (w : TurnWorker D). pushed w.pages) rest) ∙ fronts.pages.1);
        sealed = (fronts.sealed.0, sym (still.sealed ∙ ap (λ (w : TurnWorker D). pushed w.sealed) rest) ∙ fronts.sealed.1);
        settled = front_then (popped t.worker.settled) (popped t2.worker.settled) (pushed p.settled) (is.hears.settled.items, ap popped still.settled ∙ is.hears.settled.popped_are) fronts.settled;
        progress = front_then (popped t.worker.progress) (popped t2.worker.progress) (pushed s.told) (is.hears.progress.items, ap popped still.progress ∙ is.hears.progress.popped_are) fronts.progress;
      }

  pub failure_beside : FailureBeside d e o u
  failure_beside g v n t t2 t3 p p2 s s2 ts ps ss on by_t call by_p by_s fronts =
      let drew : List ℕ → Type 0 = Drew o.telling.clocks o.telling.words g.handler t2.oracle t3.oracle in
      let ran = side_by_side d e o u put_still put_joins given_still given_joins g v n t t2 p p2 s s2 ts ps ss on by_t by_p by_s (fronts-before g.handler t2 t3 p2 s2.worker call fronts) in
      let heard : AreTold d.told (disks_apart call.mid.side p2.side) = subst (λ (x : TurnSide D). AreTold d.told (disks_apart x p2.side)) (sym (ap (λ (w : TurnWorker D). w.side) call.hears.rest)) ran.on.tell in
      let fell = disk-failed d.told d.size d.faults d.fate g.handler drew (e.given_between t2.net t3.net) (e.put_between t2.net t3.net) (e.nones t2.net) (e.nones t3.net) p2.side.image.disk call.mid t3.worker call.takes in
      let tell : AreTold d.told (disks_apart t3.worker.side p2.side) = fell.0 heard in
      let failed : OneHasFailed d.told d.faults d.fate (disks_apart t2.worker.side p2.side) (disks_apart t3.worker.side p2.side) =
      subst (λ (x : TurnSide D). OneHasFailed d.told d.faults d.fate (disks_apart x p2.side) (disks_apart t3.worker.side p2.side)) (ap (λ (w : TurnWorker D). w.side) call.hears.rest) fell.1 in
      let synced : LeavesSynced d.told d.faults g v (disks_apart t.worker.side p.side) → LeavesSynced d.told d.faults g v (disks_apart t3.worker.side p2.side) =
      λ before.
      failed-synced d.told d.size d.faults d.fate o.telling.clocks o.telling.words e.given_between e.put_between g v ran.after t2.worker call.mid t3.worker p2 s2.worker ran.on call.same call.hears fronts
      t2.oracle t3.oracle t2.net t3.net (e.nones t2.net) (e.nones t3.net) (ran.synced before) call.takes in
      ⊎_elim
      (λ (is : TurnoverIsDown d.told d.size g v ran.after (e.given_between t2.net t3.net) (e.put_between t2.net t3.net) call.mid t3.worker p2 s2.worker). record {
        ran = ran;
        gave = [];
        given = is.doubts.was_given;
        events = [];
        out = nothing;
        after = ran.after;
        run = (refl, refl);
        calm = tt;
        turns = refl;
        puts = none-put g.nodes (e.put_between t2.net t3.net) is.doubts.was_put;
        acks = tt;
        outs = refl;
        all_run = one-run g v n ran.after ran.after ran.handler_gave ran.sender_gave [] ran.events [] ran.out nothing ran.run (refl, refl);
        doubt = turnover (told_of g call.mid);
        drew = tt;
        down = is.down [];
        failed = failed;
        synced = synced;
      })
      (λ (is : SealIsDown d.told d.size d.faults d.fate drew g v ran.after (e.given_between t2.net t3.net) (e.put_between t2.net t3.net) t2.worker t3.worker p2 s2.worker).
      let lead = is.doubts.before in
      let last : TurnWorker D = is.doubts.mid in
      let whole = ran.on.whole in
      let kept = doubt-turns d.told d.size d.faults d.fate g.handler drew (e.given_between t2.net t3.net) (e.put_between t2.net t3.net) (e.nones t2.net) (e.nones t3.net) call.mid t3.worker call.takes in
      let low = few-turns d.told d.size g v ran.after t2.worker call.mid p2 s2.worker whole call.hears kept.1 in
      let heard : call.mid.turns.items ≡ t2.worker.turns.items = ap (λ (w : TurnWorker D). w.turns.items) call.hears.rest in
      let same : length last.turns.items ≡ length t2.worker.turns.items = ap length (sym is.doubts.doubt.quiet.turns ∙ kept.0 ∙ heard) in
      let few : g.nodes ≤ 8 = let most = t2.worker.few in let nodes = whole.workers.of_run.nodes in omega (arith, most, nodes) in
      let out : Outgoing = one_after_other (acks_out v ran.after lead.before) (acks_out v lead.after lead.last) in
      record {
        ran = ran;
        gave = lead.given;
        given = lead.was_given;
        events = lead.call.events;
        out = out;
        after = lead.after;
        run = lead.call.run;
        calm = idle-calm v (is_full t2.worker.side) lead.call.events lead.call.which;
        turns = idle_keeps_turns g v (packets_from g.nodes lead.given) ran.after lead.after out (is_full t2.worker.side) lead.call;
        puts =
            handler-put g (Contains (packets_from g.nodes lead.given)) v ran.after lead.after lead.call.events lead.before lead.last t2.worker.order last.order (e.put_between t2.net t3.net) few ran.on.known
            (order-counts d.told d.size g v ran.after t2.worker p2 s2.worker whole) (order-counts d.told d.size g v lead.after last p2 s2.worker lead.whole)
            (subst (λ (ts : List Effects). length ts < 2 ^ 64) whole.workers.turns.kept (omega (arith, low))) (subst (λ (ts : List Effects). length ts < 2 ^ 64) lead.whole.workers.turns.kept (omega (arith, low, same))) lead.call.run lead.was_put;
        acks = of-then IsAnswer (acks_out v ran.after lead.before).puts (acks_out v lead.after lead.last).puts (acks-out v ran.after lead.before) (acks-out v lead.after lead.last);
        outs = refl;
        all_run = one-run g v n ran.after lead.after ran.handler_gave ran.sender_gave lead.given ran.events lead.call.events ran.out out ran.run lead.call.run;
        doubt = seal is.doubts.message.from is.doubts.doubt.effects.draws (coming_pages is.doubts.doubt.begun);
        drew = is.doubts.doubt.drawn;
        down = is.down;
        failed = failed;
        synced = synced;
      })
      (turn_goes_down d.told d.size d.faults d.fate o.telling.clocks o.telling.words e.given_between e.put_between g v ran.after t2.worker call.mid t3.worker p2 s2.worker t2.oracle t3.oracle t2.net t3.net (e.nones t2.net) (e.nones t3.net)
      ran.on.limits ran.on.known ran.on.whole call.same call.hears call.takes fronts tell)
