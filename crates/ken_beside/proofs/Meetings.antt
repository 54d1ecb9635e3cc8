-- Steps of a node's three workers, and the meeting after them.
use Rattle.std.proofs.Common.{◌≡◌, ℕ, List, [], ◌++◌, ◌∷◌, sym, ap, subst, refl}
use Rattle.ken_disk.specs.declared.disk.Disk as disk
use Rattle.ken_app.specs.declared.oracle.Oracle as oracle
use Rattle.ken_model.specs.Game.{Game}
use Rattle.ken_net.specs.declared.net.Net as net
use Rattle.ken_net.specs.Puts.{Put}
use Rattle.ken_core.specs.Nodes.{Node}
use Rattle.ken_store.specs.Apart.{disks_apart}
use Rattle.ken_ship.specs.declared.outlet.Outlet as outlet
use Rattle.ken_ship.specs.declared.worker.SendWorker.{SendWorker}
use Rattle.ken_ship.specs.Laws.{packets_from}
use Rattle.ken_ship.specs.Parts.{Part, part_of}
use Rattle.ken_work.specs.declared.patcher.PatchWorker.{PatchWorker}
use Rattle.ken_work.specs.declared.worker.TurnWorker.{TurnWorker}
use Rattle.ken_node.specs.declared.stage.Stage.TheVariants.{Created}
use Rattle.ken_node.specs.Synced.{LeavesSynced}
use Rattle.ken_node.specs.Up.{IsUp}
use Rattle.ken_node.proofs.MeetingDown.{meeting_stays_down}
use Rattle.ken_node.proofs.Up.{met-disks, met-fronts}
use Rattle.ken_weave.specs.Workers.{none, then}
use Rattle.ken_beside.specs.Accounts.{Refuses}
use Rattle.ken_beside.specs.Meetings.{by_handler, by_patcher, by_sender, CallAndMeeting, FailedCallAndMeeting, FailureAndMeeting, HasAccounts, HaveEmptied, OneCall, StepsAndMeeting, IsUpAfter}
use Rattle.ken_beside.specs.On.{IsOn}
use Rattle.ken_beside.specs.Seats.{Handling, Sending}
use Rattle.ken_beside.proofs.Failing.{failure_beside}
use Rattle.ken_beside.proofs.On.{meeting_is_up, on-met, up_is_on}
use Rattle.ken_beside.proofs.Together.{side_by_side}

module _ {D N O U : Type 0} (d : disk.Ghosts D) (e : net.Ghosts N) (o : oracle.Ghosts O) (u : outlet.Ghosts U)
    (put_still : (a : N) → e.put_between a a []) (put_joins : (a b c : N) (ps qs : List Put) → e.put_between a b ps → e.put_between b c qs → e.put_between a c (ps ++ qs))
    (given_still : (a : N) → e.given_between a a []) (given_joins : (a b c : N) (xs ys : List (List ℕ)) → e.given_between a b xs → e.given_between b c ys → e.given_between a c (xs ++ ys)) where
  -- a meeting calls no device
  accounts-met : (g : Game) (v : ℕ) (t t2 : Handling D N O) (p p2 : PatchWorker D) (s s2 : Sending N U) (t3 : TurnWorker D) (p3 : PatchWorker D) (s3 : SendWorker)
      → HaveEmptied d t2.worker t3 p2 p3 s2.worker s3 → Refuses u (part_of s.worker).refusals s.outlet (part_of s2.worker).refusals s2.outlet
      → (LeavesSynced d.told d.faults g v (disks_apart t.worker.side p.side) → LeavesSynced d.told d.faults g v (disks_apart t2.worker.side p2.side))
      → HasAccounts d e o u g v t p s s2 t3 p3 s3
  accounts-met g v t t2 p p2 s s2 t3 p3 s3 meets refused synced = record {
    emissions = ap (λ (x : Part). x.emissions) meets.met.rest;
    refusals = subst (λ (count : ℕ). Refuses u (part_of s.worker).refusals s.outlet count s2.outlet) (sym (ap (λ (x : Part). x.refusals) meets.met.rest)) refused;
    synced = λ before. subst (LeavesSynced d.told d.faults g v) (sym (met-disks d.told d.size t2.worker t3 p2 p3 s2.worker s3 meets.met)) (synced before);
  }

  pub steps_and_meeting : StepsAndMeeting d e o u
  steps_and_meeting g v n t t2 p p2 s s2 ts ps ss t3 p3 s3 on by_t by_p by_s meets =
      let fronts = met-fronts d.told d.size t2.worker t3 p2 p3 s2.worker s3 meets.met meets.empty in
      let ran = side_by_side d e o u put_still put_joins given_still given_joins g v n t t2 p p2 s s2 ts ps ss on by_t by_p by_s fronts in
      record {
        ran = ran;
        on = on-met d g v ran.after t2.worker t3 p2 p3 s2.worker s3 ran.on meets;
        up = λ unspent. meeting_is_up d.told d.size g v ran.after t2.worker t3 p2 p3 s2.worker s3 ran.on meets.same meets.joined meets.met meets.empty unspent;
        accounts = accounts-met g v t t2 p p2 s s2 t3 p3 s3 meets ran.refusals ran.synced;
      }

  pub failure_and_meeting : FailureAndMeeting d e o u
  failure_and_meeting g v n t t2 t3 p p2 s s2 ts ps ss t4 p4 s4 on by_t fails by_p by_s meets =
      let fronts = met-fronts d.told d.size t3.worker t4 p2 p4 s2.worker s4 meets.met meets.empty in
      let failed = failure_beside d e o u put_still put_joins given_still given_joins g v n t t2 t3 p p2 s s2 ts ps ss on by_t fails by_p by_s fronts in
      record {
        failed = failed;
        down = meeting_stays_down d.told d.size g v (packets_from g.nodes failed.gave) failed.after failed.doubt t3.worker t4 p2 p4 s2.worker s4 failed.down meets.same meets.joined meets.met;
        accounts = accounts-met g v t t3 p p2 s s2 t4 p4 s4 meets failed.ran.refusals failed.synced;
      }

  -- ---- one call

  is-on : (g : Game) (v : ℕ) (n : Node) (t : TurnWorker D) (p : PatchWorker D) (s : SendWorker) → IsUp d.told d.size g v n (Created t p s) → IsOn d.told d.size g v n t p s
  is-on g v n t p s up = (up_is_on d.told d.size g v n t p s).on up

  pub call_and_meeting : CallAndMeeting d e o u
  call_and_meeting g v n t t2 p _ s _ t3 p3 s3 up (by_handler step) meets =
      steps_and_meeting g v n t t2 p p s s (t2 ∷ []) [] [] t3 p3 s3 (is-on g v n t.worker p s.worker up) (then step none) none none meets
  call_and_meeting g v n t _ p p2 s _ t3 p3 s3 up (by_patcher call) meets =
      steps_and_meeting g v n t t p p2 s s [] (p2 ∷ []) [] t3 p3 s3 (is-on g v n t.worker p s.worker up) none (then call none) none meets
  call_and_meeting g v n t _ p _ s s2 t3 p3 s3 up (by_sender call) meets =
      steps_and_meeting g v n t t p p s s2 [] [] (s2 ∷ []) t3 p3 s3 (is-on g v n t.worker p s.worker up) none none (then call none) meets

  pub failed_call_and_meeting : FailedCallAndMeeting d e o u
  failed_call_and_meeting g v n t t2 p s t3 p3 s3 up fails meets =
      failure_and_meeting g v n t t t2 p p s s [] [] [] t3 p3 s3 (is-on g v n t.worker p s.worker up) none fails none none meets
