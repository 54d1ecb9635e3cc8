-- What a round leaves of how often the outlet of a node has failed, one time after the other.
use Rattle.std.proofs.Common.{◌≡◌, ℕ, ◌+◌, ◌<◌, ◌≤◌, Some, Result, Ok, Err, sym, ap, subst, arith}
use Rattle.ken_disk.specs.declared.disk.Disk as disk
use Rattle.ken_app.specs.declared.oracle.Oracle as oracle
use Rattle.ken_model.specs.Game.{Game}
use Rattle.ken_net.specs.declared.net.Net as net
use Rattle.ken_core.specs.Nodes.{Node}
use Rattle.ken_ship.specs.declared.emit.Emit.{Emit}
use Rattle.ken_ship.specs.declared.emit.Emit.TheVariants.{Done, Refused, Nothing}
use Rattle.ken_ship.specs.declared.faults.NodeFault.{NodeFault}
use Rattle.ken_ship.specs.declared.faults.NodeFault.TheVariants.{Disk, Damaged, Outlet, Memory}
use Rattle.ken_ship.specs.declared.outlet.Outlet as outlet
use Rattle.ken_ship.specs.declared.worker.SendWorker.{SendWorker}
use Rattle.ken_ship.specs.declared.worker.TheConstants.{MOST_REFUSALS}
use Rattle.ken_ship.specs.Causes.{HasCause}
use Rattle.ken_ship.specs.Emitting.{outlet_answer}
use Rattle.ken_ship.specs.Fates.{Follows, Suffers}
use Rattle.ken_ship.specs.Parts.{part_of}
use Rattle.ken_work.specs.declared.patcher.PatchWorker.{PatchWorker}
use Rattle.ken_work.specs.declared.worker.TurnWorker.{TurnWorker}
use Rattle.ken_node.specs.declared.watched.Watched.{Watched}
use Rattle.ken_node.specs.Stages.{refusals_in}
use Rattle.ken_beside.specs.Accounts.{Refuses, RefusesBy, no_call, one_call}
use Rattle.ken_threads.specs.declared.crew.Crew.{Crew}
use Rattle.ken_run.specs.declared.station.Station.{Station}
use Rattle.ken_run.specs.Accounts.{Terms}
use Rattle.ken_run.specs.Devices.{MayFailAt}
use Rattle.ken_run.specs.Refusals.{HasFailedLast, IsRefused}
use Rattle.ken_run.proofs.Refusals.{failed-more, failed-none, failed-same, may-fail-still}
use Rattle.ken_rounds.specs.Crews.{CrewPlayed}
use Rattle.ken_rounds.specs.Manned.{CameBack, IsMannedBy}

-- ---- calls of an outlet

module _ {U : Type 0} (u : outlet.Ghosts U) (terms : Terms) (v : ℕ) where
  -- an outlet of node v has failed so often running, as its node counts, which is at most 64 times
  record HasRefused (many : ℕ) (x : U) : Type 0 where
    few : many ≤ 64
    failed : HasFailedLast u.faults u.fate many x
    fails : MayFailAt terms.scripted v (terms.fails v) (u.fate x)

  -- once less often
  one-fewer : (many : ℕ) (x : U) → HasFailedLast u.faults u.fate (many + 1) x → HasFailedLast u.faults u.fate many x
  one-fewer many x is = record {
    counted = let counted = is.counted in omega (arith, counted);
    running = λ f told room. let last = is.running f told room in let made = last.made in record { made = omega (arith, made); each = λ call late most. last.each call (omega (arith, late)) most };
    listed = λ some f told. is.listed (omega arith) f told;
  }

  -- after one call more
  counts-once : (many more : ℕ) (x y : U) → HasRefused many x → (answer : Result Emit NodeFault) → RefusesBy answer many more → HasCause (u.faults x) (u.faults y) (outlet_answer answer)
      → Follows (Suffers (outlet_answer answer)) (u.fate x) (u.fate y) → (more ≤ 64) × HasFailedLast u.faults u.fate more y
  counts-once many more x y was (Ok (Done number)) by cause follows = (omega (arith, by), subst (λ (k : ℕ). HasFailedLast u.faults u.fate k y) (sym by) (failed-none u.faults u.fate y))
  counts-once many more x y was (Ok Refused) by cause follows =
      let below : many < 64 = by.0 in let next = by.1 in
      (omega (arith, below, next), subst (λ (k : ℕ). HasFailedLast u.faults u.fate k y) (sym by.1) (failed-more u.faults u.fate many x y was.few was.failed cause follows))
  counts-once many more x y was (Ok Nothing) by cause follows =
      let few = was.few in (omega (arith, few, by), subst (λ (k : ℕ). HasFailedLast u.faults u.fate k y) (sym by) (failed-same u.faults u.fate many x y was.failed cause follows))
  counts-once many more x y was (Err Outlet) by cause follows =
      let few = was.few in let same = by.1 in
      (omega (arith, few, same), subst (λ (k : ℕ). HasFailedLast u.faults u.fate k y) (sym by.1) (one-fewer many y (failed-more u.faults u.fate many x y was.few was.failed cause follows)))
  counts-once many more x y was (Err Memory) by cause follows = absurd by
  counts-once many more x y was (Err Disk) by cause follows = absurd by
  counts-once many more x y was (Err (Damaged disk place)) by cause follows = absurd by

  refused-each : (many more : ℕ) (x y : U) → Refuses u many x more y → HasRefused many x → HasRefused more y
  refused-each _ _ _ _ no_call was = was
  refused-each many more x y (one_call {mid = mid} {b = next} answer by cause follows rest) was =
      let counted = counts-once many mid x next was answer by cause follows in
      let fails = may-fail-still terms.scripted v (terms.fails v) (outlet_answer answer) (u.fate x) (u.fate next) follows was.fails in
      refused-each mid more next y rest (record { few = counted.0; failed = counted.1; fails = fails })

-- ---- a node of a round

module _ {D N O U : Type 0} (d : disk.Ghosts (Watched D)) (e : net.Ghosts N) (o : oracle.Ghosts O) (u : outlet.Ghosts U) (terms : Terms) (g : Game) (v : ℕ) (n : Node)
    (old new : Crew (Watched D) O U) (acks acks2 mail mail2 : N) (t : TurnWorker (Watched D)) (p : PatchWorker (Watched D)) (s : SendWorker) (a b : Station D O U)
    (played : CrewPlayed d e o u g v n old new acks acks2 mail mail2 t p s) (manned : IsMannedBy old a) (back : CameBack new t p s a b) where
  lent : IsRefused u.faults u.fate terms v a → HasRefused u terms v (part_of old.sends).refusals old.outlet
  lent was = subst (λ (k : ℕ). HasRefused u terms v k old.outlet) (ap refusals_in manned.stage)
      (subst (HasRefused u terms v (refusals_in a.node.stage)) manned.out (record { few = was.few; failed = was.failed; fails = was.fails }))

  pub refused : IsRefused u.faults u.fate terms v a → IsRefused u.faults u.fate terms v b
  refused was =
      let is = subst (λ (k : ℕ). HasRefused u terms v k b.out) (sym (ap refusals_in back.stage)) (subst (HasRefused u terms v (part_of s).refusals) (sym back.out)
      (refused-each u terms v (part_of old.sends).refusals (part_of s).refusals old.outlet new.outlet played.refusals (lent was))) in
      record { few = is.few; failed = is.failed; fails = is.fails }

  -- its outlet refused once too often
  pub worn_out : IsRefused u.faults u.fate terms v a → new.faults.externaliser ≡ Some Outlet → HasFailedLast u.faults u.fate 65 b.out
  worn_out was stopped =
      let worn = played.worn stopped in
      let now = refused-each u terms v (part_of old.sends).refusals MOST_REFUSALS old.outlet worn.mid worn.refuses (lent was) in
      subst (HasFailedLast u.faults u.fate 65) (sym back.out) (failed-more u.faults u.fate MOST_REFUSALS worn.mid new.outlet now.few now.failed worn.cause worn.fate)
