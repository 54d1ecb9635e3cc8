-- How often the outlet of a node refused in a round, and in rounds one after the other.
use Rattle.std.proofs.Common.{◌≡◌, ◌≢◌, ◌∙◌, ◌⊎◌, ℕ, ◌+◌, ◌-◌, ◌<◌, ◌≤◌, List, [], ◌∷◌, length, Option, Some, None, Ok, Err, inl, inr, refl, sym, ap, subst, arith, length-append}
use Rattle.ken_disk.specs.declared.disk.Disk as disk
use Rattle.ken_net.specs.declared.net.Net as net
use Rattle.ken_ship.specs.declared.emit.Emit.{Emit}
use Rattle.ken_ship.specs.declared.emit.Emit.TheVariants.{Done, Refused, Nothing}
use Rattle.ken_ship.specs.declared.faults.NodeFault.{NodeFault}
use Rattle.ken_ship.specs.declared.faults.NodeFault.TheVariants.{Disk, Damaged, Outlet, Memory}
use Rattle.ken_ship.specs.declared.faults.OutFault.TheVariants.{Failed, Memory as NoMemory}
use Rattle.ken_ship.specs.declared.outlet.Outlet as outlet
use Rattle.ken_ship.specs.declared.worker.SendWorker.{SendWorker}
use Rattle.ken_ship.specs.Causes.{HasCause, risen}
use Rattle.ken_ship.specs.Fates.{Fate, Follows, Suffers}
use Rattle.ken_ship.specs.Parts.{Part, part_of}
use Rattle.ken_work.specs.declared.patcher.PatchWorker.{PatchWorker}
use Rattle.ken_work.specs.declared.worker.TurnWorker.{TurnWorker}
use Rattle.ken_node.specs.declared.watched.Watched.{Watched}
use Rattle.ken_node.specs.Stages.{emissions_in, refusals_in}
use Rattle.ken_weave.specs.Workers.{Steps, none, then}
use Rattle.ken_beside.specs.Meetings.{HaveEmptied}
use Rattle.ken_beside.specs.Seats.{Sending}
use Rattle.ken_beside.specs.Steps.{EmitsOnce}
use Rattle.ken_threads.specs.declared.crew.Crew.{Crew}
use Rattle.ken_threads.specs.Ran.{Ran}
use Rattle.ken_threads.specs.Rounds.{sending_with}
use Rattle.ken_threads.specs.Seats.{SenderFails, SenderSteps, Ships}
use Rattle.ken_run.specs.declared.faults.RunFault.{RunFault}
use Rattle.ken_run.specs.declared.faults.RunFault.TheVariants as run_faults
use Rattle.ken_run.specs.declared.run.Run.{Run}
use Rattle.ken_run.specs.declared.station.Station.{Station}
use Rattle.ken_run.specs.Refusals.{IsUsedUpOf}
use Rattle.ken_rounds.specs.Heeded.{AreHeededBelow, CalledTimes, HasGivenOut, HasGivenOutAt, HeedsRounds, IsHeeded, RefusedTimes, StoodStill}
use Rattle.ken_rounds.specs.Manned.{CameBack, IsMannedBy}

-- ---- calls of an outlet

called-same : (told : Option Fate) → Follows (CalledTimes 0) told told
called-same None = refl
called-same (Some f) = (f, refl, λ room. omega arith)

called-none : (a b : Option Fate) → Follows (Suffers {T = Unit {0}} (Err NoMemory)) a b → Follows (CalledTimes 0) a b
called-none None b is = is
called-none (Some f) b is = (is.0, is.1, λ room. let same = ap (λ (x : Fate). x.calls) is.2 in omega (arith, same))

called-risen : (old new : Fate) → Suffers {T = Unit {0}} (Err Failed) old new → CalledTimes 1 old new
called-risen old new suffers room = let calls : new.calls ≡ risen old.calls = ap (λ (f : Fate). f.calls) suffers.1 in omega (arith, calls, room)

called-once : (a b : Option Fate) → Follows (Suffers {T = Unit {0}} (Err Failed)) a b → Follows (CalledTimes 1) a b
called-once None b is = is
called-once (Some f) b is = (is.0, is.1, called-risen f is.0 is.2)

called-then : (j k : ℕ) (a b c : Option Fate) → Follows (CalledTimes j) a b → Follows (CalledTimes k) b c → Follows (CalledTimes (j + k)) a c
called-then j k None b c one two = subst (λ (z : Option Fate). Follows (CalledTimes k) z c) one two
called-then j k (Some f) b c one two =
    let next : Follows (CalledTimes k) (Some one.0) c = subst (λ (z : Option Fate). Follows (CalledTimes k) z c) one.1 two in (
      next.0,
      next.1,
      λ room.
          let second = next.2 room in
          let first = one.2 (omega (arith, second, room)) in
          omega (arith, first, second),
    )

module _ {U : Type 0} (u : outlet.Ghosts U) where
  times-same : (x : U) → RefusedTimes u 0 x x
  times-same x = record { counted = omega arith; uncounted = λ _. refl; called = called-same (u.fate x) }

  times-none : (x y : U) → HasCause {T = Unit {0}} (u.faults x) (u.faults y) (Err NoMemory) → Follows (Suffers {T = Unit {0}} (Err NoMemory)) (u.fate x) (u.fate y) → RefusedTimes u 0 x y
  times-none x y cause follows = record { counted = omega (arith, cause); uncounted = λ _. cause; called = called-none (u.fate x) (u.fate y) follows }

  times-once : (x y : U) → HasCause {T = Unit {0}} (u.faults x) (u.faults y) (Err Failed) → Follows (Suffers {T = Unit {0}} (Err Failed)) (u.fate x) (u.fate y) → RefusedTimes u 1 x y
  times-once x y cause follows = record { counted = cause.1; uncounted = λ no. absurd (omega (arith, no)); called = called-once (u.fate x) (u.fate y) follows }

  times-then : (j k : ℕ) (x y z : U) → RefusedTimes u j x y → RefusedTimes u k y z → RefusedTimes u (j + k) x z
  times-then j k x y z one two = record {
    counted = let first = one.counted in let second = two.counted in omega (arith, first, second);
    uncounted = λ no. two.uncounted (omega (arith, no)) ∙ one.uncounted (omega (arith, no));
    called = called-then j k (u.fate x) (u.fate y) (u.fate z) one.called two.called;
  }

  -- ---- what an externaliser and its outlet are before and after calls

  abbrev Emitted : Part → ℕ
  Emitted p = length p.emissions

  record Heeds (uncounted : ℕ) (p : Part) (x : U) (q : Part) (y : U) : Type 0 where
    emitted : Emitted p ≤ Emitted q
    rises : Emitted q ≡ Emitted p → p.refusals ≤ q.refusals
    refused : Emitted q ≡ Emitted p → RefusedTimes u (q.refusals + uncounted - p.refusals) x y

  heeds-times : (uncounted times : ℕ) (p : Part) (x : U) (q : Part) (y : U) → q.emissions ≡ p.emissions → p.refusals ≤ q.refusals → p.refusals + times ≡ q.refusals + uncounted → RefusedTimes u times x y
      → Heeds uncounted p x q y
  heeds-times uncounted times p x q y same low many is = record {
    emitted = let long = ap length same in omega (arith, long);
    rises = λ still. low;
    refused = λ still. subst (λ (k : ℕ). RefusedTimes u k x y) (omega (arith, many)) is;
  }

  heeds-none : (p : Part) (x : U) → Heeds 0 p x p x
  heeds-none p x = heeds-times 0 0 p x p x refl (omega arith) (omega arith) (times-same x)

  heeds-then : (uncounted : ℕ) (p : Part) (x : U) (q : Part) (y : U) (r : Part) (z : U) → Heeds 0 p x q y → Heeds uncounted q y r z → Heeds uncounted p x r z
  heeds-then uncounted p x q y r z one two =
      let more = one.emitted in
      let more2 = two.emitted in
      record {
        emitted = omega (arith, more, more2);
        rises = λ still. let low = one.rises (omega (arith, still, more, more2)) in let low2 = two.rises (omega (arith, still, more, more2)) in omega (arith, low, low2);
        refused = λ still.
            let first : Emitted q ≡ Emitted p = omega (arith, still, more, more2) in
            let second : Emitted r ≡ Emitted q = omega (arith, still, more, more2) in
            let low = one.rises first in
            let low2 = two.rises second in
            subst (λ (k : ℕ). RefusedTimes u k x z) (omega (arith, low, low2)) (times-then _ _ x y z (one.refused first) (two.refused second));
      }

  module _ {N : Type 0} (e : net.Ghosts N) where
    ships-heeds : (a b : Sending N U) → Ships e u a b → Heeds 0 (part_of a.worker) a.outlet (part_of b.worker) b.outlet
    ships-heeds a b is =
        let emissions = ap (λ (p : Part). p.emissions) is.takes.part ∙ ap (λ (p : Part). p.emissions) is.sends.part in
        let refusals = ap (λ (p : Part). p.refusals) is.takes.part ∙ ap (λ (p : Part). p.refusals) is.sends.part in
        let out = is.takes.outlet ∙ is.sends.outlet in
        heeds-times 0 0 (part_of a.worker) a.outlet (part_of b.worker) b.outlet emissions (omega (arith, refusals)) (omega (arith, refusals))
        (subst (RefusedTimes u 0 a.outlet) (sym out) (times-same a.outlet))

    emits-heeds : (answer : Emit) (a b : Sending N U) → EmitsOnce e u (Ok answer) a b → Heeds 0 (part_of a.worker) a.outlet (part_of b.worker) b.outlet
    emits-heeds (Done number) a b is =
        let after = is.part.1.1.2 in
        let longer : Emitted (part_of b.worker) ≡ Emitted (part_of a.worker) + 1 = ap Emitted after ∙ length-append (part_of a.worker).emissions (record { node = a.worker.backlog.node; out = is.part.0 } ∷ []) in
        record {
          emitted = omega (arith, longer);
          rises = λ still. absurd (omega (arith, longer, still));
          refused = λ still. absurd (omega (arith, longer, still));
        }
    emits-heeds Refused a b is =
        let after = is.part.2 in
        let more = ap (λ (p : Part). p.refusals) after in
        heeds-times 0 1 (part_of a.worker) a.outlet (part_of b.worker) b.outlet (ap (λ (p : Part). p.emissions) after) (omega (arith, more)) (omega (arith, more)) (times-once a.outlet b.outlet is.cause is.fate)
    emits-heeds Nothing a b is =
        let after = is.part.1 in
        let same = ap (λ (p : Part). p.refusals) after in
        heeds-times 0 0 (part_of a.worker) a.outlet (part_of b.worker) b.outlet (ap (λ (p : Part). p.emissions) after) (omega (arith, same)) (omega (arith, same)) (times-none a.outlet b.outlet is.cause is.fate)

    step-heeds : (a b : Sending N U) → SenderSteps e u a b → Heeds 0 (part_of a.worker) a.outlet (part_of b.worker) b.outlet
    step-heeds a b is =
        heeds-then 0 (part_of a.worker) a.outlet (part_of is.heard.worker) is.heard.outlet (part_of b.worker) b.outlet (ships-heeds a is.heard is.ships) (emits-heeds is.answer is.heard b is.emits)

    steps-heed : (a b : Sending N U) (bs : List (Sending N U)) → Steps (SenderSteps e u) a bs b → Heeds 0 (part_of a.worker) a.outlet (part_of b.worker) b.outlet
    steps-heed a _ _ none = heeds-none (part_of a.worker) a.outlet
    steps-heed a c _ (then {b = b} {bs = bs} one rest) =
        heeds-then 0 (part_of a.worker) a.outlet (part_of b.worker) b.outlet (part_of c.worker) c.outlet (step-heeds a b one) (steps-heed b c bs rest)

    -- the last call failed, and isn't counted
    record GaveOut (a b : Sending N U) : Type 0 where
      most : (part_of b.worker).refusals ≡ 64
      heeds : Heeds 1 (part_of a.worker) a.outlet (part_of b.worker) b.outlet

    last-heeds : (a b : Sending N U) → EmitsOnce e u (Err Outlet) a b → GaveOut a b
    last-heeds a b is =
        let after = is.part.2 in
        let same = ap (λ (p : Part). p.refusals) after in
        let most : (part_of a.worker).refusals ≡ 64 = is.part.1 in
        record {
          most = omega (arith, same, most);
          heeds =
              heeds-times 1 1 (part_of a.worker) a.outlet (part_of b.worker) b.outlet (ap (λ (p : Part). p.emissions) after) (omega (arith, same)) (omega (arith, same))
              (times-once a.outlet b.outlet is.cause is.fate);
        }

    abbrev HeedsBy : Option NodeFault → Sending N U → Sending N U → Type 0
    HeedsBy fault a b = ((fault ≡ None) × Heeds 0 (part_of a.worker) a.outlet (part_of b.worker) b.outlet) ⊎ ((fault ≡ Some Outlet) × GaveOut a b)

    sender-heeds : (fault : Option NodeFault) (a b : Sending N U) → fault ≢ Some Memory → Ran (SenderSteps e u) (SenderFails e u) a b fault → HeedsBy fault a b
    sender-heeds None a b had ran =
        inl (refl, subst (λ (x : Sending N U). Heeds 0 (part_of a.worker) a.outlet (part_of x.worker) x.outlet) (sym ran.ends.1) (steps-heed a ran.mid ran.states ran.made))
    sender-heeds (Some Outlet) a b had ran =
        let last = ran.ends.1 in
        let out = last-heeds last.heard b last.refused in
        let before = heeds-then 0 (part_of a.worker) a.outlet (part_of ran.mid.worker) ran.mid.outlet (part_of last.heard.worker) last.heard.outlet (steps-heed a ran.mid ran.states ran.made) (ships-heeds ran.mid last.heard last.ships) in
        inr (refl, record { most = out.most; heeds = heeds-then 1 (part_of a.worker) a.outlet (part_of last.heard.worker) last.heard.outlet (part_of b.worker) b.outlet before out.heeds })
    sender-heeds (Some Memory) a b had ran = absurd (had refl)
    sender-heeds (Some Disk) a b had ran = let last = ran.ends.1 in absurd last
    sender-heeds (Some (Damaged disk place)) a b had ran = let last = ran.ends.1 in absurd last

-- ---- a node of a round

module _ {D N O U : Type 0} (d : disk.Ghosts (Watched D)) (e : net.Ghosts N) (u : outlet.Ghosts U) (old new : Crew (Watched D) O U) (mail mail2 : N)
    (t : TurnWorker (Watched D)) (p : PatchWorker (Watched D)) (s : SendWorker) (a b : Station D O U) (manned : IsMannedBy old a) (back : CameBack new t p s a b)
    (met : HaveEmptied d new.turns t new.patches p new.sends s) where
  came-back : (uncounted : ℕ) → Heeds u uncounted (part_of old.sends) old.outlet (part_of new.sends) new.outlet → IsHeeded u uncounted a b
  came-back uncounted is =
      let emitted : length (emissions_in a.node.stage) ≡ length (part_of old.sends).emissions = ap (λ stage. length (emissions_in stage)) manned.stage in
      let emitted2 : length (emissions_in b.node.stage) ≡ length (part_of new.sends).emissions =
      ap (λ stage. length (emissions_in stage)) back.stage ∙ ap (λ (x : Part). length x.emissions) met.met.rest in
      let refusals : refusals_in a.node.stage ≡ (part_of old.sends).refusals = ap refusals_in manned.stage in
      let refusals2 : refusals_in b.node.stage ≡ (part_of new.sends).refusals = ap refusals_in back.stage ∙ ap (λ (x : Part). x.refusals) met.met.rest in
      let tries = back.restarts in
      let more = is.emitted in
      record {
        tries = omega (arith, tries);
        emitted = omega (arith, emitted, emitted2, more);
        rises = λ still. let same = still.emissions in let low = is.rises (omega (arith, emitted, emitted2, same)) in omega (arith, refusals, refusals2, low);
        refused = λ still.
            let same = still.emissions in
            let times = is.refused (omega (arith, emitted, emitted2, same)) in
            let here = subst (λ (k : ℕ). RefusedTimes u k old.outlet new.outlet) (omega (arith, refusals, refusals2)) times in
            subst (λ (x : U). RefusedTimes u (refusals_in b.node.stage + uncounted - refusals_in a.node.stage) x b.out) (sym manned.out)
            (subst (RefusedTimes u (refusals_in b.node.stage + uncounted - refusals_in a.node.stage) old.outlet) (sym back.out) here);
      }

  -- by the fault of its externaliser
  abbrev pub NodeHeeds : Type 0
  NodeHeeds = ((new.faults.externaliser ≡ None) × IsHeeded u 0 a b) ⊎ ((new.faults.externaliser ≡ Some Outlet) × HasGivenOut u a b)

  by-fault : HeedsBy u e new.faults.externaliser (sending_with mail old) (sending_with mail2 new) → NodeHeeds
  by-fault (inl (is, heeds)) = inl (is, came-back 0 heeds)
  by-fault (inr (is, out)) =
      let refusals2 : refusals_in b.node.stage ≡ (part_of new.sends).refusals = ap refusals_in back.stage ∙ ap (λ (x : Part). x.refusals) met.met.rest in
      let most = out.most in
      inr (is, record { most = omega (arith, refusals2, most); heeded = came-back 1 out.heeds })

  pub node-heeds : new.faults.externaliser ≢ Some Memory → Ran (SenderSteps e u) (SenderFails e u) (sending_with mail old) (sending_with mail2 new) new.faults.externaliser → NodeHeeds
  node-heeds had ran = by-fault (sender-heeds u e new.faults.externaliser (sending_with mail old) (sending_with mail2 new) had ran)

-- ---- rounds

module _ {D O U : Type 0} (u : outlet.Ghosts U) where
  pub heeded-none : (a : Station D O U) → IsHeeded u 0 a a
  heeded-none a = record {
    tries = omega arith;
    emitted = omega arith;
    rises = λ still. omega arith;
    refused = λ still. subst (λ (k : ℕ). RefusedTimes u k a.out a.out) (omega arith) (times-same u a.out);
  }

  pub heeded-then : (uncounted : ℕ) (a b c : Station D O U) → IsHeeded u 0 a b → IsHeeded u uncounted b c → IsHeeded u uncounted a c
  heeded-then uncounted a b c one two =
      let tries = one.tries in
      let tries2 = two.tries in
      let more = one.emitted in
      let more2 = two.emitted in
      let first : StoodStill a c → StoodStill a b =
      λ still. let restarts = still.restarts in let same = still.emissions in record { restarts = omega (arith, restarts, tries, tries2); emissions = omega (arith, same, more, more2) } in
      let second : StoodStill a c → StoodStill b c =
      λ still. let restarts = still.restarts in let same = still.emissions in record { restarts = omega (arith, restarts, tries, tries2); emissions = omega (arith, same, more, more2) } in
      record {
        tries = omega (arith, tries, tries2);
        emitted = omega (arith, more, more2);
        rises = λ still. let low = one.rises (first still) in let low2 = two.rises (second still) in omega (arith, low, low2);
        refused = λ still.
            let low = one.rises (first still) in
            let low2 = two.rises (second still) in
            subst (λ (k : ℕ). RefusedTimes u k a.out c.out) (omega (arith, low, low2)) (times-then u _ _ a.out b.out c.out (one.refused (first still)) (two.refused (second still)));
      }

module _ {D O U A : Type 0} (u : outlet.Ghosts U) (a b c : Run D O U A) (wide : length b.stations.items ≡ length a.stations.items) where
  abbrev Before : Type 0
  Before = AreHeededBelow u (length a.stations.items) a b

  pub all-heeded-then : Before → (limit : ℕ) → limit ≤ length b.stations.items → AreHeededBelow u limit b c → AreHeededBelow u limit a c
  all-heeded-then one limit few two v d low = heeded-then u 0 _ _ _ (one v d (omega (arith, wide, few, low))) (two v d low)

  given-out-then : Before → (v : ℕ) → v < length a.stations.items → HasGivenOutAt u v b c ⊎ IsUsedUpOf v c → HasGivenOutAt u v a c ⊎ IsUsedUpOf v c
  given-out-then one v low (inl out) = inl (λ d. let last = out d in record { most = last.most; heeded = heeded-then u 1 _ _ _ (one v d low) last.heeded })
  given-out-then one v low (inr used) = inr used

  -- also where the last round ended with a fault
  pub fault-heeded-then : Before → (fault : RunFault) → HeedsRounds u {T = Unit {0}} b (Err fault) c → HeedsRounds u {T = Unit {0}} a (Err fault) c
  fault-heeded-then one (run_faults.Down v) two =
      let known = two.0 in
      let few : v < length a.stations.items = omega (arith, known, wide) in
      (few, all-heeded-then one v (omega (arith, known)) two.1, given-out-then one v few two.2)
  fault-heeded-then one run_faults.Memory two = tt
  fault-heeded-then one (run_faults.Damaged v disk place) two = absurd two
