-- A round of a run, by its answer.
use Rattle.std.proofs.Common.{◌≡◌, ◌∙◌, ℕ, ◌<◌, ◌≤◌, ◌⊎◌, List, length, Option, Some, None, Result, Ok, Err, inl, inr, ⊎_elim, slice_index_or, sym, subst, arith}
use Rattle.std.specs.declared.alloc.AllocError.{AllocError}
use Rattle.std.proofs.lemmas.Bool.{cases_eq, cases_lt}
use Rattle.ken_disk.specs.declared.disk.Disk as disk
use Rattle.ken_app.specs.declared.oracle.Oracle as oracle
use Rattle.ken_model.specs.Game.{Game}
use Rattle.ken_model.specs.Handler.{Handler}
use Rattle.ken_net.specs.declared.base.Base as base
use Rattle.ken_net.specs.declared.lossy.Lossy.{Lossy}
use Rattle.ken_net.specs.declared.net.Net as net
use Rattle.ken_ship.specs.declared.faults.NodeFault.{NodeFault}
use Rattle.ken_ship.specs.declared.faults.NodeFault.TheVariants.{Damaged, Disk}
use Rattle.ken_ship.specs.declared.outlet.Outlet as outlet
use Rattle.ken_node.specs.declared.watched.Watched.{Watched}
use Rattle.ken_run.specs.declared.faults.RunFault.{RunFault}
use Rattle.ken_run.specs.declared.faults.RunFault.TheVariants as run_faults
use Rattle.ken_run.specs.declared.run.Run.{Run}
use Rattle.ken_run.specs.declared.station.Station.{Station}
use Rattle.ken_run.specs.Accounts.{AreAccounted, Terms}
use Rattle.ken_run.specs.Patched.{AddStates}
use Rattle.ken_run.specs.Refusals.{AreRefused, IsUsedUpOf, IsWornOut, RefusedRunBy}
use Rattle.ken_run.specs.Running.{IsRunning}
use Rattle.ken_wire.specs.declared.wire_net.WireNet.{WireNet}
use Rattle.ken_threads.specs.declared.crew.Crew.{Crew}
use Rattle.ken_threads.specs.Rounds.{Rounded}
use Rattle.ken_rounds.specs.declared.lending.Tally.{Tally}
use Rattle.ken_rounds.specs.Growth.{GrowsRounds}
use Rattle.ken_rounds.specs.Heeded.{HasGivenOutAt, HeedsRounds}
use Rattle.ken_rounds.specs.Lending.{AreLent, HaveCome, station_at}
use Rattle.ken_rounds.specs.Quota.{ServesBy}
use Rattle.ken_rounds.specs.Raising.{Answered, AnswersBy, HadMemoryAll, IsOut, IsOutAt, refused, used_up, WasRaised}
use Rattle.ken_rounds.specs.Shaken.{AccountsRoundsBy, IsDownForGood, LeavesRoundsBy, StopsRoundsBy}
use Rattle.ken_rounds.proofs.Raised.{goes-on, is-out, RaisedAs, WentOn, WentOut}
use Rattle.ken_rounds.proofs.Round as round

module _ {D R O U A : Type 0} {b : base.Ghosts (WireNet R)} (d : disk.Ghosts D) (w : disk.Ghosts (Watched D)) (e : net.Ghosts (Lossy (WireNet R) b)) (o : oracle.Ghosts O) (u : outlet.Ghosts U) (handles : A → Handler) (most : ℕ)
    (means : (result : Result (Unit {0}) NodeFault) (old new : Station D O U) → WasRaised d o most result old new → RaisedAs w o most result old new)
    (g : Game) (made : ℕ) (r r2 : Run D O U A) (running : IsRunning w.told w.size u.took handles g made r) (whole : made ≡ g.nodes)
    (crews crews2 : List (Crew (Watched D) O U)) (tallies : List Tally) (now last : List (Station D O U)) (faults : List (Option NodeFault)) (c0 : Crew (Watched D) O U) (t0 : Tally) (s0 : Station D O U)
    (lent : AreLent r.stations.items crews tallies) (come : HaveCome w crews2 tallies now faults)
    (same : (r2.nodes ≡ r.nodes) × (r2.app ≡ r.app) × (r2.waiting ≡ r.waiting)) (restarts : r2.restarts ≡ r.restarts) (stations : r2.stations.items ≡ last)
    (ran : Result (Unit {0}) AllocError) (rounded : ran ≡ Ok tt → Rounded w e o u g.handler crews crews2) where
  abbrev is : ℕ → Station D O U
  is v = station_at v now s0

  abbrev then : ℕ → Station D O U
  then v = station_at v last s0

  abbrev fault : ℕ → Option NodeFault
  fault v = slice_index_or faults v None

  module _ (made_it : ran ≡ Ok tt) (had : HadMemoryAll faults) where
    now-count : length now ≡ made
    now-count = come.count ∙ (rounded made_it).count ∙ lent.count ∙ running.stands.width

    abbrev Became : ℕ → Type 0
    Became v = WentOn w o most (fault v) (is v) (then v) ⊎ (WentOut w o most (fault v) (is v) (then v) ⊎ (then v ≡ is v))

    -- where one node is down
    out-at : (v : ℕ) → IsOutAt d o most v faults now last → (x : ℕ) → x < made → Became x
    out-at v out x low =
        ⊎_elim
        (λ (below : x < v). inl (goes-on d w o most means (fault x) (is x) (then x) (out.before x s0 below)))
        (λ (above : v ≤ x).
        ⊎_elim
        (λ (here : x ≡ v). subst Became (sym here) (inr (inl (is-out d w o most means (fault v) (is v) (then v) (out.own s0)))))
        (λ other. inr (inr (out.after x s0 (omega (arith, above, other)))))
        (cases_eq x v))
        (cases_lt x v)

    -- those before it go on
    before-at : (v : ℕ) → IsOutAt d o most v faults now last → (x : ℕ) → x < v → WentOn w o most (fault x) (is x) (then x)
    before-at v out x below = goes-on d w o most means (fault x) (is x) (then x) (out.before x s0 below)

    known-at : (v : ℕ) → IsOutAt d o most v faults now last → v < made
    known-at v out = let low = out.known in let count = now-count in omega (arith, low, count)

    out-count : (v : ℕ) → IsOutAt d o most v faults now last → length last ≡ made
    out-count v out = out.count ∙ now-count

    all-on : (x : Unit {0}) → Answered d o most ran faults (Ok x) now last → (v : ℕ) → v < made → WentOn w o most (fault v) (is v) (then v)
    all-on x a v low = goes-on d w o most means (fault v) (is v) (then v) (a.raised.1 v s0 (let count = now-count in omega (arith, low, count)))

  -- no disk is damaged
  undamaged : (v disk place : ℕ) → Answered d o most ran faults (Err (run_faults.Damaged v disk place)) now last → ⊥
  undamaged v disk place a =
      let at = a.raised in
      let low : at.node < made = (let known = at.known in let count = now-count a.made a.had in omega (arith, known, count)) in
      let its = at.own s0 in
      let rd = rounded a.made in
      let may = round.may-rise w e o u handles rd.wires g made r running whole crews crews2 tallies now faults c0 t0 s0 lent rd come a.had at.node low its.0 in
      (means (Err (Damaged disk place)) (is at.node) (then at.node) its.1).back may.game may.node may.given may.stood_for may.doubt may.down

  pub leaves : (result : Result (Unit {0}) RunFault) → AnswersBy d o most ran faults result now last → LeavesRoundsBy w.told w.size u.took handles result g made r2
  leaves (Ok x) a =
      let rd = rounded a.made in
      round.goes-on w e o u handles rd.wires g made r running whole crews crews2 tallies now faults c0 t0 s0 lent rd come a.had last (a.raised.0 ∙ now-count a.made a.had) most r2 same restarts stations (all-on a.made a.had x a)
  leaves (Err (run_faults.Down v)) a =
      let rd = rounded a.made in
      let known = known-at a.made a.had v a.raised in
      let left =
      round.is-shaken w e o u handles rd.wires g made r running whole crews crews2 tallies now faults c0 t0 s0 lent rd come a.had last (out-count a.made a.had v a.raised) most r2 same restarts stations
      v (out-at a.made a.had v a.raised) (λ x low below. before-at a.made a.had v a.raised x below) in
      (known, left.0, λ x other below. left.1 x other (omega (arith, known, below)) below)
  leaves (Err run_faults.Memory) a = tt
  leaves (Err (run_faults.Damaged v disk place)) a = undamaged v disk place a

  pub serves : (result : Result (Unit {0}) RunFault) → AnswersBy d o most ran faults result now last → ServesBy w.faults g made 1 result r r2
  serves (Ok x) a =
      let rd = rounded a.made in
      round.all-served w e o u handles rd.wires g made r running whole crews crews2 tallies now faults c0 t0 s0 lent rd come a.had last (a.raised.0 ∙ now-count a.made a.had) most r2 same restarts stations (leaves (Ok x) a) (all-on a.made a.had x a)
  serves (Err fault) a = tt

  pub adds : (result : Result (Unit {0}) RunFault) → AnswersBy d o most ran faults result now last → AddStates w.told 16 r result r2
  adds (Ok x) a =
      let rd = rounded a.made in
      round.all-added w e o u handles rd.wires g made r running whole crews crews2 tallies now faults c0 t0 s0 lent rd come a.had last (a.raised.0 ∙ now-count a.made a.had) most r2 same restarts stations (all-on a.made a.had x a)
  adds (Err fault) a = tt

  pub grows : (result : Result (Unit {0}) RunFault) → AnswersBy d o most ran faults result now last → GrowsRounds 1 r result r2
  grows (Ok x) a =
      let rd = rounded a.made in
      round.all-grown w e o u handles rd.wires g made r running whole crews crews2 tallies now faults c0 t0 s0 lent rd come a.had last (a.raised.0 ∙ now-count a.made a.had) most r2 same restarts stations (λ v low. inl (all-on a.made a.had x a v low))
  grows (Err (run_faults.Down v)) a =
      let rd = rounded a.made in
      round.all-grown w e o u handles rd.wires g made r running whole crews crews2 tallies now faults c0 t0 s0 lent rd come a.had last (out-count a.made a.had v a.raised) most r2 same restarts stations (out-at a.made a.had v a.raised)
  grows (Err run_faults.Memory) a = tt
  grows (Err (run_faults.Damaged v disk place)) a = undamaged v disk place a

  module _ (own_most : most ≡ r.restarts) where
    -- node v has used up its restarts
    used-up-at : (v : ℕ) (a : Answered d o most ran faults (Err (run_faults.Down v)) now last) → fault v ≡ Some Disk → WasRaised d o most (Err Disk) (is v) (then v) → IsUsedUpOf v r2
    used-up-at v a disk raised =
        let rd = rounded a.made in
        let low = known-at a.made a.had v a.raised in
        let may = round.may-rise w e o u handles rd.wires g made r running whole crews crews2 tallies now faults c0 t0 s0 lent rd come a.had v low disk in
        let used = ((means (Err Disk) (is v) (then v) raised).back may.game may.node may.given may.stood_for may.doubt may.down).2 in
        λ other. subst (λ (s : Station D O U). r2.restarts ≤ s.restarts) (sym (round.at w e o u handles rd.wires g made r running whole crews crews2 tallies now faults c0 t0 s0 lent rd come a.had last (out-count a.made a.had v a.raised) most r2 same restarts stations v other low)) (omega (arith, used, own_most, restarts))

    heeded-by : (v : ℕ) (a : Answered d o most ran faults (Err (run_faults.Down v)) now last) → IsOut d o most (fault v) (is v) (then v) → HasGivenOutAt u v r r2 ⊎ IsUsedUpOf v r2
    heeded-by v a (refused out as_it_was) =
        let rd = rounded a.made in
        inl (round.given-out-at w e o u handles rd.wires g made r running whole crews crews2 tallies now faults c0 t0 s0 lent rd come a.had last (out-count a.made a.had v a.raised) most r2 same restarts stations v (known-at a.made a.had v a.raised) out as_it_was)
    heeded-by v a (used_up disk raised) = inr (used-up-at v a disk raised)

    pub heeds : (result : Result (Unit {0}) RunFault) → AnswersBy d o most ran faults result now last → HeedsRounds u r result r2
    heeds (Ok x) a =
        let rd = rounded a.made in
        let width = running.stands.width in
        round.all-heeded w e o u handles rd.wires g made r running whole crews crews2 tallies now faults c0 t0 s0 lent rd come a.had last (a.raised.0 ∙ now-count a.made a.had) most r2 same restarts stations
        (length r.stations.items) (omega (arith, width)) (λ v low. all-on a.made a.had x a v (omega (arith, width, low)))
    heeds (Err (run_faults.Down v)) a =
        let rd = rounded a.made in
        let width = running.stands.width in
        let known = known-at a.made a.had v a.raised in (
          omega (arith, width, known),
          round.all-heeded w e o u handles rd.wires g made r running whole crews crews2 tallies now faults c0 t0 s0 lent rd come a.had last (out-count a.made a.had v a.raised) most r2 same restarts stations
              v (omega (arith, known)) (λ x below. before-at a.made a.had v a.raised x below),
          heeded-by v a (a.raised.own s0),
        )
    heeds (Err run_faults.Memory) a = tt
    heeds (Err (run_faults.Damaged v disk place)) a = undamaged v disk place a

  module _ (terms : Terms) (few : most ≡ terms.most) (before : AreAccounted w.told w.faults w.fate o.telling terms g made r) where
    pub accounts : (result : Result (Unit {0}) RunFault) → AnswersBy d o most ran faults result now last → AccountsRoundsBy w.told w.faults w.fate o.telling terms g result made r2
    accounts (Ok x) a =
        let rd = rounded a.made in
        round.all-accounted w e o u handles rd.wires g made r running whole crews crews2 tallies now faults c0 t0 s0 lent rd come a.had last (a.raised.0 ∙ now-count a.made a.had) most r2 same restarts stations terms few before (all-on a.made a.had x a)
    accounts (Err (run_faults.Down v)) a =
        let rd = rounded a.made in
        let known = known-at a.made a.had v a.raised in (
          round.all-kept w e o u handles rd.wires g made r running whole crews crews2 tallies now faults c0 t0 s0 lent rd come a.had last (out-count a.made a.had v a.raised) most r2 same restarts stations terms few before (out-at a.made a.had v a.raised),
          λ x other below.
              round.accounted-at w e o u handles rd.wires g made r running whole crews crews2 tallies now faults c0 t0 s0 lent rd come a.had last (out-count a.made a.had v a.raised) most r2 same restarts stations terms few before
              x other (omega (arith, known, below)) (before-at a.made a.had v a.raised x below),
        )
    accounts (Err run_faults.Memory) a = tt
    accounts (Err (run_faults.Damaged v disk place)) a = tt

    -- why node v is down
    down-by : (v : ℕ) (a : Answered d o most ran faults (Err (run_faults.Down v)) now last) → AreRefused u.faults u.fate terms made r → IsOut d o most (fault v) (is v) (then v)
        → IsDownForGood w.told w.faults w.fate o.telling terms g v r2 ⊎ IsWornOut u.faults u.fate terms v r2
    down-by v a refusals (refused out as_it_was) =
        let rd = rounded a.made in
        inr (round.is-worn-out w e o u handles rd.wires g made r running whole crews crews2 tallies now faults c0 t0 s0 lent rd come a.had last (out-count a.made a.had v a.raised) most r2 same restarts stations terms refusals v (known-at a.made a.had v a.raised) out as_it_was)
    down-by v a refusals (used_up disk raised) =
        let rd = rounded a.made in
        inl (round.down-for-good w e o u handles rd.wires g made r running whole crews crews2 tallies now faults c0 t0 s0 lent rd come a.had last (out-count a.made a.had v a.raised) most r2 same restarts stations terms few before v (known-at a.made a.had v a.raised) disk (means (Err Disk) (is v) (then v) raised))

    pub stops : (result : Result (Unit {0}) RunFault) → AnswersBy d o most ran faults result now last → AreRefused u.faults u.fate terms made r → StopsRoundsBy w.told w.faults w.fate o.telling terms g u.faults u.fate result r2
    stops (Ok x) a refusals = tt
    stops (Err (run_faults.Down v)) a refusals = down-by v a refusals (a.raised.own s0)
    stops (Err run_faults.Memory) a refusals = tt
    stops (Err (run_faults.Damaged v disk place)) a refusals = tt

  module _ (terms : Terms) (before : AreRefused u.faults u.fate terms made r) (own_most : most ≡ r.restarts) where
    all-refused : (had : HadMemoryAll faults) (made_it : ran ≡ Ok tt) → length last ≡ made → ((v : ℕ) → v < made → Became made_it had v) → AreRefused u.faults u.fate terms made r2
    all-refused had made_it count all =
        let rd = rounded made_it in
        round.all-refused w e o u handles rd.wires g made r running whole crews crews2 tallies now faults c0 t0 s0 lent rd come had last count most r2 same restarts stations terms before all

    -- node v has no restart left, or its outlet is worn out
    out-by : (v : ℕ) (a : Answered d o most ran faults (Err (run_faults.Down v)) now last) → IsOut d o most (fault v) (is v) (then v) → IsWornOut u.faults u.fate terms v r2 ⊎ IsUsedUpOf v r2
    out-by v a (refused out as_it_was) =
        let rd = rounded a.made in
        inl (round.is-worn-out w e o u handles rd.wires g made r running whole crews crews2 tallies now faults c0 t0 s0 lent rd come a.had last (out-count a.made a.had v a.raised) most r2 same restarts stations terms before v (known-at a.made a.had v a.raised) out as_it_was)
    out-by v a (used_up disk raised) = inr (used-up-at own_most v a disk raised)

    pub refuses : (result : Result (Unit {0}) RunFault) → AnswersBy d o most ran faults result now last → RefusedRunBy u.faults u.fate terms result made r2
    refuses (Ok x) a = all-refused a.had a.made (a.raised.0 ∙ now-count a.made a.had) (λ v low. inl (all-on a.made a.had x a v low))
    refuses (Err (run_faults.Down v)) a = (all-refused a.had a.made (out-count a.made a.had v a.raised) (out-at a.made a.had v a.raised), out-by v a (a.raised.own s0))
    refuses (Err run_faults.Memory) a = tt
    refuses (Err (run_faults.Damaged v disk place)) a = tt
