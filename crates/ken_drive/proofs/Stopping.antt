-- What stops a run, by the devices that are kept and by its script.
use Rattle.std.proofs.Common.{◌≡◌, ◌∙◌, ℕ, suc, zero, ◌+◌, ◌-◌, ◌^◌, ◌<◌, ◌≤◌, ◌==◌, min, inl, inr, ⊎_elim, ◌⊎◌, Bool, true, false, cond, List, [], ◌∷◌, length, map, filter, slice_index_or, Option, Some, None, Result, Ok, Err, refl, sym, ap, subst, arith}
use Rattle.std.specs.Prelude.{IfErr}
use Rattle.std.specs.List.{AllByRecursion, Contains}
use Rattle.std.specs.Result.{IsErrAnd}
use Rattle.std.proofs.lemmas.Bool.{cases_eq}
use Rattle.std.proofs.lemmas.Option.{same_Some}
use Rattle.ken_disk.specs.Fates as disk
use Rattle.ken_disk.specs.Story.{Story}
use Rattle.ken_model.specs.declared.messages.Out.{Out}
use Rattle.ken_model.specs.declared.reports.Lines.{Lines}
use Rattle.ken_model.specs.Game.{Game}
use Rattle.ken_model.specs.Handler.{Handler}
use Rattle.ken_app.specs.Oracles.{Telling}
use Rattle.ken_script.specs.declared.scripts.OutFail.{OutFail}
use Rattle.ken_script.specs.declared.scripts.Script.{Script}
use Rattle.ken_script.specs.declared.scripts.TheConstants.{MAX_COUNT}
use Rattle.ken_script.specs.Within.{AreOutFailsOf, KeepsRules}
use Rattle.ken_ship.specs.Fates.{Fate}
use Rattle.ken_store.specs.declared.disks.Disks.{Disks}
use Rattle.ken_node.specs.declared.watched.Watched.{Watched}
use Rattle.ken_node.specs.Stages.{HasDisks}
use Rattle.ken_run.specs.declared.faults.RunFault.{RunFault}
use Rattle.ken_run.specs.declared.faults.RunFault.TheVariants.{Damaged, Down, Memory}
use Rattle.ken_run.specs.declared.run.Run.{Run}
use Rattle.ken_run.specs.declared.station.Station.{Station}
use Rattle.ken_rounds.specs.Shaken.{AccountsRoundsFault, AreKept, IsDownForGood, LeavesRoundsFault, StopsRoundsBy}
use Rattle.ken_run.specs.Accounts.{AccountsRunFault, AreAccounted, AreOwnDisks, HasBooks, IsAccounted, IsHeld, IsUsedUp, Terms, faults_of}
use Rattle.ken_drive.specs.Driven.{DrivesBy, EndsBy, HasMet, HasStoppedAt, HaveMet, IsKept, ShowsDown, Views}
use Rattle.ken_drive.specs.Finishing.{WasKept, unwatched}
use Rattle.ken_run.specs.Refusals.{AreRefused, HasFailedLast, IsWornOut, RefusedRunFault, StopsBy}
use Rattle.ken_run.specs.Running.{IsRunning, IsStopped, LeavesRunFault}
use Rattle.ken_drive.specs.Sparing.{FailsInARow, IsLetBy, LetsGoDown}
use Rattle.ken_drive.specs.Starting.{StartsAccountsBy, StartsBy, fails_for, game_by, terms_of}
use Rattle.ken_run.specs.Devices.{MayFailAt}
use Rattle.ken_drive.proofs.CutsMet.{fewer-met, raised-met, unwatched-met}
use Rattle.ken_drive.proofs.StartingAll.{one-of}

-- ---- the calls of outlets that a script lets fail

one-within : (b : Bool) (f : OutFail) (rest : List OutFail) → f.call ≤ MAX_COUNT → AllByRecursion (λ (call : ℕ). call ≤ MAX_COUNT) (map (λ (x : OutFail). x.call) rest) → AllByRecursion (λ (call : ℕ). call ≤ MAX_COUNT) (map (λ (x : OutFail). x.call) (cond b (f ∷ rest) rest))
one-within true f rest here others = (here, others)
one-within false f rest here others = others

fails-within : (nodes v : ℕ) (fails : List OutFail) → AreOutFailsOf nodes fails → AllByRecursion (λ (call : ℕ). call ≤ MAX_COUNT) (fails_for v fails)
fails-within nodes v [] all = tt
fails-within nodes v (f ∷ fs) all = one-within (f.node == v) f (filter (λ (x : OutFail). x.node == v) fs) all.0.1 (fails-within nodes v fs all.1)

within-at : (calls : List ℕ) (k d : ℕ) → AllByRecursion (λ (call : ℕ). call ≤ MAX_COUNT) calls → k < length calls → slice_index_or calls k d ≤ MAX_COUNT
within-at [] k d all low = absurd (omega (arith, low))
within-at (c ∷ cs) zero d all low = all.0
within-at (c ∷ cs) (suc k) d all low = within-at cs k d all.1 (omega (arith, low))

listed-within : (nodes v : ℕ) (fails : List OutFail) (call : ℕ) → AreOutFailsOf nodes fails → Contains (fails_for v fails) call → call ≤ MAX_COUNT
listed-within nodes v fails call all found = subst (λ (x : ℕ). x ≤ MAX_COUNT) found.2 (within-at (fails_for v fails) found.0 call (fails-within nodes v fails all) found.1)

-- an outlet that has failed 65 times and tells what may fail has so many of its calls, one after the other, on its list
row-of : (faults : ℕ) (scripted : Bool) (v : ℕ) (fails : List ℕ) (fate : Option Fate) → scripted ≡ true → ((call : ℕ) → Contains fails call → call ≤ MAX_COUNT)
    → ((f : Fate) → fate ≡ Some f → HasFailedLast {U = Unit {0}} (λ x. faults) (λ x. Some f) 65 tt) → MayFailAt scripted v fails fate → FailsInARow fails
row-of faults true v fails None tells within last may = absurd may
row-of faults false v fails None tells within last may = absurd (cc)
row-of faults scripted v fails (Some f) tells within last may =
    let is = last f refl in
    let late = is.listed (omega arith) f refl in
    let few : late.call ≤ MAX_COUNT = within late.call ((may.1 late.call).0 late.listed) in
    let below = late.late in
    let running = is.running f refl (omega (arith, few, below)) in
    let made = running.made in
    record { first = f.calls - 64; each = λ call low high. (may.1 call).0 (running.each call (omega (arith, low, made)) (omega (arith, high, made))) }

told-one : {U : Type 0} (faults : U → ℕ) (fate : U → Option Fate) (often : ℕ) (out : U) (f : Fate) → fate out ≡ Some f → HasFailedLast faults fate often out → HasFailedLast {U = Unit {0}} (λ x. faults out) (λ x. Some f) often tt
told-one faults fate often out f is last = record {
  counted = last.counted;
  running = λ f2 same room. last.running f2 (is ∙ same) room;
  listed = λ some f2 same. last.listed some f2 (is ∙ same);
}

-- ---- a node that has gone down

module _ {D O U : Type 0} (views : Views D O U) (h : Handler) (script : Script) (rules : KeepsRules script) where
  abbrev falls : Watched D → Option disk.Fate
  falls w = views.fate w.disk

  abbrev calls : U → Option Fate
  calls = views.calls

  abbrev scripted : Bool
  scripted = views.scripted

  abbrev terms : Terms
  terms = terms_of views.scripted script

  abbrev Held : ℕ → Station D O U → Type 0
  Held v s = IsHeld (λ w. views.told w.disk) (λ w. views.faults w.disk) falls views.telling (terms_of scripted script) (game_by h script) v s

  abbrev Books : ℕ → Station D O U → Type 0
  Books v s = HasBooks (λ w. views.told w.disk) (λ w. views.faults w.disk) falls views.telling terms (game_by h script) v s

  owned : (v : ℕ) (s : Station D O U) (disks : Disks (Watched D)) → HasDisks disks s.node.stage → Books v s → AreOwnDisks views.fate terms.scripted (terms.origins v) s.restarts (unwatched disks)
  owned v s disks has books = let own = books.own disks has in record { log = own.log; image = own.image; second = own.second }

  -- it is down with its restarts used up
  pub held-gone : (v : ℕ) (s : Station D O U) (kept : Option (Disks D × O × U)) → Held v s → s.restarts ≡ script.restarts → WasKept s kept → ShowsDown views terms v kept
  held-gone v s kept held used was =
      let failed : min (s.restarts + 1) (2 ^ 64 - 1) ≤ faults_of views.faults (unwatched was.disks) = held.causes was.disks was.has in
      let few = rules.restarts in
      record {
        disks = unwatched was.disks;
        luck = s.luck;
        out = s.out;
        is = was.is;
        cause = inl (record {
          failed = omega (arith, failed, used, few);
          own = subst (λ (k : ℕ). AreOwnDisks views.fate terms.scripted (terms.origins v) k (unwatched was.disks)) used (owned v s was.disks was.has held.books);
          met = subst (λ (k : ℕ). HaveMet views.fate terms v (k + 1) (unwatched was.disks)) used (unwatched-met views.fate terms v (s.restarts + 1) was.disks (held.fates was.disks was.has));
        });
      }

  pub held-let : (v : ℕ) (s : Station D O U) (disks : Disks (Watched D)) → scripted ≡ true → Held v s → s.restarts ≡ script.restarts → HasDisks disks s.node.stage → LetsGoDown script v
  held-let v s disks tells held used has =
      let fated = held.fates disks has in
      let t = fated.tell tells in
      let most = fated.falls t.log t.image t.second t.log_is t.image_is t.second_is in
      inl (omega (arith, most, used))

  -- or its outlet has failed 65 times
  pub worn-gone : (v : ℕ) (s : Station D O U) (kept : Option (Disks D × O × U)) → HasFailedLast views.refused calls 65 s.out → WasKept s kept → ShowsDown views terms v kept
  worn-gone v s kept last was = record { disks = unwatched was.disks; luck = s.luck; out = s.out; is = was.is; cause = inr last.counted }

  -- its devices were kept
  pub is-kept : (v : ℕ) (s : Station D O U) (kept : Option (Disks D × O × U)) → Books v s → HasMet falls terms v s → MayFailAt scripted v (fails_for v script.outlets) (calls s.out) → WasKept s kept → IsKept views terms v kept
  is-kept v s kept books met may was = record {
    disks = unwatched was.disks;
    luck = s.luck;
    out = s.out;
    is = was.is;
    often = s.restarts;
    own = record { oracle = books.origin; own_disks = owned v s was.disks was.has books; few = books.most; met = unwatched-met views.fate terms v s.restarts was.disks (met was.disks was.has); outlet = may };
  }

  -- its outlet is the one of another station, of which the same was kept
  other-out : (v : ℕ) (s t : Station D O U) (kept : Option (Disks D × O × U)) → WasKept s kept → WasKept t kept → MayFailAt scripted v (fails_for v script.outlets) (calls t.out) → MayFailAt scripted v (fails_for v script.outlets) (calls s.out)
  other-out v s t kept was also may =
      let same : (unwatched also.disks, t.luck, t.out) ≡ (unwatched was.disks, s.luck, s.out) = same_Some (unwatched also.disks, t.luck, t.out) (unwatched was.disks, s.luck, s.out) (sym also.is ∙ was.is) in
      subst (λ (o : U). MayFailAt scripted v (fails_for v script.outlets) (calls o)) (ap (λ (x : Disks D × O × U). x.2) same) may

  pub worn-let : (v : ℕ) (out : U) → scripted ≡ true → HasFailedLast views.refused calls 65 out → MayFailAt scripted v (fails_for v script.outlets) (calls out) → LetsGoDown script v
  worn-let v out tells last may =
      inr (row-of (views.refused out) scripted v (fails_for v script.outlets) (calls out) tells (λ call found. listed-within script.facts.nodes v script.outlets call rules.outlets found)
      (λ f is. told-one views.refused calls 65 out f is last) may)

  -- ---- at the start

  module _ {A : Type 0} (made : ℕ) (kept : ℕ → Option (Disks D × O × U)) (size : Watched D → ℕ) (handles : A → Handler) where
    pub start-drives : (result : Result Lines RunFault) (fault : RunFault) → IsErrAnd result (λ e. e ≡ fault)
        → StartsBy (λ w. views.told w.disk) size views.took handles scripted views.telling views.refused calls h script (Err fault) kept
        → StartsAccountsBy (λ w. views.told w.disk) (λ w. views.faults w.disk) falls views.telling (terms_of scripted script) (game_by h script) {A = A} (Err fault) kept
        → DrivesBy views h script made kept result
    start-drives (Ok x) fault same starts accounts = absurd same
    start-drives (Err e) (Down v) same starts accounts = subst (λ (x : RunFault). DrivesBy views h script made kept (Err x)) (sym same) (record {
      made = v + 1;
      known = omega arith;
      few = omega (arith, starts.0);
      which = inr refl;
      shows = held-gone v accounts.0.station (kept v) accounts.0.held accounts.0.none_left accounts.0.was;
      each = λ u low.
          let given = starts.1 u (omega (arith, low)) in
          ⊎_elim
          (λ (same : u ≡ v). subst (λ (k : ℕ). IsKept views terms k (kept k)) (sym same)
          (let mine = starts.1 v (omega arith) in
          is-kept v accounts.0.station (kept v) accounts.0.held.books (fewer-met falls terms v accounts.0.station.restarts accounts.0.station.node.stage accounts.0.held.fates) (other-out v accounts.0.station mine.station (kept v) accounts.0.was mine.was mine.own.fated.may) accounts.0.was))
          (λ other.
          let up = accounts.1 u (omega (arith, low, other)) in
          is-kept u up.station (kept u) up.accounted.books (raised-met falls terms u up.station.restarts up.station.node.stage up.accounted.fates) (other-out u up.station given.station (kept u) up.was given.was given.own.fated.may) up.was)
          (cases_eq u v);
      others = λ u high. starts.2 u (omega (arith, high));
    })
    start-drives (Err e) Memory same starts accounts = subst (λ (x : RunFault). DrivesBy views h script made kept (Err x)) (sym same) starts
    start-drives (Err e) (Damaged v disk place) same starts accounts = absurd starts

    pub start-lets : (result : Result Lines RunFault) (fault : RunFault) → scripted ≡ true → IsErrAnd result (λ e. e ≡ fault)
        → StartsBy (λ w. views.told w.disk) size views.took handles scripted views.telling views.refused calls h script (Err fault) kept
        → StartsAccountsBy (λ w. views.told w.disk) (λ w. views.faults w.disk) falls views.telling (terms_of scripted script) (game_by h script) {A = A} (Err fault) kept
        → IfErr result (IsLetBy script)
    start-lets (Ok x) fault tells same starts accounts = tt
    start-lets (Err e) (Down v) tells same starts accounts = subst (IsLetBy script) (sym same) (held-let v accounts.0.station accounts.0.was.disks tells accounts.0.held accounts.0.none_left accounts.0.was.has)
    start-lets (Err e) Memory tells same starts accounts = subst (IsLetBy script) (sym same) tt
    start-lets (Err e) (Damaged v disk place) tells same starts accounts = absurd starts

  -- ---- and later

  module _ {A : Type 0} (size : Watched D → ℕ) (handles : A → Handler) (v : ℕ) (r : Run D O U A) (stopped : HasStoppedAt (λ w. views.told w.disk) size (λ w. views.faults w.disk) falls views.telling views.took handles views.refused calls (terms_of scripted script) (game_by h script) v r) where
    abbrev low : v < length r.stations.items
    low = let known = stopped.known in let width = stopped.width in omega (arith, known, width)

    abbrev s : Station D O U
    s = let d = one-of r.stations.items v low in slice_index_or r.stations.items v d

    pub stopped-gone : (kept : Option (Disks D × O × U)) → WasKept s kept → ShowsDown views terms v kept
    stopped-gone kept was =
        let d = one-of r.stations.items v low in
        ⊎_elim
        (λ (used : IsDownForGood (λ w. views.told w.disk) (λ w. views.faults w.disk) falls views.telling (terms_of scripted script) (game_by h script) v r). held-gone v s kept (used d).0 (used d).1 was)
        (λ (worn : IsWornOut views.refused calls (terms_of scripted script) v r). worn-gone v s kept (worn d) was)
        stopped.cause

    pub stopped-let : (disks : Disks (Watched D)) → HasDisks disks s.node.stage → scripted ≡ true → LetsGoDown script v
    stopped-let disks has tells =
        let d = one-of r.stations.items v low in
        ⊎_elim
        (λ (used : IsDownForGood (λ w. views.told w.disk) (λ w. views.faults w.disk) falls views.telling (terms_of scripted script) (game_by h script) v r). held-let v s disks tells (used d).0 (used d).1 has)
        (λ (worn : IsWornOut views.refused calls (terms_of scripted script) v r). worn-let v s.out tells (worn d) (stopped.refusals.each v d stopped.known).fails)
        stopped.cause

  -- a run that was driven and may not go on, where its devices are kept
  module _ {A : Type 0} (made : ℕ) (size : Watched D → ℕ) (handles : A → Handler) (r : Run D O U A) (kept : ℕ → Option (Disks D × O × U)) (given : (v : ℕ) (d : Station D O U) → v < length r.stations.items → WasKept (slice_index_or r.stations.items v d) (kept v)) where
    pub end-drives : ((v : ℕ) → length r.stations.items ≤ v → kept v ≡ None) → (fault : RunFault) → (fault ≡ Memory → ⊥) → EndsBy (λ w. views.told w.disk) size (λ w. views.faults w.disk) falls views.telling views.took handles views.refused calls (terms_of scripted script) (game_by h script) (Err fault) r → DrivesBy views h script made kept (Err fault)
    end-drives others (Down v) not stopped =
        let known = low size handles v r stopped in
        let width = stopped.width in
        record {
          made = script.facts.nodes;
          known = stopped.known;
          few = omega arith;
          which = inl refl;
          shows = stopped-gone size handles v r stopped (kept v) (given v (one-of r.stations.items v known) known);
          each = λ u below.
              let there : u < length r.stations.items = omega (arith, width, below) in
              let d = one-of r.stations.items u there in
              is-kept u (slice_index_or r.stations.items u d) (kept u) (stopped.books u d below) (stopped.met u d below) (stopped.refusals.each u d below).fails (given u d there);
          others = λ u high. others u (omega (arith, width, high));
        }
    end-drives others Memory not stopped = absurd (not refl)
    end-drives others (Damaged v disk place) not stopped = absurd stopped

    pub end-lets : (fault : RunFault) → scripted ≡ true → EndsBy (λ w. views.told w.disk) size (λ w. views.faults w.disk) falls views.telling views.took handles views.refused calls (terms_of scripted script) (game_by h script) (Err fault) r → IsLetBy script fault
    end-lets (Down v) tells stopped =
        let known = low size handles v r stopped in
        let was = given v (one-of r.stations.items v known) known in
        stopped-let size handles v r stopped was.disks was.has tells
    end-lets Memory tells stopped = tt
    end-lets (Damaged v disk place) tells stopped = absurd stopped

-- ---- how a run ends that may not go on

module _ {D O U A : Type 0} (told : Watched D → Option Story) (size : Watched D → ℕ) (count : Watched D → ℕ) (falls : Watched D → Option disk.Fate) (telling : Telling O) (took : U → Option (List Out)) (handles : A → Handler) (refused : U → ℕ) (calls : U → Option Fate) (terms : Terms) (g : Game) (r : Run D O U A) where
  width-of : (v made : ℕ) → LeavesRunFault told size took handles (Down v) g made r → (v < made) × (length r.stations.items ≡ made)
  width-of v made leaves = ⊎_elim (λ (stopped : IsStopped told size took handles g made v r). (stopped.known, stopped.stands.width)) (λ (running : (v < made) × IsRunning told size took handles g made r). (running.0, running.1.stands.width)) leaves

  -- what is kept account of at each
  books-of : (v made : ℕ) → AccountsRunFault told count falls telling terms g (Down v) made r → (u : ℕ) (d : Station D O U) → u < made → HasBooks told count falls telling terms g u (slice_index_or r.stations.items u d)
  books-of v made accounts u d low =
      ⊎_elim
      (λ (used : IsUsedUp told count falls telling terms g made v r).
      ⊎_elim
      (λ (same : u ≡ v). subst (λ (k : ℕ). HasBooks told count falls telling terms g k (slice_index_or r.stations.items k d)) (sym same) (used.held.held d).books)
      (λ other. (used.held.others u d low other).books)
      (cases_eq u v))
      (λ (are : AreAccounted told count falls telling terms g made r). (are.each u d low).books)
      accounts

  -- the cuts that each has met
  met-up : (u : ℕ) (s : Station D O U) → IsAccounted told count falls telling terms g u s → HasMet falls terms u s
  met-up u s is = raised-met falls terms u s.restarts s.node.stage is.fates

  met-held : (u : ℕ) (s : Station D O U) → IsHeld told count falls telling terms g u s → HasMet falls terms u s
  met-held u s is = fewer-met falls terms u s.restarts s.node.stage is.fates

  met-of : (v made : ℕ) → AccountsRunFault told count falls telling terms g (Down v) made r → (u : ℕ) (d : Station D O U) → u < made → HasMet falls terms u (slice_index_or r.stations.items u d)
  met-of v made accounts u d low =
      ⊎_elim
      (λ (used : IsUsedUp told count falls telling terms g made v r).
      ⊎_elim
      (λ (same : u ≡ v). subst (λ (k : ℕ). HasMet falls terms k (slice_index_or r.stations.items k d)) (sym same) (met-held v (slice_index_or r.stations.items v d) (used.held.held d)))
      (λ other. met-up u (slice_index_or r.stations.items u d) (used.held.others u d low other))
      (cases_eq u v))
      (λ (are : AreAccounted told count falls telling terms g made r). met-up u (slice_index_or r.stations.items u d) (are.each u d low))
      accounts

  stopped-at : (v made : ℕ) → made ≡ g.nodes → AccountsRunFault told count falls telling terms g (Down v) made r → LeavesRunFault told size took handles (Down v) g made r → StopsBy {T = Unit {0}} told count falls telling refused calls terms g (Err (Down v)) made r → RefusedRunFault refused calls terms (Down v) made r → HasStoppedAt told size count falls telling took handles refused calls terms g v r
  stopped-at v made all accounts leaves stops refusals =
      let at = width-of v made leaves in
      record {
        known = subst (λ (k : ℕ). v < k) all at.0;
        width = at.1 ∙ all;
        refusals = subst (λ (k : ℕ). AreRefused refused calls terms k r) all refusals.0;
        books = λ u d low. books-of v made accounts u d (omega (arith, low, all));
        met = λ u d low. met-of v made accounts u d (omega (arith, low, all));
        cause = ⊎_elim (λ (used : IsUsedUp told count falls telling terms g made v r). inl (λ d. (used.held.held d, used.none_left d))) (λ worn. inr worn) stops;
      }

  pub end-failed : (made : ℕ) → made ≡ g.nodes → (result : Result Lines RunFault) (fault : RunFault) → IsErrAnd result (λ e. e ≡ fault) → AccountsRunFault told count falls telling terms g fault made r → LeavesRunFault told size took handles fault g made r → StopsBy {T = Unit {0}} told count falls telling refused calls terms g (Err fault) made r → RefusedRunFault refused calls terms fault made r
      → EndsBy told size count falls telling took handles refused calls terms g result r
  end-failed made all (Ok x) fault same accounts leaves stops refusals = absurd same
  end-failed made all (Err e) (Down v) same accounts leaves stops refusals = subst (λ (x : RunFault). EndsBy told size count falls telling took handles refused calls terms g (Err x) r) (sym same) (stopped-at v made all accounts leaves stops refusals)
  end-failed made all (Err e) Memory same accounts leaves stops refusals = subst (λ (x : RunFault). EndsBy told size count falls telling took handles refused calls terms g (Err x) r) (sym same) tt
  end-failed made all (Err e) (Damaged v disk place) same accounts leaves stops refusals = absurd leaves

  -- ---- and in rounds

  kept-books : (made : ℕ) → AreKept told count falls telling terms g made r → (u : ℕ) (d : Station D O U) → u < made → HasBooks told count falls telling terms g u (slice_index_or r.stations.items u d)
  kept-books made are u d low =
      ⊎_elim
      (λ (up : IsAccounted told count falls telling terms g u (slice_index_or r.stations.items u d)). up.books)
      (λ (held : IsHeld told count falls telling terms g u (slice_index_or r.stations.items u d)). held.books)
      (are.each u d low)

  kept-met : (made : ℕ) → AreKept told count falls telling terms g made r → (u : ℕ) (d : Station D O U) → u < made → HasMet falls terms u (slice_index_or r.stations.items u d)
  kept-met made are u d low = ⊎_elim (met-up u (slice_index_or r.stations.items u d)) (met-held u (slice_index_or r.stations.items u d)) (are.each u d low)

  shaken-at : (v made : ℕ) → made ≡ g.nodes → AccountsRoundsFault told count falls telling terms g (Down v) made r → LeavesRoundsFault told size took handles (Down v) g made r → StopsRoundsBy told count falls telling terms g {T = Unit {0}} refused calls (Err (Down v)) r → RefusedRunFault refused calls terms (Down v) made r → HasStoppedAt told size count falls telling took handles refused calls terms g v r
  shaken-at v made all accounts leaves stops refusals = record {
    known = subst (λ (k : ℕ). v < k) all leaves.0;
    width = leaves.1.stands.width ∙ all;
    refusals = subst (λ (k : ℕ). AreRefused refused calls terms k r) all refusals.0;
    books = λ u d low. kept-books made accounts.0 u d (omega (arith, low, all));
    met = λ u d low. kept-met made accounts.0 u d (omega (arith, low, all));
    cause = stops;
  }

  pub rounds-failed : (made : ℕ) → made ≡ g.nodes → (result : Result Lines RunFault) (fault : RunFault) → IsErrAnd result (λ e. e ≡ fault) → AccountsRoundsFault told count falls telling terms g fault made r → LeavesRoundsFault told size took handles fault g made r → StopsRoundsBy told count falls telling terms g {T = Unit {0}} refused calls (Err fault) r → RefusedRunFault refused calls terms fault made r
      → EndsBy told size count falls telling took handles refused calls terms g result r
  rounds-failed made all (Ok x) fault same accounts leaves stops refusals = absurd same
  rounds-failed made all (Err e) (Down v) same accounts leaves stops refusals = subst (λ (x : RunFault). EndsBy told size count falls telling took handles refused calls terms g (Err x) r) (sym same) (shaken-at v made all accounts leaves stops refusals)
  rounds-failed made all (Err e) Memory same accounts leaves stops refusals = subst (λ (x : RunFault). EndsBy told size count falls telling took handles refused calls terms g (Err x) r) (sym same) tt
  rounds-failed made all (Err e) (Damaged v disk place) same accounts leaves stops refusals = absurd leaves
