-- What a restart leaves of what a run keeps account of, and one call after another.
use Rattle.std.proofs.Common.{◌≡◌, ◌∙◌, ℕ, ◌+◌, ◌-◌, ◌^◌, ◌<◌, ◌≤◌, min, inl, inr, List, [], ◌∷◌, ◌++◌, length, Option, Some, None, Result, Ok, Err, slice_index_or, slice_set, sym, ap, subst, arith}
use Rattle.std.specs.Prelude.{IfSome}
use Rattle.std.specs.List.{Contains, flat_map}
use Rattle.std.specs.Result.{IsErrAnd}
use Rattle.std.proofs.lemmas.Grind.{flat_map-append}
use Rattle.std.proofs.lemmas.List.{length_push}
use Rattle.ken_disk.specs.Fates.{Fate}
use Rattle.ken_disk.specs.Story.{Story}
use Rattle.ken_model.specs.declared.reports.Emission.{Emission}
use Rattle.ken_model.specs.Game.{Game}
use Rattle.ken_model.specs.Handler.{Handler}
use Rattle.ken_model.specs.Restarts.{NeverFall}
use Rattle.ken_record.specs.declared.effects.Effects.{Effects}
use Rattle.ken_app.specs.Oracles.{Telling}
use Rattle.ken_core.specs.Calls.{Doubt}
use Rattle.ken_core.specs.Nodes.{Node}
use Rattle.ken_core.specs.Packets.{nothing}
use Rattle.ken_store.specs.declared.disks.Disks.{Disks}
use Rattle.ken_store.specs.declared.owner.Owner.{Owner}
use Rattle.ken_ship.specs.declared.faults.NodeFault.{NodeFault}
use Rattle.ken_ship.specs.declared.faults.NodeFault.TheVariants.{Disk, Damaged, Outlet, Memory}
use Rattle.ken_node.specs.declared.stage.Stage.{Stage}
use Rattle.ken_node.specs.declared.watched.Watched.{Watched}
use Rattle.ken_node.specs.NodeCalls.{UnlessMemory}
use Rattle.ken_node.specs.Restarts.{AreUnfailed, RestartsBy, WereRestarted}
use Rattle.ken_node.specs.Stages.{HasDisks, disk_owner, emissions_in, turns_in}
use Rattle.ken_node.specs.Synced.{IsSynced}
use Rattle.ken_run.specs.declared.faults.RunFault.{RunFault}
use Rattle.ken_run.specs.declared.run.Run.{Run}
use Rattle.ken_run.specs.declared.station.Station.{Station}
use Rattle.ken_run.specs.Accounts.{AccountsBy, AccountsFault, AccountsRunBy, AccountsRunFault, AccountsStation, AreRaised, HasDrawn, HasFates, HasOwnDisks, HaveFallen, IsHeld, IsUsedUp, OneIsHeld, Terms, draws_of, doubted, emitted_through, faults_of, numbers_of}
use Rattle.ken_run.specs.Left.{tries_at}
use Rattle.ken_run.specs.Sequences.{IsSubsequence, descents}
use Rattle.ken_run.specs.Stations.{RestartsStation}
use Rattle.ken_run.specs.Devices.{IsOf}
use Rattle.ken_run.proofs.AccountsCalls.{draws-push, failed-sum, run-accounted, run-held, tells-still, unfailed-sum}
use Rattle.ken_run.proofs.AccountsFates.{fates-failed-again, fates-raised, own-down, own-up}
use Rattle.ken_run.proofs.AccountsLists.{descents-one, never-push, sub-front}
use Rattle.ken_run.proofs.AccountsRuns.{TurnsAfterRestart, restart-turns}
use Rattle.ken_run.proofs.Leaving.{tries-is}

-- ---- the turn whose seal was in doubt

-- it may not have landed
front-told : (f : List ℕ → List ℕ) (draws more : List (List ℕ)) (told : Option (List ℕ)) → IfSome told (IsSubsequence (flat_map f (draws ++ more))) → IfSome told (IsSubsequence (flat_map f draws))
front-told f draws more None sub = tt
front-told f draws more (Some xs) sub = sub-front (flat_map f draws) (flat_map f more) xs (subst (λ (ys : List ℕ). IsSubsequence ys xs) (flat_map-append f draws more) sub)

-- what was drawn after the restart
drew-after : {O : Type 0} (telling : Telling O) (h : Handler) (luck : O) (n after : Node) (doubt : Doubt) → TurnsAfterRestart n doubt after → HasDrawn telling h luck (draws_of n.turning.turns ++ doubted doubt) → HasDrawn telling h luck (draws_of after.turning.turns)
drew-after telling h luck n after doubt (inl same) drew =
    subst (λ (ts : List Effects). HasDrawn telling h luck (draws_of ts)) (sym same) (record {
      clocks = front-told h.clocks (draws_of n.turning.turns) (doubted doubt) (telling.clocks luck) drew.clocks;
      words = front-told h.words (draws_of n.turning.turns) (doubted doubt) (telling.words luck) drew.words;
    })
drew-after telling h luck n after doubt (inr landed) drew =
    subst (λ (ds : List (List ℕ)). HasDrawn telling h luck ds)
    (ap (λ (ds : List (List ℕ)). draws_of n.turning.turns ++ ds) landed.1.1 ∙ sym (draws-push n.turning.turns landed.0) ∙ sym (ap (λ (ts : List Effects). draws_of ts) landed.1.0)) drew

longer-after : (n after : Node) (doubt : Doubt) → TurnsAfterRestart n doubt after → length n.turning.turns ≤ length after.turning.turns
longer-after n after doubt (inl same) = let long : length after.turning.turns ≡ length n.turning.turns = ap (λ (ts : List Effects). length ts) same in omega (arith, long)
longer-after n after doubt (inr landed) =
    let long : length after.turning.turns ≡ length n.turning.turns + 1 = ap (λ (ts : List Effects). length ts) landed.1.0 ∙ length_push n.turning.turns landed.0 in
    omega (arith, long)

restarted-sum : {D : Type 0} (told : D → Option Story) (count : D → ℕ) (fate : D → Option Fate) (pick : ℕ) (a b : Disks D) → WereRestarted told count fate pick a b → faults_of count b ≡ faults_of count a
restarted-sum told count fate pick a b w = let l = w.log.faults in let i = w.image.faults in let s = w.second.faults in omega (arith, l, i, s)

-- ---- a restart

-- after Ok none of the restarted disks failed
up-unfailed : {D : Type 0} (told : D → Option Story) (count : D → ℕ) (fate : D → Option Fate) (o : Owner) (pick : Disks D → ℕ) (old new : Stage D) → ((d d2 : Disks D) → HasDisks d old → HasDisks d2 new → RestartsBy told count fate {T = Unit {0}} o (pick d) (Ok tt) d d2)
    → (d d2 : Disks D) → HasDisks d old → HasDisks d2 new → (mid : Disks D) × (WereRestarted told count fate (pick d) d mid × AreUnfailed told count fate mid d2)
up-unfailed told count fate o pick old new by d d2 had has = let is = by d d2 had has in (is.0, (is.1.0, is.1.1.unfailed))

module _ {D O U : Type 0} (told : Watched D → Option Story) (size : Watched D → ℕ) (count : Watched D → ℕ) (fate : Watched D → Option Fate) (telling : Telling O) (terms : Terms) (g : Game) (v : ℕ) (s s2 : Station D O U) (h : IsHeld told count fate telling terms g v s) (less : s.restarts < terms.most)
    (luck-is : s2.luck ≡ s.luck) (synced : IsSynced told count g v s2.node.stage) (emissions : emissions_in s2.node.stage ≡ emissions_in s.node.stage) where
  origin-still : IsOf terms.scripted telling s2.luck v terms.seed
  origin-still = subst (λ (o : O). IsOf terms.scripted telling o v terms.seed) (sym luck-is) h.books.origin

  pub restart-station : (pick : Disks (Watched D) → ℕ) (result : Result (Unit {0}) NodeFault) → RestartsStation told size result g v h.given h.stood_for h.doubt s s2
      → ((d d2 : Disks (Watched D)) → HasDisks d s.node.stage → HasDisks d2 s2.node.stage → UnlessMemory result (RestartsBy told count fate (disk_owner s.node.stage) (pick d) result d d2)) → AccountsStation told count fate telling terms g result v s2
  restart-station pick (Ok x) b disks =
      let n = h.stood_for in
      let up = b.1.0 in
      let after = up.after in
      let turns = b.0 in
      let now : turns_in s2.node.stage ≡ after.turning.turns = ap turns_in up.stage_is ∙ up.whole.workers.turns.kept in
      let grows : TurnsAfterRestart n h.doubt after = restart-turns g (Contains h.given) v n h.doubt up.call.events nothing after up.call.which up.call.run in
      let was : length (turns_in s.node.stage) ≡ length n.turning.turns = ap (λ (ts : List Effects). length ts) h.down.turns in
      let longer = longer-after n after h.doubt grows in
      let counted : turns ≡ length after.turning.turns = up.count in
      let high : length (turns_in s2.node.stage) ≡ length after.turning.turns = ap (λ (ts : List Effects). length ts) now in
      let tried : s2.restarts ≡ s.restarts + 1 = b.1.2 in
      let long : length s2.lines.items ≡ length s.lines.items + 1 = ap (λ (ls : List ℕ). length ls) b.1.1 ∙ length_push s.lines.items turns in
      let few = h.books.few in
      let none-failed = up-unfailed told count fate (disk_owner s.node.stage) pick s.node.stage s2.node.stage disks in
      record {
        books = record {
          synced = synced;
          own = subst (λ (k : ℕ). HasOwnDisks fate terms.scripted (terms.origins v) k s2.node.stage) (sym tried) (own-up told count fate terms.scripted s.node.stage s2.node.stage h.down.disks h.down.has (terms.origins v) s.restarts h.books.own pick none-failed);
          origin = origin-still;
          lines = subst (λ (ls : List ℕ). NeverFall 0 ls (length (turns_in s2.node.stage))) (sym b.1.1) (subst (λ (k : ℕ). NeverFall 0 (s.lines.items ++ turns ∷ []) k) (counted ∙ sym high) (never-push 0 s.lines.items (length (turns_in s.node.stage)) turns h.books.lines (omega (arith, longer, counted, was))));
          few = omega (arith, few, long, tried);
          most = omega (arith, less, tried);
        };
        drew = subst (λ (o : O). HasDrawn telling g.handler o (draws_of (turns_in s2.node.stage))) (sym luck-is)
            (subst (λ (ts : List Effects). HasDrawn telling g.handler s.luck (draws_of ts)) (sym now) (drew-after telling g.handler s.luck n after h.doubt grows (subst (λ (ts : List Effects). HasDrawn telling g.handler s.luck (draws_of ts ++ doubted h.doubt)) h.down.turns h.drew)));
        tells = tells-still terms.scripted telling s.luck (length (turns_in s.node.stage) + s.restarts + 1) h.tells s2.luck (length (turns_in s2.node.stage) + s2.restarts) luck-is (omega (arith, longer, was, high, tried));
        causes = λ d2 h2.
            let by = disks h.down.disks d2 h.down.has h2 in
            let mid = restarted-sum told count fate (pick h.down.disks) h.down.disks by.0 by.1.0 in
            let end = unfailed-sum told count fate by.0 d2 by.1.1.unfailed in
            let so = h.causes h.down.disks h.down.has in
            omega (arith, mid, end, so, tried);
        fates = subst (λ (k : ℕ). HasFates fate terms.scripted (AreRaised (terms.cuts v) k) s2.node.stage) (sym tried) (fates-raised told count fate terms.scripted s.node.stage s2.node.stage h.down.disks h.down.has (terms.cuts v) (s.restarts + 1) pick none-failed h.fates);
        calm = λ none. absurd (let empty : length s2.lines.items ≡ 0 = ap (λ (ls : List ℕ). length ls) none in omega (arith, empty, long));
        again =
            let again = h.again in
            let one = descents-one 0 (numbers_of (emissions_in s2.node.stage)) (emitted_through s2.node.stage + 1) in
            let same : descents 0 (numbers_of (emissions_in s2.node.stage)) ≡ descents 0 (numbers_of (emissions_in s.node.stage)) = ap (λ (es : List Emission). descents 0 (numbers_of es)) emissions in
            omega (arith, again, one, same, long);
      }
  restart-station pick (Err Disk) b disks =
      let turns : turns_in s2.node.stage ≡ turns_in s.node.stage = b.0.turns ∙ sym h.down.turns in
      let tried : s2.restarts ≡ s.restarts + 1 = b.2 in
      let few = h.books.few in
      let long : length s2.lines.items ≡ length s.lines.items = ap (λ (ls : List ℕ). length ls) b.1 in
      record {
        books = record {
          synced = synced;
          own = subst (λ (k : ℕ). HasOwnDisks fate terms.scripted (terms.origins v) k s2.node.stage) (sym tried) (own-down told count fate terms.scripted s.node.stage s2.node.stage h.down.disks h.down.has (terms.origins v) s.restarts h.books.own pick disks);
          origin = origin-still;
          lines = subst (λ (ls : List ℕ). NeverFall 0 ls (length (turns_in s2.node.stage))) (sym b.1) (subst (λ (ts : List Effects). NeverFall 0 s.lines.items (length ts)) (sym turns) h.books.lines);
          few = omega (arith, few, long, tried);
          most = omega (arith, less, tried);
        };
        given = h.given;
        stood_for = h.stood_for;
        doubt = h.doubt;
        down = b.0;
        drew = subst (λ (o : O). HasDrawn telling g.handler o (draws_of (turns_in s2.node.stage) ++ doubted h.doubt)) (sym luck-is) (subst (λ (ts : List Effects). HasDrawn telling g.handler s.luck (draws_of ts ++ doubted h.doubt)) (sym turns) h.drew);
        tells = let same : length (turns_in s2.node.stage) ≡ length (turns_in s.node.stage) = ap (λ (ts : List Effects). length ts) turns in
            tells-still terms.scripted telling s.luck (length (turns_in s.node.stage) + s.restarts + 1) h.tells s2.luck (length (turns_in s2.node.stage) + s2.restarts + 1) luck-is (omega (arith, same, tried));
        causes = λ d2 h2.
            let by = disks h.down.disks d2 h.down.has h2 in
            let mid : faults_of count by.0 ≡ faults_of count h.down.disks = restarted-sum told count fate (pick h.down.disks) h.down.disks by.0 by.1.0 in
            let so : min (s.restarts + 1) (2 ^ 64 - 1) ≤ faults_of count h.down.disks = h.causes h.down.disks h.down.has in
            let end : min (s.restarts + 1 + 1) (2 ^ 64 - 1) ≤ faults_of count d2 = failed-sum told count fate (s.restarts + 1) by.0 d2 by.1.1 (omega (arith, mid, so)) in
            omega (arith, end, tried);
        fates = subst (λ (k : ℕ). HasFates fate terms.scripted (HaveFallen (terms.cuts v) (k + 1)) s2.node.stage) (sym tried) (fates-failed-again told count fate terms.scripted s.node.stage s2.node.stage h.down.disks h.down.has (terms.cuts v) (s.restarts + 1) pick disks h.fates);
        again =
            let again = h.again in
            let same : descents 0 (numbers_of (emissions_in s2.node.stage)) ≡ descents 0 (numbers_of (emissions_in s.node.stage)) = ap (λ (es : List Emission). descents 0 (numbers_of es)) emissions in
            omega (arith, again, same, long);
      }
  restart-station pick (Err Memory) b disks = tt
  restart-station pick (Err Outlet) b disks = absurd b
  restart-station pick (Err (Damaged disk place)) b disks = absurd b

-- of a run whose node was down
module _ {D O U A : Type 0} (told : Watched D → Option Story) (size : Watched D → ℕ) (count : Watched D → ℕ) (fate : Watched D → Option Fate) (telling : Telling O) (terms : Terms) (g : Game) (made : ℕ) (r r2 : Run D O U A) (v : ℕ) (s s2 : Station D O U)
    (is : slice_index_or r.stations.items v s ≡ s) (held : OneIsHeld told count fate telling terms g made v r) where
  pub held-before : IsHeld told count fate telling terms g v s
  held-before = subst (IsHeld told count fate telling terms g v) is (held.held s)

  pub restart-accounts : length r.stations.items ≡ made → v < made → r2.stations.items ≡ slice_set r.stations.items v s2 → r2.restarts ≡ r.restarts
      → (result : Result (Unit {0}) NodeFault) → AccountsStation told count fate telling terms g result v s2 → AccountsBy told count fate telling terms g result made v r2
  restart-accounts width low stations kept (Ok x) by = run-accounted told count fate telling terms g made r r2 v s2 width low stations (kept ∙ held.most) held.others by
  restart-accounts width low stations kept (Err Disk) by = run-held told count fate telling terms g made r r2 v s2 width low stations (kept ∙ held.most) held.others by
  restart-accounts width low stations kept (Err Memory) by = tt
  restart-accounts width low stations kept (Err Outlet) by = absurd by
  restart-accounts width low stations kept (Err (Damaged disk place)) by = tt

-- a restart's error is its node's
pub restart-disks-err : {D : Type 0} (told : D → Option Story) (count : D → ℕ) (fate : D → Option Fate) (o : Owner) (pick : ℕ) (result : Result (Unit {0}) NodeFault) (fault : NodeFault) (a b : Disks D) → IsErrAnd result (λ e. e ≡ fault) → RestartsBy told count fate {T = ℕ} o pick (Err fault) a b → UnlessMemory result (RestartsBy told count fate o pick result a b)
restart-disks-err told count fate o pick (Ok x) fault a b same by = absurd same
restart-disks-err told count fate o pick (Err Disk) fault a b same by = subst (λ (x : NodeFault). RestartsBy told count fate {T = ℕ} o pick (Err x) a b) (sym same) by
restart-disks-err told count fate o pick (Err Memory) fault a b same by = tt
restart-disks-err told count fate o pick (Err Outlet) fault a b same by = subst (λ (x : NodeFault). RestartsBy told count fate {T = ℕ} o pick (Err x) a b) (sym same) by
restart-disks-err told count fate o pick (Err (Damaged disk place)) fault a b same by = subst (λ (x : NodeFault). RestartsBy told count fate {T = ℕ} o pick (Err x) a b) (sym same) by

-- ---- one call after another

module _ {D O U A T : Type 0} (told : Watched D → Option Story) (count : Watched D → ℕ) (fate : Watched D → Option Fate) (telling : Telling O) (terms : Terms) (g : Game) (made : ℕ) (r : Run D O U A) where
  -- a fault that is handed on leaves what it left
  pub accounts-handed-on : (v : ℕ) (result : Result T NodeFault) (fault : NodeFault) → IsErrAnd result (λ e. e ≡ fault) → AccountsFault told count fate telling terms g fault made v r → AccountsBy told count fate telling terms g result made v r
  accounts-handed-on v (Ok x) fault same is = absurd same
  accounts-handed-on v (Err e) fault same is = subst (λ (x : NodeFault). AccountsFault told count fate telling terms g x made v r) (sym same) is

  pub run-accounts-handed-on : (result : Result T RunFault) (fault : RunFault) → IsErrAnd result (λ e. e ≡ fault) → AccountsRunFault told count fate telling terms g fault made r → AccountsRunBy told count fate telling terms g result made r
  run-accounts-handed-on (Ok x) fault same is = absurd same
  run-accounts-handed-on (Err e) fault same is = subst (λ (x : RunFault). AccountsRunFault told count fate telling terms g x made r) (sym same) is

-- a node that was restarted as often as it may be has used up its restarts
pub used-up : {D O U A : Type 0} (told : Watched D → Option Story) (count : Watched D → ℕ) (fate : Watched D → Option Fate) (telling : Telling O) (terms : Terms) (g : Game) (made v : ℕ) (r : Run D O U A) → v < length r.stations.items → terms.most ≤ tries_at r.stations.items v
    → OneIsHeld told count fate telling terms g made v r → IsUsedUp told count fate telling terms g made v r
used-up told count fate telling terms g made v r low many held = record {
  held = held;
  none_left = λ d. let tries = tries-is r.stations.items v d low in let most = (held.held d).books.most in omega (arith, many, tries, most);
}
