-- What follows from what a run keeps account of.
use Rattle.std.proofs.Common.{◌≡◌, ◌∙◌, ℕ, ◌+◌, ◌-◌, ◌^◌, ◌<◌, ◌≤◌, min, List, [], ◌∷◌, length, map, Option, Some, slice_index_or, refl, ap, subst, arith}
use Rattle.ken_disk.specs.Fates.{Fate}
use Rattle.ken_disk.specs.Story.{Story}
use Rattle.ken_model.specs.declared.messages.Out.{Out}
use Rattle.ken_model.specs.declared.reports.Emission.{Emission}
use Rattle.ken_model.specs.Emissions.{emitted_by}
use Rattle.ken_model.specs.Game.{Game}
use Rattle.ken_model.specs.Handler.{Handler}
use Rattle.ken_model.specs.Restarts.{NeverFall}
use Rattle.ken_record.specs.declared.effects.Effects.{Effects}
use Rattle.ken_app.specs.Oracles.{Telling}
use Rattle.ken_core.specs.Clusters.{emissions_by}
use Rattle.ken_core.specs.Nodes.{Node}
use Rattle.ken_store.specs.declared.disks.Disks.{Disks}
use Rattle.ken_node.specs.declared.watched.Watched.{Watched}
use Rattle.ken_node.specs.Stages.{HasDisks, emissions_in, turns_in}
use Rattle.ken_node.specs.Synced.{UpHasSynced}
use Rattle.ken_node.specs.Up.{IsUp}
use Rattle.ken_run.specs.declared.run.Run.{Run}
use Rattle.ken_run.specs.declared.station.Station.{Station}
use Rattle.ken_run.specs.Accounts.{AreAccounted, HasDrawn, IsAccounted, IsUsedUp, Terms, draws_of, emitted_through, faults_of, numbers_of}
use Rattle.ken_run.specs.Known.{HasAccount}
use Rattle.ken_run.specs.Running.{IsRunning}
use Rattle.ken_run.specs.Sequences.{descents}
use Rattle.ken_run.specs.Stations.{HasEmitted}
use Rattle.ken_run.proofs.AccountsCalls.{up-turns}
use Rattle.ken_run.proofs.AccountsLists.{descents-front}

module _ {D O U : Type 0} (told : Watched D → Option Story) (count : Watched D → ℕ) (fate : Watched D → Option Fate) (telling : Telling O) (terms : Terms) (g : Game) (v : ℕ) where
  -- a node that went on by a restart has a disk that failed
  pub line-caused : (s : Station D O U) (disks : Disks (Watched D)) → IsAccounted told count fate telling terms g v s → HasDisks disks s.node.stage → 0 < length s.lines.items → 0 < faults_of count disks
  line-caused s disks is has some = let few = is.books.few in let causes = is.causes disks has in omega (arith, some, few, causes)

  -- and one that did by none has none
  pub no-line-calm : (s : Station D O U) (disks : Disks (Watched D)) → IsAccounted told count fate telling terms g v s → HasDisks disks s.node.stage → s.lines.items ≡ [] → faults_of count disks ≡ 0
  no-line-calm s disks is has none = is.calm none disks has

  module _ {A : Type 0} (made : ℕ) (r : Run D O U A) (is : IsUsedUp told count fate telling terms g made v r) (d : Station D O U) (disks : Disks (Watched D)) (has : HasDisks disks (slice_index_or r.stations.items v d).node.stage) where
    -- where a run stopped at a node that is down, calls of its disks failed more often than it may be restarted
    pub used-up-failed : min (terms.most + 1) (2 ^ 64 - 1) ≤ faults_of count disks
    used-up-failed = let often = is.none_left d in let causes = (is.held.held d).causes disks has in omega (arith, often, causes)

    -- and where the disks tell of their falls, they were handed more cuts
    pub used-up-cuts : (l i s : Fate) → fate disks.log ≡ Some l → fate disks.image ≡ Some i → fate disks.second ≡ Some s → terms.most < terms.cuts v
    used-up-cuts l i s x y z = let often = is.none_left d in let falls = ((is.held.held d).fates disks has).falls l i s x y z in omega (arith, often, falls)

-- ---- by the node of the core

numbers-by : (v : ℕ) (outs : List Out) → numbers_of (emissions_by v outs) ≡ map (λ (o : Out). o.number) outs
numbers-by v [] = refl
numbers-by v (o ∷ os) = ap (λ ns. o.number ∷ ns) (numbers-by v os)

module _ {D O U A : Type 0} (told : Watched D → Option Story) (size : Watched D → ℕ) (took : U → Option (List Out)) (handles : A → Handler) (count : Watched D → ℕ) (fate : Watched D → Option Fate) (telling : Telling O) (terms : Terms) (g : Game) (law : UpHasSynced told size count) where
  -- the law is that of `a_node_has_synced`
  pub account-of : (v : ℕ) (n : Node) (outs : List Out) (s : Station D O U) → IsUp told size g v n s.node.stage → HasEmitted took v outs s → IsAccounted told count fate telling terms g v s → HasAccount told count fate telling terms g v n outs s
  account-of v n outs s up emitted is =
      let turns : turns_in s.node.stage ≡ n.turning.turns = up-turns told size g v n s.node.stage up in
      record {
        synced = λ disks has. law g v n s.node.stage disks up is.books.synced has;
        drew = subst (λ (ts : List Effects). HasDrawn telling g.handler s.luck (draws_of ts)) turns is.drew;
        origin = is.books.origin;
        lines = subst (λ (ts : List Effects). NeverFall 0 s.lines.items (length ts)) turns is.books.lines;
        few = is.books.few;
        most = is.books.most;
        causes = is.causes;
        calm = is.calm;
        fates = is.fates;
        again =
            let front = descents-front 0 (numbers_of (emissions_in s.node.stage)) (emitted_through s.node.stage + 1) in
            let again = is.again in
            let same : descents 0 (numbers_of (emissions_in s.node.stage)) ≡ descents 0 (map (λ (o : Out). o.number) outs) = ap (λ (es : List Emission). descents 0 (numbers_of es)) emitted.kept ∙ ap (λ (ns : List ℕ). descents 0 ns) (numbers-by v outs) in
            omega (arith, front, again, same);
      }

  -- so of each node of a run
  pub accounts-of : (made : ℕ) (r : Run D O U A) (running : IsRunning told size took handles g made r) → AreAccounted told count fate telling terms g made r → (v : ℕ) (d : Station D O U) → v < made
      → HasAccount told count fate telling terms g v (running.nodes v) (emitted_by v running.emissions) (slice_index_or r.stations.items v d)
  accounts-of made r running accounted v d low =
      account-of v (running.nodes v) (emitted_by v running.emissions) (slice_index_or r.stations.items v d) (running.up v d low) (running.stands.each v d low).emitted (accounted.each v d low)
