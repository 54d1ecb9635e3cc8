-- What a run that has ended leaves with its world.
use Rattle.std.proofs.Common.{arith, ◌≡◌, ◌∙◌, ℕ, suc, zero, ◌+◌, ◌*◌, ◌<◌, ◌≤◌, Bool, true, false, ◌==◌, List, [], ◌∷◌, ◌++◌, length, map, filter, slice_index_or, Option, Some, None, IfSome, refl, sym, ap, subst, ◌≢◌, eq-eqb}
use Rattle.std.proofs.lemmas.Bool.{ne_eqb}
use Rattle.std.proofs.lemmas.List.{append-nil, map-append}
use Rattle.std.proofs.lemmas.List.Elements.{filter-append}
use Rattle.std.specs.List.{AllByRecursion, flat_map}
use Rattle.ken_disk.specs.Fates.{Fate}
use Rattle.ken_disk.specs.Story.{Story}
use Rattle.ken_model.specs.declared.messages.Out.{Out}
use Rattle.ken_model.specs.declared.messages.Step.{Step}
use Rattle.ken_model.specs.declared.reports.Lines.{Lines}
use Rattle.ken_model.specs.declared.reports.RestartLine.{RestartLine}
use Rattle.ken_model.specs.declared.reports.TurnLine.{TurnLine}
use Rattle.ken_model.specs.Emissions.{emitted_by}
use Rattle.ken_model.specs.Game.{Game}
use Rattle.ken_model.specs.Handler.{Handler}
use Rattle.ken_model.specs.History.{lines_by}
use Rattle.ken_model.specs.Laws.{steps_of}
use Rattle.ken_model.specs.Schedule.{play}
use Rattle.ken_model.specs.Restarts.{NeverFall, restarts_of}
use Rattle.ken_record.specs.declared.effects.Effects.{Effects}
use Rattle.ken_core.specs.Clusters.{emissions_by}
use Rattle.ken_core.specs.Laws.{HistoryIsLegal, IsPlayedBy}
use Rattle.ken_core.specs.Turns.{effects_line}
use Rattle.ken_store.specs.declared.disks.Disks.{Disks}
use Rattle.ken_store.specs.Apart.{ApartRecovers}
use Rattle.ken_node.specs.declared.watched.Watched.{Watched}
use Rattle.ken_node.specs.Stages.{HasDisks, emissions_in, turns_in}
use Rattle.ken_node.specs.Synced.{HasSynced, UpHasSynced}
use Rattle.ken_node.specs.Up.{IsUp}
use Rattle.ken_flow.specs.Groups.{group_of}
use Rattle.ken_run.specs.declared.run.Run.{Run}
use Rattle.ken_run.specs.declared.station.Station.{Station}
use Rattle.ken_run.specs.Accounts.{AreAccounted, AreOwnDisks, IsAccounted, TellsAtMost, Terms, draws_of, emitted_through, faults_of, numbers_of}
use Rattle.ken_drive.specs.Driven.{HaveCauses, KeepsNode, KeepsRun, Views, out_numbers, steps_at}
use Rattle.ken_drive.specs.Ended.{IsEnded, IsReportOf, restarts_from}
use Rattle.ken_drive.specs.Finishing.{WasKept, unwatched}
use Rattle.ken_run.specs.Patched.{HasGoneOn, HasItsImage, HaveImages}
use Rattle.ken_drive.specs.Recovering.{HoldsHeapAt, RecoversAt}
use Rattle.ken_run.specs.Refusals.{AreRefused, IsRefused}
use Rattle.ken_run.specs.Running.{IsRunning}
use Rattle.ken_run.specs.Devices.{IsTold, MayFailAt}
use Rattle.ken_app.specs.declared.turn.TheConstants.{MAX_DRAWS}
use Rattle.ken_run.proofs.Fewer.{few-turns}
use Rattle.ken_run.specs.Sequences.{IsSubsequence, descents}
use Rattle.ken_drive.proofs.CutsMet.{raised-met, unwatched-met}
use Rattle.ken_drive.proofs.Recovering.{up-recovers, up-image}

-- an element of a list
pub record HasElement {A : Type 0} (xs : List A) (v : ℕ) : Type 0 where
  pub element : A
  pub is : slice_index_or xs v element ≡ element

pub element-at : {A : Type 0} (xs : List A) (v : ℕ) → v < length xs → HasElement xs v
element-at [] v low = absurd (omega (arith, low))
element-at (x ∷ xs) zero low = record { element = x; is = refl }
element-at (x ∷ xs) (suc v) low = let rest = element-at xs v (omega (arith, low)) in record { element = rest.element; is = rest.is }

-- ---- restart lines

lines-here : (v : ℕ) (turns : List ℕ) → map (λ (l : RestartLine). l.turns) (filter (λ (l : RestartLine). l.node == v) (map (λ (n : ℕ). record { node = v; turns = n }) turns)) ≡ turns
lines-here v [] = refl
lines-here v (t ∷ ts) = rw (eq-eqb v v refl) (ap (λ (xs : List ℕ). t ∷ xs) (lines-here v ts))

lines-there : (u v : ℕ) (turns : List ℕ) → u ≢ v → filter (λ (l : RestartLine). l.node == v) (map (λ (n : ℕ). record { node = u; turns = n }) turns) ≡ []
lines-there u v [] ne = refl
lines-there u v (t ∷ ts) ne = rw (ne_eqb u v ne) (lines-there u v ts ne)

restarts-both : (v : ℕ) (xs ys : List RestartLine) → restarts_of v (xs ++ ys) ≡ restarts_of v xs ++ restarts_of v ys
restarts-both v xs ys = simp (filter-append, map-append)

module _ {D O U : Type 0} where
  restarts-past : (v u : ℕ) (ss : List (Station D O U)) → v < u → restarts_of v (restarts_from u ss) ≡ []
  restarts-past v u [] low = refl
  restarts-past v u (s ∷ ss) low =
      restarts-both v (map (λ (n : ℕ). record { node = u; turns = n }) s.lines.items) (restarts_from (u + 1) ss)
      ∙ ap (λ (xs : List RestartLine). map (λ (l : RestartLine). l.turns) xs ++ restarts_of v (restarts_from (u + 1) ss)) (lines-there u v s.lines.items (λ same. omega (arith, same, low)))
      ∙ restarts-past v (u + 1) ss (omega (arith, low))

  pub restarts-at : (v u : ℕ) (ss : List (Station D O U)) (s : Station D O U) → slice_index_or ss v s ≡ s → v < length ss → restarts_of (u + v) (restarts_from u ss) ≡ s.lines.items
  restarts-at v u [] s is low = absurd (omega (arith, low))
  restarts-at zero u (x ∷ ss) s is low =
      let at : u + zero ≡ u = omega arith in
      restarts-both (u + zero) (map (λ (n : ℕ). record { node = u; turns = n }) x.lines.items) (restarts_from (u + 1) ss)
      ∙ ap (λ (xs : List ℕ). xs ++ restarts_of (u + zero) (restarts_from (u + 1) ss)) (subst (λ (k : ℕ). restarts_of k (map (λ (n : ℕ). record { node = u; turns = n }) x.lines.items) ≡ x.lines.items) (sym at) (lines-here u x.lines.items))
      ∙ ap (λ (xs : List ℕ). x.lines.items ++ xs) (restarts-past (u + zero) (u + 1) ss (omega arith))
      ∙ append-nil x.lines.items
      ∙ ap (λ (y : Station D O U). y.lines.items) is
  restarts-at (suc v) u (x ∷ ss) s is low =
      let at : u + suc v ≡ u + 1 + v = omega arith in
      restarts-both (u + suc v) (map (λ (n : ℕ). record { node = u; turns = n }) x.lines.items) (restarts_from (u + 1) ss)
      ∙ ap (λ (xs : List RestartLine). map (λ (l : RestartLine). l.turns) xs ++ restarts_of (u + suc v) (restarts_from (u + 1) ss)) (lines-there u (u + suc v) x.lines.items (λ same. omega (arith, same)))
      ∙ ap (λ (k : ℕ). restarts_of k (restarts_from (u + 1) ss)) at
      ∙ restarts-at v (u + 1) ss s is (omega (arith, low))

-- ---- draws

step-by : (v : ℕ) (l : TurnLine) (ls : List TurnLine) (b : Bool) → (l.step.node == v) ≡ b → steps_at v (steps_of ls) ≡ map (λ (x : TurnLine). x.step) (lines_by v ls) → steps_at v (steps_of (l ∷ ls)) ≡ map (λ (x : TurnLine). x.step) (lines_by v (l ∷ ls))
step-by v l ls true e rest = rw e (ap (λ (xs : List Step). l.step ∷ xs) rest)
step-by v l ls false e rest = rw e rest

steps-by : (v : ℕ) (lines : List TurnLine) → steps_at v (steps_of lines) ≡ map (λ (l : TurnLine). l.step) (lines_by v lines)
steps-by v [] = refl
steps-by v (l ∷ ls) = step-by v l ls (l.step.node == v) refl (steps-by v ls)

drew-by : (read : List ℕ → List ℕ) (v : ℕ) (turns : List Effects) → flat_map (λ (s : Step). read s.draws) (map (λ (l : TurnLine). l.step) (map (effects_line v) turns)) ≡ flat_map read (draws_of turns)
drew-by read v [] = refl
drew-by read v (t ∷ ts) = ap (λ (xs : List ℕ). read t.draws ++ xs) (drew-by read v ts)

-- ---- emitted numbers

out-numbers : (v : ℕ) (outs : List Out) → numbers_of (emissions_by v outs) ≡ out_numbers outs
out-numbers v [] = refl
out-numbers v (o ∷ os) = ap (λ (xs : List ℕ). o.number ∷ xs) (out-numbers v os)

fewer-descents : (before : ℕ) (xs ys : List ℕ) → descents before xs ≤ descents before (xs ++ ys)
fewer-descents before [] ys = omega arith
fewer-descents before (x ∷ xs) ys = let rest = fewer-descents x xs ys in omega (arith, rest)

-- ---- a node

-- what holds of what is told holds in a scripted world where it is told
told-that : (scripted : Bool) (told : Option (List ℕ)) (Q P : List ℕ → Type 0) → IfSome told P → (scripted ≡ true → IsTold true told Q) → IsTold scripted told P
told-that scripted (Some xs) Q P is all = is
told-that true None Q P is all = all refl
told-that false None Q P is all = tt

module _ {D O U A : Type 0} (views : Views D O U) (size : D → ℕ) (handles : A → Handler) (g : Game) (r : Run D O U A) (terms : Terms) (l : Lines) where
  abbrev told-of : Watched D → Option Story
  told-of w = views.told w.disk

  abbrev size-of : Watched D → ℕ
  size-of w = size w.disk

  abbrev faults-in : Watched D → ℕ
  faults-in w = views.faults w.disk

  abbrev fate-of : Watched D → Option Fate
  fate-of w = views.fate w.disk

  module _ (ended : IsEnded told-of size-of views.took handles g r) (report : IsReportOf told-of size-of views.took handles g r ended l) (accounts : AreAccounted told-of faults-in fate-of views.telling terms g ended.made r) (refusals : AreRefused views.refused views.calls terms ended.made r)
      (images : HaveImages told-of r) (few : terms.most ≤ 1000) (legal : HistoryIsLegal) (apart : ApartRecovers told-of size-of) (synced : UpHasSynced told-of size-of faults-in) where
    abbrev running : IsRunning told-of size-of views.took handles g ended.made r
    running = ended.running

    played : IsPlayedBy g (group_of g running.nodes running.emissions) l.turns
    played = legal g (group_of g running.nodes running.emissions) l.turns running.stands.accord report.history

    module _ (v : ℕ) (low : v < g.nodes) (s : Station D O U) (is : slice_index_or r.stations.items v s ≡ s) where
      made-low : v < ended.made
      made-low = subst (λ (n : ℕ). v < n) (sym ended.all) low

      up : IsUp told-of size-of g v (running.nodes v) s.node.stage
      up = subst (λ (x : Station D O U). IsUp told-of size-of g v (running.nodes v) x.node.stage) is (running.up v s made-low)

      books : IsAccounted told-of faults-in fate-of views.telling terms g v s
      books = subst (IsAccounted told-of faults-in fate-of views.telling terms g v) is (accounts.each v s made-low)

      may : MayFailAt terms.scripted v (terms.fails v) (views.calls s.out)
      may = (subst (IsRefused views.refused views.calls terms v) is (refusals.each v s made-low)).fails

      turns-are : turns_in s.node.stage ≡ (running.nodes v).turning.turns
      turns-are = ap turns_in up.stage_is ∙ up.whole.workers.turns.kept

      turn-count : length (turns_in s.node.stage) ≡ ((play g (steps_of l.turns)).place v).turns
      turn-count = ap length turns-are ∙ (played.place v).turns

      -- what its turns drew
      drew : (read : List ℕ → List ℕ) → flat_map read (draws_of (turns_in s.node.stage)) ≡ flat_map (λ (st : Step). read st.draws) (steps_at v (steps_of l.turns))
      drew read =
          ap (λ (ts : List Effects). flat_map read (draws_of ts)) turns-are
          ∙ sym (drew-by read v (running.nodes v).turning.turns)
          ∙ ap (λ (ls : List TurnLine). flat_map (λ (st : Step). read st.draws) (map (λ (x : TurnLine). x.step) ls)) (sym (report.history.parts v))
          ∙ ap (flat_map (λ (st : Step). read st.draws)) (sym (steps-by v l.turns))

      -- its oracle tells all that it has answered: few turns may have been begun
      tells : terms.scripted ≡ true → TellsAtMost views.telling s.luck (MAX_DRAWS * (length (turns_in s.node.stage) + s.restarts))
      tells scripted =
          let made : length (turns_in s.node.stage) ≡ length (running.nodes v).turning.turns = ap length turns-are in
          let short = few-turns g running.nodes running.emissions v running.stands.accord in
          let limit = running.stands.limits.few_turns in
          let most = books.books.most in
          books.tells scripted (omega (arith, made, short, limit, most, few))

      drawn : (told : Option (List ℕ)) (read : List ℕ → List ℕ) → IfSome told (IsSubsequence (flat_map read (draws_of (turns_in s.node.stage)))) → (terms.scripted ≡ true → IsTold true told (λ xs. length xs ≤ MAX_DRAWS * (length (turns_in s.node.stage) + s.restarts)))
          → IsTold terms.scripted told (IsSubsequence (flat_map (λ (st : Step). read st.draws) (steps_at v (steps_of l.turns))))
      drawn told read is all = told-that terms.scripted told (λ xs. length xs ≤ MAX_DRAWS * (length (turns_in s.node.stage) + s.restarts)) (IsSubsequence (flat_map (λ (st : Step). read st.draws) (steps_at v (steps_of l.turns)))) (subst (λ (ds : List ℕ). IfSome told (IsSubsequence ds)) (drew read) is) all

      -- what it emitted
      abbrev outs : List Out
      outs = emitted_by v l.emissions

      outs-are : outs ≡ emitted_by v running.emissions
      outs-are = report.emitted v low

      emitted-are : emissions_in s.node.stage ≡ emissions_by v outs
      emitted-are =
          subst (λ (x : Station D O U). emissions_in x.node.stage ≡ emissions_by v (emitted_by v running.emissions)) is (running.stands.each v s made-low).emitted.kept
          ∙ ap (emissions_by v) (sym outs-are)

      restarts-are : restarts_of v l.restarts ≡ s.lines.items
      restarts-are =
          ap (restarts_of v) report.restarts
          ∙ ap (λ (k : ℕ). restarts_of k (restarts_from 0 r.stations.items)) (let e : v ≡ 0 + v = omega arith in e)
          ∙ restarts-at v 0 r.stations.items s is (subst (λ (n : ℕ). v < n) (sym running.stands.width) made-low)

      again : descents 0 (out_numbers outs) ≤ length s.lines.items
      again =
          let all = books.again in
          let front = fewer-descents 0 (numbers_of (emissions_in s.node.stage)) ((emitted_through s.node.stage + 1) ∷ []) in
          let same : numbers_of (emissions_in s.node.stage) ≡ out_numbers outs = ap numbers_of emitted-are ∙ out-numbers v outs in
          let count : descents 0 (numbers_of (emissions_in s.node.stage)) ≡ descents 0 (out_numbers outs) = ap (descents 0) same in
          omega (arith, all, front, count)

      module _ (disks : Disks (Watched D)) (has : HasDisks disks s.node.stage) where
        causes : HaveCauses (faults_of views.faults (unwatched disks)) s.restarts ((play g (steps_of l.turns)).place v).turns (restarts_of v l.restarts) (out_numbers outs)
        causes =
            let failed = books.causes disks has in
            let most = books.books.most in
            let lines = books.books.few in
            subst (λ (xs : List ℕ). HaveCauses (faults_of views.faults (unwatched disks)) s.restarts ((play g (steps_of l.turns)).place v).turns xs (out_numbers outs)) (sym restarts-are)
            (record {
              rise = subst (NeverFall 0 s.lines.items) turn-count books.books.lines;
              few = lines;
              causes = omega (arith, failed, most, few);
              none = λ none. books.calm none disks has;
              again = again;
            })

        owned : AreOwnDisks views.fate terms.scripted (terms.origins v) s.restarts (unwatched disks)
        owned = let own = books.books.own disks has in record { log = own.log; image = own.image; second = own.second }

        recovers : RecoversAt views.told g v (play g (steps_of l.turns)) (unwatched disks)
        recovers =
            let watched = up-recovers told-of size-of g v running.nodes running.emissions l.turns s.node.stage running.stands.accord played up apart disks has in
            record { state = watched.state; recovers = watched.recovers; is = watched.is }

        -- its image, where it made a turn after its last restart, if any
        image : AllByRecursion (λ n. n < ((play g (steps_of l.turns)).place v).turns) (restarts_of v l.restarts) → HoldsHeapAt views.told g v (play g (steps_of l.turns)) disks.image.disk
        image on =
            let there : v < length r.stations.items = subst (λ (n : ℕ). v < n) (sym running.stands.width) made-low in
            let gone_on : HasGoneOn s = subst (λ (k : ℕ). AllByRecursion (λ n. n < k) s.lines.items) (sym turn-count) (subst (AllByRecursion (λ n. n < ((play g (steps_of l.turns)).place v).turns)) restarts-are on) in
            let is-its = subst (λ (x : Station D O U). HasGoneOn x → HasItsImage told-of x) is (images v s there) gone_on in
            let watched = up-image told-of size-of g v running.nodes running.emissions l.turns s.node.stage running.stands.accord played up apart disks has is-its.patched is-its.rests in
            record { rests = watched.rests; reads = watched.reads }

        keeps-node : (kept : Option (Disks D × O × U)) → kept ≡ Some (unwatched disks, s.luck, s.out) → KeepsNode views g terms v (steps_of l.turns) l.emissions l.restarts kept
        keeps-node kept is-kept = record {
          disks = unwatched disks;
          luck = s.luck;
          out = s.out;
          is = is-kept;
          recovers = recovers;
          image = image;
          synced = subst (λ (n : ℕ). HasSynced told-of faults-in n disks) (played.place v).turns (synced g v (running.nodes v) s.node.stage disks up books.books.synced has);
          took = subst (λ (os : List Out). IfSome (views.took s.out) (λ told. told ≡ os)) (sym outs-are) (subst (λ (x : Station D O U). IfSome (views.took x.out) (λ told. told ≡ emitted_by v running.emissions)) is (running.stands.each v s made-low).emitted.took_it);
          often = s.restarts;
          own = record { oracle = books.books.origin; own_disks = owned; few = books.books.most; met = unwatched-met views.fate terms v s.restarts disks (raised-met fate-of terms v s.restarts s.node.stage books.fates disks has); outlet = may };
          clocks = drawn (views.telling.clocks s.luck) g.handler.clocks books.drew.clocks (λ scripted. (tells scripted).clocks);
          words = drawn (views.telling.words s.luck) g.handler.words books.drew.words (λ scripted. (tells scripted).words);
          causes = causes;
        }

    pub keeps-run : (kept : ℕ → Option (Disks D × O × U)) → ((v : ℕ) (d : Station D O U) → v < length r.stations.items → WasKept (slice_index_or r.stations.items v d) (kept v)) → ((v : ℕ) → length r.stations.items ≤ v → kept v ≡ None)
        → KeepsRun views g terms (steps_of l.turns) l.emissions l.restarts kept
    keeps-run kept each others =
        let width : length r.stations.items ≡ g.nodes = running.stands.width ∙ ended.all in
        record {
          each = λ v low.
              let there : v < length r.stations.items = subst (λ (n : ℕ). v < n) (sym width) low in
              let at = element-at r.stations.items v there in
              let was = subst (λ (x : Station D O U). WasKept x (kept v)) at.is (each v at.element there) in
              keeps-node v low at.element at.is was.disks was.has (kept v) was.is;
          others = λ v past. others v (subst (λ (n : ℕ). n ≤ v) (sym width) past);
        }
