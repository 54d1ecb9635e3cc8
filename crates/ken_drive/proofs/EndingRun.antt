-- What the stations of a run that has ended say.
use Rattle.std.proofs.Common.{◌≡◌, ◌≢◌, ℕ, zero, suc, ◌+◌, ◌-◌, ◌<◌, ◌≤◌, ◌^◌, List, [], ◌∷◌, ◌++◌, map, length, slice_index_or, get_or, take, sum_by, Option, Some, refl, sym, ap, subst, ◌∙◌, ⊎_elim, arith, append_assoc, append-nil, length-append, add-zero, ne_eqb}
use Rattle.std.specs.List.{range_with_len}
use Rattle.std.proofs.lemmas.Bool.{cases_eq, cases_lt}
use Rattle.std.proofs.lemmas.List.Sums.{sum_by-cons}
use Rattle.ken_disk.specs.Story.{Story}
use Rattle.ken_model.specs.declared.messages.Out.{Out}
use Rattle.ken_model.specs.declared.reports.Lines.{Lines}
use Rattle.ken_model.specs.declared.values.Value.{Value}
use Rattle.ken_model.specs.Emissions.{emitted_by}
use Rattle.ken_model.specs.Ending.{nodes_of}
use Rattle.ken_model.specs.Game.{Game}
use Rattle.ken_model.specs.Handler.{Handler}
use Rattle.ken_model.specs.History.{Rises, lines_by}
use Rattle.ken_model.specs.Limits.{IsPlainRun}
use Rattle.ken_model.specs.Network.{inputs_for, outside}
use Rattle.ken_model.specs.Reading.{read_value}
use Rattle.ken_model.specs.Restarts.{AreRestartsByNode}
use Rattle.ken_core.specs.Clusters.{Cluster, IsHistoryOf, emissions_by}
use Rattle.ken_core.specs.Nodes.{Node}
use Rattle.ken_core.specs.Timeline.{StampsRise}
use Rattle.ken_core.specs.Turns.{consumed_from, effects_line, mails_to, sealed}
use Rattle.ken_core.proofs.Rising.{turns_rise}
use Rattle.ken_record.specs.declared.effects.Effects.{Effects}
use Rattle.ken_node.specs.declared.stage.Stage.{Stage}
use Rattle.ken_node.specs.declared.watched.Watched.{Watched}
use Rattle.ken_node.specs.Stages.{HasValue, IsCreated, emissions_in, turns_in}
use Rattle.ken_node.specs.Up.{IsUp}
use Rattle.ken_flow.specs.Groups.{group_of}
use Rattle.ken_flow.specs.Standstill.{sent_on, waits_on}
use Rattle.ken_drive.specs.declared.report.Summary.{Summary}
use Rattle.ken_run.specs.declared.run.Run.{Run}
use Rattle.ken_run.specs.declared.station.Station.{Station}
use Rattle.ken_drive.proofs.RestartOrder.{restarts_by_node}
use Rattle.ken_drive.specs.Ended.{AddsHeap, AreWords, HaveSaid, IsEnded, IsReportOf, emissions_of, ending_of, restart_lines, restarts_from, waits_for, waits_in}
use Rattle.ken_drive.proofs.EndingCounts.{emissions_from, in_range-le}
use Rattle.ken_drive.proofs.EndingFew.{consumed-few, waits-little}
use Rattle.ken_drive.proofs.EndingLists.{gone_over}
use Rattle.ken_drive.proofs.EndingSums.{at_last, at_push, sum-push, sum-so_far}
use Rattle.ken_drive.proofs.EndingTold.{Tells, emitted_is, run_of}

-- ---- one node more

module _ {D O U : Type 0} where
  emissions_of-push : (xs : List (Station D O U)) (x : Station D O U) → emissions_of (xs ++ x ∷ []) ≡ emissions_of xs ++ emissions_in x.node.stage
  emissions_of-push [] x = append-nil (emissions_in x.node.stage)
  emissions_of-push (s ∷ ss) x = ap (λ es. emissions_in s.node.stage ++ es) (emissions_of-push ss x) ∙ sym (append_assoc (emissions_in s.node.stage) (emissions_of ss) (emissions_in x.node.stage))

  restarts_from-push : (v : ℕ) (xs : List (Station D O U)) (x : Station D O U) → restarts_from v (xs ++ x ∷ []) ≡ restarts_from v xs ++ restart_lines (v + length xs) x.lines.items
  restarts_from-push v [] x = append-nil (restart_lines v x.lines.items) ∙ ap (λ k. restart_lines k x.lines.items) (omega arith)
  restarts_from-push v (s ∷ ss) x =
      let count : v + 1 + length ss ≡ v + suc (length ss) = omega arith in
      ap (λ rs. restart_lines v s.lines.items ++ rs) (restarts_from-push (v + 1) ss x ∙ ap (λ k. restarts_from (v + 1) ss ++ restart_lines k x.lines.items) count) ∙ sym (append_assoc (restart_lines v s.lines.items) (restarts_from (v + 1) ss) _)

  length-take-at : (xs : List (Station D O U)) (k : ℕ) → k ≤ length xs → length (take k xs) ≡ k
  length-take-at xs zero le = refl
  length-take-at [] (suc k) le = absurd (omega arith)
  length-take-at (x ∷ xs) (suc k) le = ap suc (length-take-at xs k (omega arith))

  -- at the start no node has said anything
  pub none_said : (stations : List (Station D O U)) (s : Summary) → s.timeline ≡ [] → s.emissions.items ≡ [] → s.restarts.items ≡ [] → s.heaps.items ≡ [] → HaveSaid 0 stations s
  none_said stations s timeline emissions restarts heaps = record {
    parts = λ v d lt. absurd (omega arith);
    others = λ v past. ap (lines_by v) timeline;
    emissions = emissions;
    restarts = restarts;
    words = subst AreWords (sym restarts) tt;
    width = ap length heaps;
    heaps = λ v value d lt. absurd (omega arith);
  }

  -- then one node after the other
  pub one_said : (count : ℕ) (stations : List (Station D O U)) (x : Station D O U) (old new : Summary) → count < length stations → x ≡ get_or stations count x
      → lines_by count new.timeline ≡ map (effects_line count) (turns_in x.node.stage) → ((v : ℕ) → v ≢ count → lines_by v new.timeline ≡ lines_by v old.timeline) → new.emissions.items ≡ old.emissions.items ++ emissions_in x.node.stage
      → new.restarts.items ≡ old.restarts.items ++ restart_lines count x.lines.items → (AreWords old.restarts.items → AreWords new.restarts.items) → AddsHeap x.node.stage old.heaps.items new.heaps.items → HaveSaid count stations old → HaveSaid (count + 1) stations new
  one_said count stations x old new within is its others emissions restarts words heap said =
      let done = gone_over stations count x within is in
      let at : (d : Station D O U) → slice_index_or stations count d ≡ x = λ d. same_at stations count d within ∙ sym is in
      record {
        parts = λ v d lt. ⊎_elim
            (λ (e : v ≡ count). subst (λ k. lines_by k new.timeline ≡ map (effects_line k) (turns_in (slice_index_or stations k d).node.stage)) (sym e) (its ∙ ap (λ (y : Station D O U). map (effects_line count) (turns_in y.node.stage)) (sym (at d))))
            (λ ne. others v ne ∙ said.parts v d (omega arith))
            (cases_eq v count);
        others = λ v past. others v (λ e. omega arith) ∙ said.others v (omega arith);
        emissions = emissions ∙ ap (λ es. es ++ emissions_in x.node.stage) said.emissions ∙ sym (emissions_of-push (take count stations) x) ∙ ap emissions_of (sym done);
        restarts = restarts ∙ ap (λ rs. rs ++ restart_lines count x.lines.items) said.restarts ∙ ap (λ k. restarts_from 0 (take count stations) ++ restart_lines k x.lines.items) (sym (long (length-take-at stations count (omega arith)))) ∙ sym (restarts_from-push 0 (take count stations) x) ∙ ap (restarts_from 0) (sym done);
        words = words said.words;
        width = ap length heap.2 ∙ length-append old.heaps.items (heap.0 ∷ []) ∙ omega (arith, said.width);
        heaps = λ v value d lt. ⊎_elim
            (λ (e : v ≡ count). subst (λ k. HasValue (slice_index_or new.heaps.items k value) (slice_index_or stations k d).node.stage) (sym e)
            (subst (λ (y : Station D O U). HasValue (slice_index_or new.heaps.items count value) y.node.stage) (sym (at d)) (subst (λ (h : Value). HasValue h x.node.stage) (sym (ap (λ (hs : List Value). slice_index_or hs count value) heap.2 ∙ at_last old.heaps.items heap.0 count value said.width)) heap.1)))
            (λ ne. subst (λ (h : Value). HasValue h (slice_index_or stations v d).node.stage) (sym (ap (λ (hs : List Value). slice_index_or hs v value) heap.2 ∙ at_push old.heaps.items heap.0 v value (omega (arith, said.width)))) (said.heaps v value d (omega arith)))
            (cases_eq v count);
      }
    where
      long : length (take count stations) ≡ count → 0 + length (take count stations) ≡ count
      long is = omega arith

      same_at : (xs : List (Station D O U)) (k : ℕ) (d : Station D O U) → k < length xs → slice_index_or xs k d ≡ get_or xs k x
      same_at [] k d lt = absurd (omega arith)
      same_at (y ∷ ys) zero d lt = refl
      same_at (y ∷ ys) (suc k) d lt = same_at ys k d (omega arith)

-- ---- a node that is up

module _ {D : Type 0} (told : D → Option Story) (size : D → ℕ) (g : Game) (v : ℕ) (n : Node) (stage : Stage D) (up : IsUp told size g v n stage) where
  pub up_created : IsCreated stage
  up_created = record { turns = up.handler; patches = up.patcher; sends = up.sender; stage_is = up.stage_is }

  pub up_turns : turns_in stage ≡ n.turning.turns
  up_turns = ap turns_in up.stage_is ∙ up.whole.workers.turns.kept

  pub up_heap : (value : Value) → HasValue value stage → read_value n.turning.pages.heap ≡ Some value
  up_heap value has =
      let there = subst (HasValue value) up.stage_is has in
      ap (λ p. read_value p.heap) up.whole.pages.turning ∙ up.whole.workers.turns.reads ∙ ap (λ (x : Value). Some x) (sym there.0)

-- ---- a run that has ended

module _ {D O U A : Type 0} (told : Watched D → Option Story) (size : Watched D → ℕ) (took : U → Option (List Out)) (handles : A → Handler) (g : Game) (r : Run D O U A) (e : IsEnded told size took handles g r) where
  abbrev c : Cluster
  c = group_of g e.running.nodes e.running.emissions

  abbrev stations : List (Station D O U)
  stations = r.stations.items

  pub ended_width : length r.stations.items ≡ g.nodes
  ended_width = e.running.stands.width ∙ e.all

  pub ended_count : r.nodes ≡ g.nodes
  ended_count = e.running.stands.count ∙ e.all

  pub up_at : (v : ℕ) (d : Station D O U) → v < g.nodes → IsUp told size g v (e.running.nodes v) (slice_index_or r.stations.items v d).node.stage
  up_at v d lt = e.running.up v d (omega (arith, e.all))

  pub turns_at : (v : ℕ) (d : Station D O U) → v < g.nodes → turns_in (slice_index_or r.stations.items v d).node.stage ≡ (e.running.nodes v).turning.turns
  turns_at v d lt = up_turns told size g v (e.running.nodes v) (slice_index_or r.stations.items v d).node.stage (up_at v d lt)

  pub rise_at : (v : ℕ) (d : Station D O U) → v < g.nodes → StampsRise 0 (map (effects_line v) (turns_in (slice_index_or r.stations.items v d).node.stage))
  rise_at v d lt = subst (λ (es : List Effects). StampsRise 0 (map (effects_line v) es)) (sym (turns_at v d lt)) (turns_rise g c v e.running.stands.accord)

  -- the same, by a station that was read
  pub up_there : (v : ℕ) (x : Station D O U) → v < g.nodes → slice_index_or r.stations.items v x ≡ x → IsUp told size g v (e.running.nodes v) x.node.stage
  up_there v x lt is = subst (λ (y : Station D O U). IsUp told size g v (e.running.nodes v) y.node.stage) is (up_at v x lt)

  pub created_there : (v : ℕ) (x : Station D O U) → v < g.nodes → slice_index_or r.stations.items v x ≡ x → IsCreated x.node.stage
  created_there v x lt is = up_created told size g v (e.running.nodes v) x.node.stage (up_there v x lt is)

  pub rise_there : (v : ℕ) (x : Station D O U) → v < g.nodes → slice_index_or r.stations.items v x ≡ x → StampsRise 0 (map (effects_line v) (turns_in x.node.stage))
  rise_there v x lt is = subst (λ (y : Station D O U). StampsRise 0 (map (effects_line v) (turns_in y.node.stage))) is (rise_at v x lt)

  -- what waits for a node is little
  pub ended_few : waits_in g e.running.nodes < 2 ^ 64
  ended_few = waits-little g c e.running.stands.accord e.running.stands.limits e.running.stands.keeps

  -- ---- how much waits

  abbrev at : ℕ → Node
  at = e.running.nodes

  -- more waits in all than for the nodes so far
  pub waiting_more : (waiting k more : ℕ) → k < r.nodes → waiting ≡ sum_by (waits_for g e.running.nodes) (range_with_len 0 k) → more ≡ waits_for g e.running.nodes k → (waiting + more ≡ sum_by (waits_for g e.running.nodes) (range_with_len 0 (k + 1))) × (waiting + more < 2 ^ 64)
  waiting_more waiting k more lt so_far next =
      let known : k < g.nodes = omega (arith, ended_count) in
      (omega (arith, sum-push (waits_for g at) k), omega (arith, sum-so_far (waits_for g at) k g.nodes known, ended_few))

  -- what waits of the inputs of node v, or of what node u has sent to it
  pub waits_of_inputs : (v inputs consumed : ℕ) → inputs ≡ length (inputs_for g v) → consumed ≡ consumed_from outside (e.running.nodes v).turning.turns → (consumed ≤ inputs) × (inputs - consumed ≡ waits_on g e.running.nodes outside v)
  waits_of_inputs v inputs consumed is took =
      let all : sent_on g at outside v ≡ inputs_for g v = refl in
      (omega (arith, ap length all, consumed-few g c e.running.stands.accord outside v), omega (arith, ap length all))

  pub waits_of_node : (u v sent consumed : ℕ) → u < r.nodes → sent ≡ length (mails_to u v (e.running.nodes u).turning.turns) → consumed ≡ consumed_from u (e.running.nodes v).turning.turns → (consumed ≤ sent) × (sent - consumed ≡ waits_on g e.running.nodes u v)
  waits_of_node u v sent consumed lt is took =
      let inside : u ≢ outside = λ same. omega (arith, same, ended_count, e.running.stands.limits.few_nodes) in
      let all : sent_on g at u v ≡ mails_to u v (at u).turning.turns = rw (ne_eqb u outside inside) refl in
      (omega (arith, ap length all, consumed-few g c e.running.stands.accord u v), omega (arith, ap length all))

  -- so much waits for node v before its senders are looked at
  pub waiting_none : (v waiting : ℕ) → waiting ≡ waits_on g e.running.nodes outside v → waiting ≡ waits_on g e.running.nodes outside v + sum_by (λ u. waits_on g e.running.nodes u v) (range_with_len 0 0)
  waiting_none v waiting is = is ∙ sym (add-zero (waits_on g at outside v))

  -- more waits for node v than of the senders so far
  pub waiting_for_more : (v k waiting more : ℕ) → v < r.nodes → k < r.nodes → waiting ≡ waits_on g e.running.nodes outside v + sum_by (λ u. waits_on g e.running.nodes u v) (range_with_len 0 k) → more ≡ waits_on g e.running.nodes k v
      → (waiting + more ≡ waits_on g e.running.nodes outside v + sum_by (λ u. waits_on g e.running.nodes u v) (range_with_len 0 (k + 1))) × (waiting + more < 2 ^ 64)
  waiting_for_more v k waiting more low lt so_far next =
      let on : ℕ → ℕ = λ u. waits_on g at u v in
      let known : k < g.nodes = omega (arith, ended_count) in
      let receiver : v < g.nodes = omega (arith, ended_count) in
      (omega (arith, sum-push on k), omega (arith, sum-so_far on k g.nodes known, sum_by-cons on outside (nodes_of g), in_range-le (waits_for g at) g.nodes v receiver, ended_few))

  pub waits_whole : (v k waiting : ℕ) → k ≡ r.nodes → waiting ≡ waits_on g e.running.nodes outside v + sum_by (λ u. waits_on g e.running.nodes u v) (range_with_len 0 k) → waiting ≡ waits_for g e.running.nodes v
  waits_whole v k waiting last so_far =
      let on : ℕ → ℕ = λ u. waits_on g at u v in
      let all : k ≡ g.nodes = last ∙ ended_count in
      omega (arith, sum_by-cons on outside (nodes_of g), ap (λ n. sum_by on (range_with_len 0 n)) all)

  pub waiting_whole : (k waiting : ℕ) → k ≡ r.nodes → waiting ≡ sum_by (waits_for g e.running.nodes) (range_with_len 0 k) → waiting ≡ waits_in g e.running.nodes
  waiting_whole k waiting last so_far =
      let all : k ≡ g.nodes = last ∙ ended_count in
      so_far ∙ ap (λ n. sum_by (waits_for g at) (range_with_len 0 n)) all

  -- ---- what was said is what the nodes hold

  outs : ℕ → List Out
  outs v = emitted_by v e.running.emissions

  emissions-at : (v : ℕ) (d : Station D O U) → v < g.nodes → emissions_in (slice_index_or r.stations.items v d).node.stage ≡ emissions_by v (outs v)
  unfolding outs
  emissions-at v d lt = (e.running.stands.each v d (omega (arith, e.all))).emitted.kept

  emissions-all : (k : ℕ) (ss : List (Station D O U)) → ((i : ℕ) (d : Station D O U) → i < length ss → emissions_in (slice_index_or ss i d).node.stage ≡ emissions_by (k + i) (outs (k + i))) → emissions_of ss ≡ emissions_from outs k (length ss)
  emissions-all k [] each = refl
  emissions-all k (s ∷ ss) each =
      let here : k + 0 ≡ k = omega arith in
      let more : (i : ℕ) → k + suc i ≡ k + 1 + i = λ i. omega arith in
      ap (λ es. es ++ emissions_of ss) (each 0 s (omega arith) ∙ ap (λ j. emissions_by j (outs j)) here)
      ∙ ap (λ es. emissions_by k (outs k) ++ es) (emissions-all (k + 1) ss (λ i d lt. each (suc i) d (omega arith) ∙ ap (λ j. emissions_by j (outs j)) (more i)))

  emissions-are : emissions_of r.stations.items ≡ emissions_from outs 0 g.nodes
  emissions-are =
      let zero_more : (i : ℕ) → i ≡ 0 + i = λ i. omega arith in
      emissions-all 0 r.stations.items (λ i d lt. emissions-at i d (omega (arith, ended_width)) ∙ ap (λ j. emissions_by j (outs j)) (zero_more i)) ∙ ap (emissions_from outs 0) ended_width

  module _ (l : Lines) (s : Summary) (d : Station D O U) (said : HaveSaid (length r.stations.items) r.stations.items s) (turns : l.turns ≡ s.timeline) (rises : Rises 0 0 l.turns) (emissions : l.emissions ≡ s.emissions.items) (restarts : l.restarts ≡ s.restarts.items) (heaps : l.heaps ≡ s.heaps.items)
      (waiting : l.waiting ≡ waits_in g e.running.nodes) (ending : l.ending ≡ ending_of l.waiting) where
    all : take (length r.stations.items) r.stations.items ≡ r.stations.items
    all = whole r.stations.items
      where
        whole : (xs : List (Station D O U)) → take (length xs) xs ≡ xs
        whole [] = refl
        whole (x ∷ xs) = ap (λ ys. x ∷ ys) (whole xs)

    of_stations : l.emissions ≡ emissions_of r.stations.items
    of_stations = emissions ∙ said.emissions ∙ ap emissions_of all

    past : (v : ℕ) → g.nodes ≤ v → (e.running.nodes v).turning.turns ≡ []
    past v le = (e.running.stands.accord.made.nodes v).turns ∙ ap (sealed v) (e.running.stands.accord.made.nobody v le)

    history : IsHistoryOf c l.turns
    history = record {
      parts = λ v. ap (lines_by v) turns ∙ ⊎_elim
          (λ lt. said.parts v d (omega (arith, ended_width)) ∙ ap (map (effects_line v)) (turns_at v d lt))
          (λ le. said.others v (omega (arith, ended_width)) ∙ sym (ap (map (effects_line v)) (past v le)))
          (cases_lt v g.nodes);
      rises = rises;
    }

    tells : Tells g c l
    unfolding outs
    tells = record {
      history = history;
      emissions = of_stations ∙ emissions-are;
      width = ap length heaps ∙ said.width ∙ ended_width;
      heaps = λ v value lt. up_heap told size g v (e.running.nodes v) (slice_index_or r.stations.items v d).node.stage (up_at v d lt) (slice_index_or l.heaps v value)
          (subst (λ (hs : List Value). HasValue (slice_index_or hs v value) (slice_index_or r.stations.items v d).node.stage) (sym heaps) (said.heaps v value d (omega (arith, ended_width))));
      waiting = waiting;
      ending = ending;
      restarts = subst AreWords (sym restarts) said.words;
      order = subst (AreRestartsByNode g.nodes 0) (sym (restarts ∙ said.restarts ∙ ap (restarts_from 0) all)) (restarts_by_node g.nodes 0 r.stations.items (omega (arith, ended_width)));
    }

    -- the lines are the report of the run
    pub report_of : IsPlainRun g → IsReportOf told size took handles g r e l
    report_of plain =
        let stands = e.running.stands in
        record {
          run = run_of g c l stands.limits stands.keeps stands.lines plain stands.accord e.ended tells;
          history = history;
          emissions = of_stations;
          emitted = emitted_is g c l stands.limits stands.keeps stands.lines plain stands.accord e.ended tells;
          restarts = restarts ∙ said.restarts ∙ ap (restarts_from 0) all;
          ending = ending ∙ ap ending_of waiting;
        }
