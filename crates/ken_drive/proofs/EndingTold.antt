-- Lines that tell what the nodes of a group in accord hold, which has ended, are the report of a run.
use Rattle.std.proofs.Common.{◌≡◌, ◌≢◌, ℕ, ◌+◌, ◌*◌, ◌<◌, ◌≤◌, ◌^◌, ◌⊎◌, inl, inr, List, [], ◌∷◌, map, length, slice_index_or, sum_by, All, Some, true, ◌==◌, sym, ap, subst, ◌∙◌, ⊎_elim, arith, zero-add, eq-eqb, ne_eqb}
use Rattle.std.specs.List.{AllByRecursion}
use Rattle.std.proofs.lemmas.Bool.{cases_eq, cases_lt}
use Rattle.std.proofs.lemmas.List.{length-map, same_lists}
use Rattle.std.proofs.lemmas.List.Elements.{All-from_get_or}
use Rattle.std.proofs.lemmas.List.FromFn.{length-range_with_len, length-map-range_with_len, get_or-map-range_with_len}
use Rattle.std.proofs.lemmas.List.Sums.{sum_by-cons, sum_by-le}
use Rattle.ken_model.specs.declared.messages.Out.{Out}
use Rattle.ken_model.specs.declared.reports.Emission.{Emission}
use Rattle.ken_model.specs.declared.reports.Ending.{Ending}
use Rattle.ken_model.specs.declared.reports.Ending.TheVariants.{Settled, Cut}
use Rattle.ken_model.specs.declared.reports.Lines.{Lines}
use Rattle.ken_model.specs.declared.reports.RestartLine.{RestartLine}
use Rattle.ken_model.specs.declared.reports.TurnLine.{TurnLine}
use Rattle.ken_model.specs.declared.values.Value.{Value}
use Rattle.ken_model.specs.Emissions.{AreAllEmitted, AreByNode, AreEmitted, AreLegalEmissions, emitted_by, largest_of}
use Rattle.ken_model.specs.Ending.{Ends, IsCut, IsSettled, nodes_of, waiting, waiting_on}
use Rattle.ken_model.specs.Game.{Game}
use Rattle.ken_model.specs.Heap.{IsHeap}
use Rattle.ken_model.specs.History.{InAccord, IsHistory, messages}
use Rattle.ken_model.specs.Laws.{IsPlayed, steps_of}
use Rattle.ken_model.specs.Limits.{IsPlainRun, IsWithinLimits}
use Rattle.ken_model.specs.Network.{Network, Turn, outside, start}
use Rattle.ken_model.specs.Reading.{read_value}
use Rattle.ken_model.specs.Report.{lines_of}
use Rattle.ken_model.specs.Schedule.{play, turn_lines}
use Rattle.ken_model.specs.Spelling.{IsPrintable, IsPrintableEmission, IsPrintableHeap, IsPrintableTurn, IsWord}
use Rattle.ken_model.proofs.Agreement.{agreement_is_legal}
use Rattle.ken_model.specs.Restarts.{AreRestartsByNode}
use Rattle.ken_core.specs.Accord.{Accord}
use Rattle.ken_core.specs.Clusters.{Cluster, IsHistoryOf}
use Rattle.ken_core.specs.Laws.{IsPlayedBy}
use Rattle.ken_core.specs.Turns.{effects_line, outs_of}
use Rattle.ken_core.proofs.Heaps.{read_heap}
use Rattle.ken_core.proofs.History.{history_is_legal}
use Rattle.ken_core.proofs.Numbers.{effects_lines, length-outputs_from}
use Rattle.ken_flow.specs.Standstill.{HasEnded, sent_on, waits_on}
use Rattle.ken_app.specs.Limits.{KeepsLimits}
use Rattle.ken_app.specs.Lines.{KeepsLines}
use Rattle.ken_drive.specs.Ended.{IsRunOf, ending_of, waits_for, waits_in}
use Rattle.ken_drive.proofs.EndingBounds.{IsWithin, few_steps, printable_lines, within_played, within_start}
use Rattle.ken_drive.proofs.EndingCounts.{AreByNode-from, all-by, all-from, emissions_from, emitted_by-from, in_range-le, largest-few, printable_by, some_in_sum, sum_by-same}
use Rattle.ken_drive.proofs.EndingLines.{IsTidy, tidy_played, tidy_start}
use Rattle.ken_drive.proofs.EndingPlayed.{printable_heap}

-- the lines tell what the nodes hold
pub record Tells (g : Game) (c : Cluster) (l : Lines) : Type 0 where
  pub history : IsHistoryOf c l.turns
  pub emissions : l.emissions ≡ emissions_from (λ v. emitted_by v c.emissions) 0 g.nodes
  pub width : length l.heaps ≡ g.nodes
  pub heaps : (v : ℕ) (d : Value) → v < g.nodes → read_value (c.node v).turning.pages.heap ≡ Some (slice_index_or l.heaps v d)
  pub waiting : l.waiting ≡ waits_in g c.node
  pub ending : l.ending ≡ ending_of l.waiting
  pub restarts : AllByRecursion (λ (r : RestartLine). IsWord r.node × IsWord r.turns) l.restarts
  pub order : AreRestartsByNode g.nodes 0 l.restarts

-- ---- what is played

module _ (g : Game) (c : Cluster) (lines : List TurnLine) (limits : IsWithinLimits g) (keeps : KeepsLimits g.nodes g.size g.handler) (accord : Accord g c) (history : IsHistoryOf c lines) where
  abbrev h : ℕ → List Turn
  h = accord.history

  agrees : InAccord g h
  agrees = record {
    turns = λ v. (accord.made.nodes v).own;
    few = accord.made.few;
    nobody = accord.made.nobody;
    order = λ u v. (accord.made.nodes v).order u;
  }

  is_history : IsHistory h lines
  is_history = record { parts = λ v. history.parts v ∙ ap (map (effects_line v)) (accord.made.nodes v).turns ∙ effects_lines v (h v); rises = history.rises }

  pub plays : IsPlayed g h lines
  plays = agreement_is_legal g h lines agrees is_history

  pub played_by : IsPlayedBy g c lines
  played_by = history_is_legal agreement_is_legal g c lines accord history

  abbrev pub net : Network
  net = play g (steps_of lines)

  pub within : IsWithin g (length (steps_of lines)) net
  within = subst (λ k. IsWithin g k net) (zero-add (length (steps_of lines))) (within_played g limits keeps 0 (start g) 0 0 (steps_of lines) plays.legal (within_start g limits))

  -- what was sent on a link, and how much of it waits
  sent_is : (u v : ℕ) → sent_on g c.node u v ≡ (net.link u v).sent
  unfolding messages
  sent_is u v =
      ⊎_elim
      (λ (e : u ≡ outside). let q : (u == outside) ≡ true = eq-eqb u outside e in rw q (sym (rw q at (plays.shows.sent u v))))
      (λ ne. rw (ne_eqb u outside ne) (played_by.sent u v ne))
      (cases_eq u outside)

  pub waits_is : (u v : ℕ) → waits_on g c.node u v ≡ waiting_on (net.link u v)
  waits_is u v = omega (arith, ap length (sent_is u v), played_by.taken u v)

  pub waiting_is : waits_in g c.node ≡ waiting g net
  unfolding waiting
  waiting_is = sum_by-same (waits_for g c.node) (λ v. sum_by (λ u. waiting_on (net.link u v)) (outside ∷ nodes_of g)) (nodes_of g) (λ v. sum_by-same (λ u. waits_on g c.node u v) (λ u. waiting_on (net.link u v)) (outside ∷ nodes_of g) (λ u. waits_is u v))

  -- it is little
  waits-few : (u v : ℕ) → waits_on g c.node u v ≤ 1610000
  waits-few u v = omega (arith, waits_is u v, within.few u v, within.turns u, limits.few_inputs, limits.few_turns)

  pub waiting-few : waits_in g c.node < 2 ^ 64
  waiting-few =
      let for_one : (v : ℕ) → waits_for g c.node v ≤ 9 * 1610000 = λ v.
      let each : All (λ u. waits_on g c.node u v ≤ 1610000) (outside ∷ nodes_of g) = All-from_get_or (λ u. waits_on g c.node u v ≤ 1610000) (outside ∷ nodes_of g) 0 (λ i lt. waits-few (slice_index_or (outside ∷ nodes_of g) i 0) v) in
      omega (arith, sum_by-le (λ u. waits_on g c.node u v) 1610000 (outside ∷ nodes_of g) each, length-range_with_len 0 g.nodes, limits.few_nodes) in
      let all : All (λ v. waits_for g c.node v ≤ 9 * 1610000) (nodes_of g) = All-from_get_or (λ v. waits_for g c.node v ≤ 9 * 1610000) (nodes_of g) 0 (λ i lt. for_one (slice_index_or (nodes_of g) i 0)) in
      omega (arith, sum_by-le (waits_for g c.node) (9 * 1610000) (nodes_of g) all, length-range_with_len 0 g.nodes, limits.few_nodes)

  -- a link on which something waits is one of the run
  record IsLinkOf (u v : ℕ) : Type 0 where
    receiver : v < g.nodes
    sender : (u < g.nodes) ⊎ (u ≡ outside)

  link_of : (u v : ℕ) → 0 < waiting_on (net.link u v) → IsLinkOf u v
  link_of u v some =
      let receiver : v < g.nodes = ⊎_elim (λ lt. lt) (λ past. absurd (omega (arith, ap length (within.nowhere u v past)))) (cases_lt v g.nodes) in
      let from : u ≢ outside → u < g.nodes = λ ne. ⊎_elim (λ lt. lt) (λ past. absurd (omega (arith, ap length (within.strangers u v past ne)))) (cases_lt u g.nodes) in
      record { receiver = receiver; sender = ⊎_elim (λ e. inr e) (λ ne. inl (from ne)) (cases_eq u outside) }

  no_less : (u v : ℕ) → IsLinkOf u v → waits_on g c.node u v ≤ waits_in g c.node
  no_less u v is =
      let on : ℕ → ℕ = λ k. waits_on g c.node k v in
      let parts = sum_by-cons on outside (nodes_of g) in
      let here : on u ≤ waits_for g c.node v = ⊎_elim (λ lt. omega (arith, parts, in_range-le on g.nodes u lt)) (λ (e : u ≡ outside). let same : on u ≡ on outside = ap on e in omega (arith, parts)) is.sender in
      omega (arith, in_range-le (waits_for g c.node) g.nodes v is.receiver)

  -- where nothing waits for a node, the network is settled
  pub settled_where : waits_in g c.node ≡ 0 → IsSettled net
  settled_where none u v =
      ⊎_elim
      (λ e. e)
      (λ some. let is = link_of u v (omega arith) in absurd (omega (arith, no_less u v is, waits_is u v)))
      (cases_eq (waiting_on (net.link u v)) 0)

  -- and else it is cut
  pub cut_where : HasEnded g c.emissions c.node → waits_in g c.node ≢ 0 → IsCut g net
  cut_where ended some =
      let receiver = some_in_sum (waits_for g c.node) (nodes_of g) (omega arith) in
      let sender = some_in_sum (λ u. waits_on g c.node u receiver.0) (outside ∷ nodes_of g) receiver.1 in
      record {
        some = (sender.0, receiver.0, omega (arith, waits_is sender.0 receiver.0, sender.1));
        each = λ u v more. let is = link_of u v more in omega (arith, ended.waits u v is.sender is.receiver (omega (arith, waits_is u v)), (played_by.place v).turns, within.turns v);
      }

-- ---- what is told

module _ (g : Game) (c : Cluster) (l : Lines) (limits : IsWithinLimits g) (keeps : KeepsLimits g.nodes g.size g.handler) (of_lines : KeepsLines g.nodes g.size g.handler) (plain : IsPlainRun g) (accord : Accord g c) (ended : HasEnded g c.emissions c.node) (tells : Tells g c l) where
  abbrev w : Network
  w = play g (steps_of l.turns)

  by : IsPlayedBy g c l.turns
  by = played_by g c l.turns limits keeps accord tells.history

  bounds : IsWithin g (length (steps_of l.turns)) w
  bounds = within g c l.turns limits keeps accord tells.history

  tidy : IsTidy g w
  tidy = tidy_played g limits keeps of_lines 0 (start g) 0 0 (steps_of l.turns) (plays g c l.turns limits keeps accord tells.history).legal (within_start g limits) (tidy_start g plain)

  few : length (steps_of l.turns) ≤ 800000
  few = few_steps g limits keeps (length (steps_of l.turns)) w bounds

  -- ---- emissions

  pub emitted_is : (v : ℕ) → v < g.nodes → emitted_by v l.emissions ≡ emitted_by v c.emissions
  emitted_is v lt = ap (emitted_by v) tells.emissions ∙ emitted_by-from (λ u. emitted_by u c.emissions) v 0 g.nodes (omega arith) (omega arith)

  all_emitted : AreAllEmitted g w l.emissions
  all_emitted v lt =
      let os = emitted_by v c.emissions in
      let outs = (w.place v).outs in
      let all : length (outs_of (c.node v).turning.turns) ≡ length outs = ap length (by.place v).outs ∙ length-outputs_from 0 outs in
      ap (largest_of 0) (emitted_is v lt) ∙ omega (arith, all, ended.emitted v lt, largest-few outs 0 os (omega arith) (by.emitted v))

  legal_emissions : AreLegalEmissions g w l.emissions
  legal_emissions = record {
    known = subst (AllByRecursion (λ (e : Emission). e.node < g.nodes)) (sym tells.emissions) (all-from (λ (e : Emission). e.node < g.nodes) (λ v. emitted_by v c.emissions) 0 g.nodes (λ v from_first below. all-by (λ (e : Emission). e.node < g.nodes) v (emitted_by v c.emissions) (each (emitted_by v c.emissions) v below)));
    each = λ v lt. subst (λ os. AreEmitted (w.place v).outs 0 os) (sym (emitted_is v lt)) (by.emitted v);
    all = all_emitted;
  }
    where
      each : (os : List Out) (v : ℕ) → v < 0 + g.nodes → AllByRecursion (λ (o : Out). v < g.nodes) os
      each [] v lt = tt
      each (o ∷ os) v lt = (omega arith, each os v lt)

  printable_emissions : AllByRecursion IsPrintableEmission l.emissions
  printable_emissions = subst (AllByRecursion IsPrintableEmission) (sym tells.emissions)
      (all-from IsPrintableEmission (λ v. emitted_by v c.emissions) 0 g.nodes (λ v from_first below.
      printable_by v (w.place v).outs 0 (emitted_by v c.emissions) (omega (arith, limits.few_nodes)) (omega (arith, bounds.outs v, bounds.turns v, limits.few_turns)) (tidy.outs v) (by.emitted v)))

  -- ---- heaps

  heap_is : (v : ℕ) (d : Value) → v < g.nodes → slice_index_or l.heaps v d ≡ (w.place v).value
  heap_is v d lt = let same : Some (slice_index_or l.heaps v d) ≡ Some (w.place v).value = sym (tells.heaps v d lt) ∙ by.value v in cc

  heaps_are : l.heaps ≡ map (λ v. (w.place v).value) (nodes_of g)
  heaps_are =
      let value_at : ℕ → Value = λ v. (w.place v).value in
      let long : length l.heaps ≡ length (map value_at (nodes_of g)) = tells.width ∙ sym (length-map-range_with_len value_at 0 g.nodes) in
      let same : (k : ℕ) (e : Value) → k < length l.heaps → slice_index_or l.heaps k e ≡ slice_index_or (map value_at (nodes_of g)) k e =
      λ k e lt. (let known : k < g.nodes = omega (arith, tells.width) in heap_is k e known ∙ sym (get_or-map-range_with_len value_at 0 g.nodes k k e known (omega arith))) in
      same_lists _ _ long same

  -- each is one that was read from bytes
  heap_at : (v : ℕ) → IsHeap (w.place v).value
  heap_at v = read_heap (c.node v).turning.pages.heap (w.place v).value (by.value v)

  printable_heaps : (vs : List ℕ) → AllByRecursion IsPrintableHeap (map (λ v. (w.place v).value) vs)
  printable_heaps [] = tt
  printable_heaps (v ∷ vs) = (printable_heap (w.place v).value (heap_at v), printable_heaps vs)

  -- ---- all lines

  lines_are : l ≡ lines_of g (steps_of l.turns) l.emissions l.restarts l.ending
  unfolding lines_of
  lines_are =
      let with : List TurnLine → List Value → ℕ → Lines = λ turns heaps waiting. record { turns = turns; emissions = l.emissions; restarts = l.restarts; heaps = heaps; ending = l.ending; waiting = waiting } in
      let p = plays g c l.turns limits keeps accord tells.history in
      ap (λ turns. with turns l.heaps l.waiting) (sym p.lines_are) ∙ ap (λ heaps. with (turn_lines g (start g) (steps_of l.turns)) heaps l.waiting) heaps_are
      ∙ ap (with (turn_lines g (start g) (steps_of l.turns)) (map (λ v. (w.place v).value) (nodes_of g))) (tells.waiting ∙ waiting_is g c l.turns limits keeps accord tells.history)

  ends : Ends g w l.emissions l.ending
  ends =
      ⊎_elim
      (λ (none : l.waiting ≡ 0). let is : l.ending ≡ Settled = rw (eq-eqb l.waiting 0 none) at tells.ending in
      subst (λ (e : Ending). Ends g w l.emissions e) (sym is) (all_emitted, settled_where g c l.turns limits keeps accord tells.history (sym tells.waiting ∙ none)))
      (λ some. let is : l.ending ≡ Cut = rw (ne_eqb l.waiting 0 some) at tells.ending in
      subst (λ (e : Ending). Ends g w l.emissions e) (sym is) (all_emitted, cut_where g c l.turns limits keeps accord tells.history ended (λ none. some (tells.waiting ∙ none))))
      (cases_eq l.waiting 0)

  printable : IsPrintable l
  printable =
      let p = plays g c l.turns limits keeps accord tells.history in
      record {
        turns = subst (AllByRecursion IsPrintableTurn) p.lines_are (printable_lines g limits keeps 0 (start g) 0 0 (steps_of l.turns) p.legal (within_start g limits) (omega (arith, few)));
        emissions = printable_emissions;
        restarts = tells.restarts;
        heaps = subst (AllByRecursion IsPrintableHeap) (sym heaps_are) (printable_heaps (nodes_of g));
        few_heaps = omega (arith, tells.width, limits.few_nodes);
        few_turns = omega (arith, few, length-map l.turns (λ (x : TurnLine). x.step));
        waiting = omega (arith, tells.waiting, waiting-few g c l.turns limits keeps accord tells.history);
      }

  -- the lines are the report of a run
  pub run_of : IsRunOf g l
  run_of = record {
    legal = (plays g c l.turns limits keeps accord tells.history).legal;
    lines = lines_are;
    emissions = legal_emissions;
    by_node = subst (λ es. AreByNode 0 es) (sym tells.emissions) (AreByNode-from (λ v. emitted_by v c.emissions) 0 g.nodes);
    restarts = tells.order;
    ends = ends;
    printable = printable;
  }
