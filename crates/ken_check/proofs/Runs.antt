-- A report that is right is the report of a run in which nothing failed.
use Rattle.std.proofs.Common.{◌≡◌, ℕ, ◌+◌, List, [], ◌∷◌, ◌++◌, map, length, false, true, if◌then◌else◌, flat_map, Some, refl, sym, ap, ◌∙◌, subst, append_assoc, append-nil, arith}
use Rattle.std.specs.List.{range_with_len}
use Rattle.std.proofs.lemmas.List.Concat.{flat_map-append}
use Rattle.std.proofs.lemmas.List.FromFn.{map-range_with_len_more, length-map-range_with_len}
use Rattle.ken_model.specs.declared.values.Value.{Value}
use Rattle.ken_model.specs.declared.messages.Step.{Step}
use Rattle.ken_model.specs.declared.reports.Emission.{Emission}
use Rattle.ken_model.specs.declared.reports.Ending.{Ending}
use Rattle.ken_model.specs.declared.reports.Ending.TheVariants.{Settled, Cut}
use Rattle.ken_model.specs.declared.reports.RestartLine.{RestartLine}
use Rattle.ken_model.specs.Emissions.{AreAllEmitted}
use Rattle.ken_model.specs.Ending.{Ends, waiting}
use Rattle.ken_model.specs.Game.{Game}
use Rattle.ken_model.specs.Network.{Turn, turn_of, start}
use Rattle.ken_model.specs.Report.{line, turn_words, emit_words, restart_words, heap_words, end_words, heap_lines, closing, text, lines_of, report}
use Rattle.ken_model.specs.Schedule.{IsLegal, IsLegalFrom, play, turn_line, turn_lines}
use Rattle.ken_check.specs.declared.verdict.Verdict.{Verdict}
use Rattle.ken_check.specs.declared.verdict.Verdict.TheVariants.{Right}
use Rattle.ken_check.specs.Judged.{IsJudgedFrom}
use Rattle.ken_check.specs.Judged.IsJudgedFrom.{right, right_line, wrong_line, missing, unfinished}
use Rattle.ken_check.specs.Laws.{IsReportOf, RightReportsAreOfRuns}
use Rattle.ken_check.specs.Right.{AreEmissionsSoFar, AreRestartsSoFar, IsRightLine, Told, nothing_told}
use Rattle.ken_check.specs.Right.IsRightLine.{turn, emission, restart, heap, ends}
use Rattle.ken_check.proofs.Fronts.{no_emissions, no_restarts}
use Rattle.ken_check.proofs.Schedules.{turn_lines-push, length-turn_lines}

regroup : (a b c d : List ℕ) → (a ++ (b ++ c)) ++ d ≡ a ++ (b ++ (c ++ d))
regroup a b c d = simp append_assoc

regroup_all : (a b c d e : List ℕ) → (a ++ (b ++ (c ++ d))) ++ e ≡ a ++ (b ++ (c ++ (d ++ e)))
regroup_all a b c d e = simp append_assoc

-- one more heap
heap_lines-push : (node : ℕ) (values : List Value) (v : Value) → heap_lines node (values ++ v ∷ []) ≡ heap_lines node values ++ line (heap_words (node + length values) v)
unfolding heap_lines
heap_lines-push node [] v = append-nil (line (heap_words node v)) ∙ ap (λ k. line (heap_words k v)) (omega arith)
heap_lines-push node (x ∷ xs) v =
    let here = line (heap_words node x) in
    let others = heap_lines (node + 1) xs in
    let number : node + 1 + length xs ≡ node + length (x ∷ xs) = omega arith in
    ap (λ bs. here ++ bs) (heap_lines-push (node + 1) xs v ∙ ap (λ k. others ++ line (heap_words k v)) number) ∙ sym (append_assoc here others (line (heap_words (node + length (x ∷ xs)) v)))

module _ (g : Game) (most : ℕ) where
  -- the lines of each kind
  abbrev turns_text : List Step → List ℕ
  turns_text ss = flat_map (λ l. line (turn_words l)) (turn_lines g (start g) ss)

  abbrev emissions_text : List Emission → List ℕ
  emissions_text es = flat_map (λ e. line (emit_words e)) es

  abbrev restarts_text : List RestartLine → List ℕ
  restarts_text rs = flat_map (λ r. line (restart_words r)) rs

  abbrev heaps_text : List Step → ℕ → List ℕ
  heaps_text ss n = heap_lines 0 (map (λ v. ((play g ss).place v).value) (range_with_len 0 n))

  abbrev end_text : List Step → Ending → List ℕ
  end_text ss ending = line (end_words ending (length ss) (waiting g (play g ss)))

  -- each kind with one line more
  turns_more : (ss : List Step) (s : Step) (t : Turn) → turn_of g (play g ss) s ≡ Some t → turns_text (ss ++ s ∷ []) ≡ turns_text ss ++ line (turn_words (turn_line s t))
  turns_more ss s t is =
      ap (flat_map (λ l. line (turn_words l))) (turn_lines-push g (start g) ss s t is)
      ∙ flat_map-append (λ l. line (turn_words l)) (turn_lines g (start g) ss) (turn_line s t ∷ [])
      ∙ simp append-nil

  emissions_more : (es : List Emission) (e : Emission) → emissions_text (es ++ e ∷ []) ≡ emissions_text es ++ line (emit_words e)
  emissions_more es e = flat_map-append (λ x. line (emit_words x)) es (e ∷ []) ∙ simp append-nil

  restarts_more : (rs : List RestartLine) (r : RestartLine) → restarts_text (rs ++ r ∷ []) ≡ restarts_text rs ++ line (restart_words r)
  restarts_more rs r = flat_map-append (λ x. line (restart_words x)) rs (r ∷ []) ∙ simp append-nil

  heaps_more : (ss : List Step) (n : ℕ) → heaps_text ss (n + 1) ≡ heaps_text ss n ++ line (heap_words n ((play g ss).place n).value)
  heaps_more ss n =
      let heap_of : ℕ → Value = λ v. ((play g ss).place v).value in
      let values = map heap_of (range_with_len 0 n) in
      ap (heap_lines 0) (map-range_with_len_more heap_of 0 n n (omega arith))
      ∙ heap_lines-push 0 values (heap_of n)
      ∙ ap (λ k. heap_lines 0 values ++ line (heap_words k (heap_of n))) (omega (arith, length-map-range_with_len heap_of 0 n))

  -- the lines told so far, but for the end
  abbrev lines_told : Told → List ℕ
  lines_told told = turns_text told.schedule ++ (emissions_text told.emissions ++ (restarts_text told.restarts ++ heaps_text told.schedule told.heaps))

  -- what stands before the rest of a report that was right so far: the lines of a run
  record IsToldBy (told : Told) (before : List ℕ) : Type 0 where
    ending : Ending
    text : before ≡ lines_told told ++ (if told.ended then end_text told.schedule ending else [])
    legal : IsLegal g told.schedule
    emissions : AreEmissionsSoFar g told.schedule told.emissions
    restarts : AreRestartsSoFar g most told.schedule told.restarts
    heaps : told.ended ≡ true → told.heaps ≡ g.nodes
    ends : told.ended ≡ true → Ends g (play g told.schedule) told.emissions ending

  -- while some kinds have not come
  only_turns : (told : Told) → told.emissions ≡ [] → told.restarts ≡ [] → told.heaps ≡ 0 → lines_told told ≡ turns_text told.schedule
  unfolding heap_lines
  only_turns told none_emitted none_restarted no_heap = rw (none_emitted, none_restarted, no_heap) (append-nil (turns_text told.schedule))

  up_to_emissions : (told : Told) → told.restarts ≡ [] → told.heaps ≡ 0 → lines_told told ≡ turns_text told.schedule ++ emissions_text told.emissions
  unfolding heap_lines
  up_to_emissions told none_restarted no_heap = rw (none_restarted, no_heap) (ap (λ bs. turns_text told.schedule ++ bs) (append-nil (emissions_text told.emissions)))

  up_to_restarts : (told : Told) → told.heaps ≡ 0 → lines_told told ≡ turns_text told.schedule ++ (emissions_text told.emissions ++ restarts_text told.restarts)
  unfolding heap_lines
  up_to_restarts told no_heap = rw no_heap (ap (λ bs. turns_text told.schedule ++ (emissions_text told.emissions ++ bs)) (append-nil (restarts_text told.restarts)))

  -- before the end
  text_before_end : (told : Told) (before : List ℕ) → IsToldBy told before → told.ended ≡ false → before ≡ lines_told told
  text_before_end told before so_far not_yet = so_far.text ∙ ap (λ b. lines_told told ++ (if b then end_text told.schedule so_far.ending else [])) not_yet ∙ append-nil (lines_told told)

  told_before_end : (told : Told) (before : List ℕ) → told.ended ≡ false → before ≡ lines_told told → IsLegal g told.schedule
      → AreEmissionsSoFar g told.schedule told.emissions → AreRestartsSoFar g most told.schedule told.restarts → IsToldBy told before
  told_before_end told before not_yet is legal emissions restarts = record {
    ending = Settled;
    text = is ∙ sym (append-nil (lines_told told)) ∙ ap (λ b. lines_told told ++ (if b then end_text told.schedule Settled else [])) (sym not_yet);
    legal = legal;
    emissions = emissions;
    restarts = restarts;
    heaps = λ over. absurd cc;
    ends = λ over. absurd cc;
  }

  -- at first nothing is told
  told_at_first : IsToldBy nothing_told []
  unfolding IsLegalFrom turn_lines heap_lines
  told_at_first = told_before_end nothing_told [] refl refl tt (no_emissions g []) (no_restarts g [] most)

  -- and one more right line
  told_next : (told told2 : Told) (before bytes : List ℕ) → IsRightLine g most told bytes told2 → IsToldBy told before → IsToldBy told2 (before ++ bytes)
  told_next told told2 before bytes (turn s t comes legal is p) so_far =
      let first = text_before_end told before so_far comes.open_yet ∙ only_turns told comes.emissions comes.restarts comes.heaps in
      let text = ap (λ bs. bs ++ bytes) first ∙ sym (turns_more told.schedule s t is) ∙ sym (only_turns told2 comes.emissions comes.restarts comes.heaps) in
      told_before_end told2 (before ++ bytes) comes.open_yet text legal
      (subst (AreEmissionsSoFar g told2.schedule) (sym comes.emissions) (no_emissions g told2.schedule))
      (subst (AreRestartsSoFar g most told2.schedule) (sym comes.restarts) (no_restarts g told2.schedule most))
  told_next told told2 before bytes (emission e comes are p) so_far =
      let turns = turns_text told.schedule in
      let first = text_before_end told before so_far comes.open_yet ∙ up_to_emissions told comes.restarts comes.heaps in
      let lines = append_assoc turns (emissions_text told.emissions) bytes ∙ ap (λ bs. turns ++ bs) (sym (emissions_more told.emissions e)) in
      let text = ap (λ bs. bs ++ bytes) first ∙ lines ∙ sym (up_to_emissions told2 comes.restarts comes.heaps) in
      told_before_end told2 (before ++ bytes) comes.open_yet text so_far.legal are so_far.restarts
  told_next told told2 before bytes (restart r comes are p) so_far =
      let turns = turns_text told.schedule in
      let emissions = emissions_text told.emissions in
      let first = text_before_end told before so_far comes.open_yet ∙ up_to_restarts told comes.heaps in
      let lines = regroup turns emissions (restarts_text told.restarts) bytes ∙ ap (λ bs. turns ++ (emissions ++ bs)) (sym (restarts_more told.restarts r)) in
      let text = ap (λ bs. bs ++ bytes) first ∙ lines ∙ sym (up_to_restarts told2 comes.heaps) in
      told_before_end told2 (before ++ bytes) comes.open_yet text so_far.legal so_far.emissions are
  told_next told told2 before bytes (heap comes few) so_far =
      let turns = turns_text told.schedule in
      let emissions = emissions_text told.emissions in
      let restarts = restarts_text told.restarts in
      let first = text_before_end told before so_far comes.open_yet in
      let more = ap (λ bs. turns ++ (emissions ++ (restarts ++ bs))) (sym (heaps_more told.schedule told.heaps)) in
      let text = ap (λ bs. bs ++ bytes) first ∙ regroup_all turns emissions restarts (heaps_text told.schedule told.heaps) bytes ∙ more in
      told_before_end told2 (before ++ bytes) comes.open_yet text so_far.legal so_far.emissions so_far.restarts
  told_next told told2 before bytes (ends ending comes all is) so_far = record {
    ending = ending;
    text = ap (λ bs. bs ++ bytes) (text_before_end told before so_far comes.open_yet);
    legal = so_far.legal;
    emissions = so_far.emissions;
    restarts = so_far.restarts;
    heaps = λ over. all;
    ends = λ over. is;
  }

  -- all outputs were emitted at the end
  all_emitted : (schedule : List Step) (emissions : List Emission) (ending : Ending) → Ends g (play g schedule) emissions ending → AreAllEmitted g (play g schedule) emissions
  all_emitted schedule emissions Settled is = is.0
  all_emitted schedule emissions Cut is = is.0

  -- at the end the text is that of a whole report
  whole_text : (told : Told) (before : List ℕ) (so_far : IsToldBy told before) → told.ended ≡ true → before ≡ report g told.schedule told.emissions told.restarts so_far.ending
  unfolding text closing lines_of
  whole_text told before so_far over =
      let turns = turns_text told.schedule in
      let emissions = emissions_text told.emissions in
      let restarts = restarts_text told.restarts in
      let last = end_text told.schedule so_far.ending in
      let lines = length-turn_lines g (start g) 0 0 told.schedule so_far.legal in
      so_far.text
      ∙ ap (λ b. lines_told told ++ (if b then last else [])) over
      ∙ regroup_all turns emissions restarts (heaps_text told.schedule told.heaps) last
      ∙ ap (λ n. turns ++ (emissions ++ (restarts ++ (heaps_text told.schedule n ++ last)))) (so_far.heaps over)
      ∙ ap (λ n. turns ++ (emissions ++ (restarts ++ (heaps_text told.schedule g.nodes ++ line (end_words so_far.ending n (waiting g (play g told.schedule))))))) (sym lines)

  -- and the report is that of a run
  of_whole : (told : Told) (before : List ℕ) → IsToldBy told before → told.ended ≡ true → IsReportOf g most before
  of_whole told before so_far over = record {
    schedule = told.schedule;
    emissions = told.emissions;
    restarts = told.restarts;
    ending = so_far.ending;
    text = whole_text told before so_far over;
    legal = so_far.legal;
    each = record { known = so_far.emissions.known; each = so_far.emissions.each; all = all_emitted told.schedule told.emissions so_far.ending (so_far.ends over) };
    by_node = so_far.emissions.by_node;
    often = so_far.restarts;
    ends = so_far.ends over;
  }

  -- by induction over the judgement
  of_run : (n : ℕ) (told : Told) (bytes : List ℕ) (verdict : Verdict) → IsJudgedFrom g most n told bytes verdict → verdict ≡ Right → (before : List ℕ) → IsToldBy told before → IsReportOf g most (before ++ bytes)
  of_run n told bytes verdict (right over) is before so_far = subst (IsReportOf g most) (sym (append-nil before)) (of_whole told before so_far over)
  of_run n told bytes verdict (right_line {told2 = told2} text rest one line later) is before so_far =
      let more = told_next told told2 before (text ++ 10 ∷ []) line so_far in
      let whole = append_assoc before (text ++ 10 ∷ []) rest ∙ ap (λ bs. before ++ bs) (append_assoc text (10 ∷ []) rest) in
      subst (IsReportOf g most) whole (of_run (n + 1) told2 rest verdict later is (before ++ (text ++ 10 ∷ [])) more)
  of_run n told bytes verdict (wrong_line text rest one never) is before so_far = absurd cc
  of_run n told bytes verdict (missing not_yet) is before so_far = absurd cc
  of_run n told bytes verdict (unfinished one some) is before so_far = absurd cc

pub right_reports_are_of_runs : RightReportsAreOfRuns
right_reports_are_of_runs g most bytes judged = of_run g most 1 nothing_told bytes Right judged refl [] (told_at_first g most)
