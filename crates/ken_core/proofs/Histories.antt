-- The turns of a group in accord have a history.
use Rattle.std.proofs.Common.{◌≡◌, ℕ, zero, suc, ◌+◌, ◌<◌, ◌≤◌, List, [], map, refl, sym, ap, subst, ◌∙◌, ⊎_elim, arith, le_refl}
use Rattle.std.proofs.lemmas.Bool.{cases_lt}
use Rattle.ken_model.specs.declared.reports.TurnLine.{TurnLine}
use Rattle.ken_model.specs.Game.{Game}
use Rattle.ken_model.specs.History.{Rises, lines_by}
use Rattle.ken_core.specs.Accord.{Accord}
use Rattle.ken_core.specs.Clusters.{Cluster, IsHistoryOf}
use Rattle.ken_core.specs.Timeline.{merged}
use Rattle.ken_core.specs.Turns.{effects_line, sealed}
use Rattle.ken_core.proofs.Merged.{AreOf-turns, merged-its_lines, merged-others, merged-turns}
use Rattle.ken_core.proofs.Rising.{more_lines, turns_rise}

-- the turns of the first so many nodes in one order
record AreMerged (of : ℕ → List TurnLine) (count : ℕ) : Type 0 where
  lines : List TurnLine
  order : Rises 0 0 lines
  parts : (v : ℕ) → v < count → lines_by v lines ≡ of v
  others : (v : ℕ) → count ≤ v → lines_by v lines ≡ []

none_merged : (of : ℕ → List TurnLine) → AreMerged of 0
unfolding Rises
none_merged of = record { lines = []; order = tt; parts = λ v few. absurd (omega arith); others = λ v past. refl }

module _ (g : Game) (c : Cluster) (accord : Accord g c) where
  abbrev line_of : ℕ → List TurnLine
  line_of v = map (effects_line v) (c.node v).turning.turns

  one_merged : (count : ℕ) → AreMerged line_of count → AreMerged line_of (count + 1)
  one_merged count m =
      let es = (c.node count).turning.turns in
      let none = m.others count (le_refl count) in
      let its = merged-its_lines count m.lines (line_of count) none (AreOf-turns count es) in
      let both = more_lines line_of m.lines (merged m.lines (line_of count)) count m.parts m.others its (λ v differ. merged-others count v m.lines (line_of count) differ (AreOf-turns count es)) in
      record {
        lines = merged m.lines (line_of count);
        order = merged-turns count m.lines es none m.order (turns_rise g c count accord);
        parts = both.0;
        others = both.1;
      }

  all_merged : (count : ℕ) → AreMerged line_of count
  all_merged zero = none_merged line_of
  all_merged (suc count) = subst (AreMerged line_of) (omega arith) (one_merged count (all_merged count))

  pub some_history : (lines : List TurnLine) × IsHistoryOf c lines
  some_history =
      let m = all_merged g.nodes in
      let past : (v : ℕ) → g.nodes ≤ v → line_of v ≡ [] = λ v le. ap (map (effects_line v)) ((accord.made.nodes v).turns ∙ ap (sealed v) (accord.made.nobody v le)) in (
        m.lines,
        record { parts = λ v. ⊎_elim (λ lt. m.parts v lt) (λ le. m.others v le ∙ sym (past v le)) (cases_lt v g.nodes); rises = m.order },
      )
