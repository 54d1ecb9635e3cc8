-- The report of a run in which nothing failed is right, line after line.
use Rattle.std.proofs.Common.{◌≡◌, ℕ, zero, suc, ◌+◌, List, [], ◌∷◌, ◌++◌, map, length, ◌==◌, false, true, flat_map, refl, sym, ap, ◌∙◌, subst, append_assoc, append-nil, eq-eqb, arith}
use Rattle.std.specs.List.{join_with_byte, range_with_len, AllByRecursion}
use Rattle.std.proofs.lemmas.List.Elements.{All-weaker, recursion_from_All}
use Rattle.std.proofs.lemmas.List.FromFn.{length-map-range_with_len}
use Rattle.ken_model.specs.declared.values.Value.{Value}
use Rattle.ken_model.specs.declared.messages.Step.{Step}
use Rattle.ken_model.specs.declared.reports.Emission.{Emission}
use Rattle.ken_model.specs.declared.reports.Ending.{Ending}
use Rattle.ken_model.specs.declared.reports.RestartLine.{RestartLine}
use Rattle.ken_model.specs.Ending.{Ends, waiting}
use Rattle.ken_model.specs.Game.{Game}
use Rattle.ken_model.specs.Network.{start, stepped}
use Rattle.ken_model.specs.Report.{IsOneLine, line, turn_words, emit_words, restart_words, heap_words, end_words, heap_lines, closing, text, lines_of}
use Rattle.ken_model.specs.Schedule.{IsLegal, play, played, turn_line, turn_lines}
use Rattle.ken_model.specs.Spelling.{IsWord, IsPrintableTurn, IsPrintableEmission, IsPrintableHeap}
use Rattle.ken_model.proofs.Parts.{IsFree, All-join_with_byte}
use Rattle.ken_model.proofs.WordsFree.{each_free, ink_turn_words, free_emit_words, ink_restart_words, ink_heap_words, ink_end_words}
use Rattle.ken_check.specs.declared.verdict.Verdict.TheVariants.{Right}
use Rattle.ken_check.specs.Judged.{IsJudgedFrom}
use Rattle.ken_check.specs.Judged.IsJudgedFrom.{right, right_line}
use Rattle.ken_check.specs.Laws.{ReportsAreRight}
use Rattle.ken_check.specs.Right.{AreEmissionsSoFar, AreRestartsSoFar, IsRightLine, Told}
use Rattle.ken_check.specs.Right.IsRightLine.{turn, emission, restart, heap, ends}
use Rattle.ken_check.proofs.Fronts.{emissions_front, restarts_front}
use Rattle.ken_check.proofs.Schedules.{played-append, turn_lines-step, legal_front, last_turn, length-turn_lines}

-- words that hold no line feed are one line
one_line : (words : List (List ℕ)) → AllByRecursion (IsFree 10) words → IsOneLine (join_with_byte 32 words)
one_line words free =
    let other : (b : ℕ) → (b == 10) ≡ false → b ≡ 10 → ⊥ = λ b differs same. (let is = eq-eqb b 10 same in cc) in
    let bytes = join_with_byte 32 words in
    recursion_from_All (λ b. b ≡ 10 → ⊥) bytes (All-weaker (λ b. (b == 10) ≡ false) (λ b. b ≡ 10 → ⊥) other bytes (All-join_with_byte (λ b. (b == 10) ≡ false) 32 refl words free))

module _ (g : Game) (most : ℕ) where
  -- what is left of a report is right, from whichever line on
  abbrev IsRightAfter : Told → List ℕ → Type 0
  IsRightAfter told rest = (n : ℕ) → IsJudgedFrom g most n told rest Right

  -- a right line before it
  line_first : (told told2 : Told) (words : List (List ℕ)) (rest : List ℕ) → AllByRecursion (IsFree 10) words → IsRightLine g most told (line words) told2 → IsRightAfter told2 rest → IsRightAfter told (line words ++ rest)
  unfolding line
  line_first told told2 words rest free is later n =
      let bytes = join_with_byte 32 words in
      subst (λ (bs : List ℕ). IsJudgedFrom g most n told bs Right) (sym (append_assoc bytes (10 ∷ []) rest)) (right_line bytes rest (one_line words free) is (later (n + 1)))

  -- lines of one kind, each right after those before it
  module _ {X : Type 0} (told_of : List X → Told) (words : X → List (List ℕ)) (AreSoFar : List X → Type 0) (IsFine : X → Type 0)
      (front : (xs ys : List X) → AreSoFar (xs ++ ys) → AreSoFar xs)
      (free : (x : X) → IsFine x → AllByRecursion (IsFree 10) (words x))
      (next : (xs : List X) (x : X) → AreSoFar (xs ++ x ∷ []) → IsFine x → IsRightLine g most (told_of xs) (line (words x)) (told_of (xs ++ x ∷ []))) where
    lines_first : (xs ys : List X) (rest : List ℕ) → AreSoFar (xs ++ ys) → AllByRecursion IsFine ys → IsRightAfter (told_of (xs ++ ys)) rest → IsRightAfter (told_of xs) (flat_map (λ y. line (words y)) ys ++ rest)
    lines_first xs [] rest are fine later = subst (λ (zs : List X). IsRightAfter (told_of zs) rest) (append-nil xs) later
    lines_first xs (y ∷ ys) rest are fine later =
        let same : xs ++ y ∷ ys ≡ (xs ++ y ∷ []) ++ ys = sym (append_assoc xs (y ∷ []) ys) in
        let are' = subst AreSoFar same are in
        let others = flat_map (λ z. line (words z)) ys in
        let after = lines_first (xs ++ y ∷ []) ys rest are' fine.1 (subst (λ (zs : List X). IsRightAfter (told_of zs) rest) same later) in
        let is = next xs y (front (xs ++ y ∷ []) ys are') fine.0 in
        subst (IsRightAfter (told_of xs)) (sym (append_assoc (line (words y)) others rest)) (line_first (told_of xs) (told_of (xs ++ y ∷ [])) (words y) (others ++ rest) (free y fine.0) is after)

  -- turns
  abbrev after_turns : List Step → Told
  after_turns ss = record { schedule = ss; emissions = []; restarts = []; heaps = 0; ended = false }

  turns_first : (ss us : List Step) (rest : List ℕ) → IsLegal g (ss ++ us) → AllByRecursion IsPrintableTurn (turn_lines g (play g ss) us)
      → IsRightAfter (after_turns (ss ++ us)) rest → IsRightAfter (after_turns ss) (flat_map (λ l. line (turn_words l)) (turn_lines g (play g ss) us) ++ rest)
  unfolding played turn_lines
  turns_first ss [] rest legal fine later = subst (λ (us : List Step). IsRightAfter (after_turns us) rest) (append-nil ss) later
  turns_first ss (u ∷ us) rest legal fine later =
      let same : ss ++ u ∷ us ≡ (ss ++ u ∷ []) ++ us = sym (append_assoc ss (u ∷ []) us) in
      let legal' = subst (IsLegal g) same legal in
      let here = legal_front g (start g) 0 0 (ss ++ u ∷ []) us legal' in
      let made = last_turn g (start g) 0 0 ss u here in
      let first = turn_line u made.0 in
      let after : play g (ss ++ u ∷ []) ≡ stepped g (play g ss) u = played-append g (start g) ss (u ∷ []) in
      let lines : turn_lines g (play g ss) (u ∷ us) ≡ first ∷ turn_lines g (play g (ss ++ u ∷ [])) us = turn_lines-step g (play g ss) u us made.0 made.1 ∙ ap (λ w. first ∷ turn_lines g w us) (sym after) in
      let fine' = subst (AllByRecursion IsPrintableTurn) lines fine in
      let others = flat_map (λ l. line (turn_words l)) (turn_lines g (play g (ss ++ u ∷ [])) us) in
      let free = each_free 10 (omega arith) (turn_words first) (ink_turn_words first fine'.0) in
      let is : IsRightLine g most (after_turns ss) (line (turn_words first)) (after_turns (ss ++ u ∷ [])) = turn u made.0 (record { open_yet = refl; heaps = refl; restarts = refl; emissions = refl }) here made.1 fine'.0 in
      let later' = turns_first (ss ++ u ∷ []) us rest legal' fine'.1 (subst (λ (zs : List Step). IsRightAfter (after_turns zs) rest) same later) in
      let whole = ap (λ ls. flat_map (λ l. line (turn_words l)) ls ++ rest) lines ∙ append_assoc (line (turn_words first)) others rest in
      subst (IsRightAfter (after_turns ss)) (sym whole) (line_first (after_turns ss) (after_turns (ss ++ u ∷ [])) (turn_words first) (others ++ rest) free is later')

  module _ (schedule : List Step) where
    -- emissions
    abbrev after_emissions : List Emission → Told
    after_emissions es = record { schedule = schedule; emissions = es; restarts = []; heaps = 0; ended = false }

    emissions_first : (es : List Emission) (rest : List ℕ) → AreEmissionsSoFar g schedule es → AllByRecursion IsPrintableEmission es
        → IsRightAfter (after_emissions es) rest → IsRightAfter (after_turns schedule) (flat_map (λ e. line (emit_words e)) es ++ rest)
    emissions_first es rest are fine later =
        lines_first after_emissions emit_words (AreEmissionsSoFar g schedule) IsPrintableEmission (emissions_front g schedule) free_emit_words
        (λ fs e are p. emission e (record { open_yet = refl; heaps = refl; restarts = refl }) are p)
        [] es rest are fine later

    module _ (emissions : List Emission) where
      -- restarts
      abbrev after_restarts : List RestartLine → Told
      after_restarts rs = record { schedule = schedule; emissions = emissions; restarts = rs; heaps = 0; ended = false }

      restarts_first : (rs : List RestartLine) (rest : List ℕ) → AreRestartsSoFar g most schedule rs → AllByRecursion (λ (r : RestartLine). IsWord r.node × IsWord r.turns) rs
          → IsRightAfter (after_restarts rs) rest → IsRightAfter (after_emissions emissions) (flat_map (λ r. line (restart_words r)) rs ++ rest)
      restarts_first rs rest are fine later =
          lines_first after_restarts restart_words (AreRestartsSoFar g most schedule) (λ (r : RestartLine). IsWord r.node × IsWord r.turns) (restarts_front g schedule most)
          (λ r p. each_free 10 (omega arith) (restart_words r) (ink_restart_words r p))
          (λ ss r are p. restart r (record { open_yet = refl; heaps = refl }) are p)
          [] rs rest are fine later

      module _ (restarts : List RestartLine) where
        -- heaps
        abbrev after_heaps : ℕ → Told
        after_heaps k = record { schedule = schedule; emissions = emissions; restarts = restarts; heaps = k; ended = false }

        abbrev heap_of : ℕ → Value
        heap_of v = ((play g schedule).place v).value

        heaps_first : (k n : ℕ) (rest : List ℕ) → k + n ≡ g.nodes → IsWord g.nodes → AllByRecursion IsPrintableHeap (map heap_of (range_with_len k n))
            → IsRightAfter (after_heaps g.nodes) rest → IsRightAfter (after_heaps k) (heap_lines k (map heap_of (range_with_len k n)) ++ rest)
        unfolding heap_lines
        heaps_first k zero rest all few fine later = subst (λ (m : ℕ). IsRightAfter (after_heaps m) rest) (omega arith) later
        heaps_first k (suc n) rest all few fine later =
            let others = heap_lines (k + 1) (map heap_of (range_with_len (k + 1) n)) in
            let words = heap_words k (heap_of k) in
            let free = each_free 10 (omega arith) words (ink_heap_words k (heap_of k) (omega arith) fine.0) in
            let is : IsRightLine g most (after_heaps k) (line words) (after_heaps (k + 1)) = heap (record { open_yet = refl }) (omega arith) in
            let after = heaps_first (k + 1) n rest (omega arith) few fine.1 later in
            subst (IsRightAfter (after_heaps k)) (sym (append_assoc (line words) others rest)) (line_first (after_heaps k) (after_heaps (k + 1)) words (others ++ rest) free is after)

        -- the end
        end_last : (ending : Ending) → Ends g (play g schedule) emissions ending → IsWord (length schedule) → IsWord (waiting g (play g schedule))
            → IsRightAfter (after_heaps g.nodes) (line (end_words ending (length schedule) (waiting g (play g schedule))))
        end_last ending is turns waits =
            let words = end_words ending (length schedule) (waiting g (play g schedule)) in
            let free = each_free 10 (omega arith) words (ink_end_words ending (length schedule) (waiting g (play g schedule)) turns waits) in
            let told2 = record (after_heaps g.nodes) { ended = true } in
            subst (IsRightAfter (after_heaps g.nodes)) (append-nil (line words)) (line_first (after_heaps g.nodes) told2 words [] free (ends ending (record { open_yet = refl }) refl is) (λ n. right refl))

-- all lines, one kind after the other
pub reports_are_right : ReportsAreRight
unfolding text closing lines_of played
reports_are_right g most schedule emissions restarts ending legal are by_node often is p =
    let turns = length-turn_lines g (start g) 0 0 schedule legal in
    let nodes = length-map-range_with_len (heap_of g most schedule emissions restarts) 0 g.nodes in
    let few_turns : IsWord (length schedule) = subst IsWord turns p.few_turns in
    let few_nodes : IsWord g.nodes = subst IsWord nodes p.few_heaps in
    let l = lines_of g schedule emissions restarts ending in
    let told_heaps = after_heaps g most schedule emissions restarts g.nodes in
    let end = end_last g most schedule emissions restarts ending is few_turns p.waiting in
    let last = subst (λ (k : ℕ). IsRightAfter g most told_heaps (line (end_words ending k l.waiting))) (sym turns) end in
    let heaps = heaps_first g most schedule emissions restarts 0 g.nodes (line (end_words ending (length l.turns) l.waiting)) (omega arith) few_nodes p.heaps last in
    let from_restarts = flat_map (λ r. line (restart_words r)) restarts ++ closing l in
    let others = restarts_first g most schedule emissions restarts (closing l) often p.restarts heaps in
    let told : AreEmissionsSoFar g schedule emissions = record { known = are.known; by_node = by_node; each = are.each } in
    let from_emissions = flat_map (λ e. line (emit_words e)) emissions ++ from_restarts in
    turns_first g most [] schedule from_emissions legal p.turns (emissions_first g most schedule emissions from_restarts told p.emissions others) 1
