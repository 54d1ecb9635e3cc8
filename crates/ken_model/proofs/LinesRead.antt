-- What a reader of lines finds in the text of a report.
use Rattle.std.proofs.Common.{◌≡◌, ℕ, ◌+◌, ◌<◌, ◌^◌, List, [], ◌∷◌, ◌++◌, map, length, ◌==◌, false, codes, decimal, Option, None, Some, filter_map, flat_map, refl, ap, ap₂, sym, ◌∙◌, append_assoc, append-nil, arith}
use Rattle.std.specs.List.{join_with_byte, cons_option, AllByRecursion}
use Rattle.ken_model.specs.declared.values.Value.{Value}
use Rattle.ken_model.specs.declared.reports.TurnLine.{TurnLine}
use Rattle.ken_model.specs.declared.reports.Emission.{Emission}
use Rattle.ken_model.specs.declared.reports.RestartLine.{RestartLine}
use Rattle.ken_model.specs.declared.reports.Lines.{Lines}
use Rattle.ken_model.specs.declared.reports.Ending.{Ending}
use Rattle.ken_model.specs.declared.reports.Ending.TheVariants.{Settled, Cut}
use Rattle.ken_model.specs.Report.{line, turn_words, emit_words, restart_words, heap_words, end_words, heap_lines, closing, text}
use Rattle.ken_model.specs.Spelling.{parts_at, IsWord, IsPrintableTurn, IsPrintableEmission, IsPrintableHeap, IsPrintable}
use Rattle.ken_model.proofs.Parts.{IsFree, All-join_with_byte, parts_at-append, parts_at-join_with_byte, parts_at-join_before}
use Rattle.ken_model.proofs.WordsFree.{AreInk, each_free, ink_turn_words, ink_emit_front, free_emit_words, ink_restart_words, ink_heap_words, ink_end_words}

-- what a reader of a line's parts finds in a text
abbrev pub found : {Y : Type 0} → (List (List ℕ) → Option Y) → List ℕ → List Y
found read bytes = filter_map read (map (parts_at 32) (parts_at 10 bytes))

-- the parts of an emission's line: its text may hold spaces
abbrev pub emit_parts : Emission → List (List ℕ)
emit_parts e = codes "emit" ∷ decimal e.node ∷ decimal e.out.number ∷ parts_at 32 e.out.text

-- what a reader makes of each kind of line
pub record Reads {Y : Type 0} (read : List (List ℕ) → Option Y) (of_turn : TurnLine → Option Y) (of_emission : Emission → Option Y) (of_restart : RestartLine → Option Y) : Type 0 where
  pub turn : (l : TurnLine) → IsPrintableTurn l → read (turn_words l) ≡ of_turn l
  pub emission : (e : Emission) → IsPrintableEmission e → read (emit_parts e) ≡ of_emission e
  pub restart : (r : RestartLine) → IsWord r.node × IsWord r.turns → read (restart_words r) ≡ of_restart r
  pub heap : (words : List (List ℕ)) → read (codes "heap" ∷ words) ≡ None
  pub ending : (words : List (List ℕ)) → read (codes "end" ∷ words) ≡ None
  pub nothing : read ([] ∷ []) ≡ None

-- an item put before a list stays before what follows the list
cons_option-append : {X : Type 0} (o : Option X) (xs ys : List X) → cons_option o xs ++ ys ≡ cons_option o (xs ++ ys)
cons_option-append None xs ys = refl
cons_option-append (Some x) xs ys = refl

module _ {Y : Type 0} (read : List (List ℕ) → Option Y) where
  -- in a line and a rest: what is made of the line's parts, and what is found in the rest
  found-line : (words parts : List (List ℕ)) (rest : List ℕ) → AllByRecursion (IsFree 10) words → parts_at 32 (join_with_byte 32 words) ≡ parts → found read (line words ++ rest) ≡ cons_option (read parts) (found read rest)
  unfolding line
  found-line words parts rest free are =
      let body = All-join_with_byte (λ b. (b == 10) ≡ false) 32 refl words free in
      ap (found read) (append_assoc (join_with_byte 32 words) (10 ∷ []) rest)
      ∙ ap (λ lines. filter_map read (map (parts_at 32) lines)) (parts_at-append 10 (join_with_byte 32 words) rest body)
      ∙ ap (λ ps. cons_option (read ps) (found read rest)) are

  -- the parts of a line are its words, where none holds a space
  found-ink_line : (word : List ℕ) (words : List (List ℕ)) (rest : List ℕ) → AreInk (word ∷ words) → found read (line (word ∷ words) ++ rest) ≡ cons_option (read (word ∷ words)) (found read rest)
  found-ink_line word words rest ink = found-line (word ∷ words) _ rest (each_free 10 (omega arith) (word ∷ words) ink) (parts_at-join_with_byte 32 word words (each_free 32 (omega arith) (word ∷ words) ink))

  -- in lines of one kind: what is made of each
  found-lines : {X : Type 0} (words : X → List (List ℕ)) (IsFine : X → Type 0) (of_item : X → Option Y) → ((x : X) (rest : List ℕ) → IsFine x → found read (line (words x) ++ rest) ≡ cons_option (of_item x) (found read rest)) → (xs : List X) (rest : List ℕ) → AllByRecursion IsFine xs → found read (flat_map (λ x. line (words x)) xs ++ rest) ≡ filter_map of_item xs ++ found read rest
  found-lines words IsFine of_item each [] rest fine = refl
  found-lines words IsFine of_item each (x ∷ xs) rest fine =
      let others = flat_map (λ y. line (words y)) xs in
      ap (found read) (append_assoc (line (words x)) others rest)
      ∙ each x (others ++ rest) fine.0
      ∙ ap (cons_option (of_item x)) (found-lines words IsFine of_item each xs rest fine.1)
      ∙ sym (cons_option-append (of_item x) (filter_map of_item xs) (found read rest))

module _ {Y : Type 0} (read : List (List ℕ) → Option Y) {of_turn : TurnLine → Option Y} {of_emission : Emission → Option Y} {of_restart : RestartLine → Option Y} (reads : Reads read of_turn of_emission of_restart) where
  -- in a turn's line
  found-turn_line : (l : TurnLine) (rest : List ℕ) → IsPrintableTurn l → found read (line (turn_words l) ++ rest) ≡ cons_option (of_turn l) (found read rest)
  found-turn_line l rest p = found-ink_line read _ _ rest (ink_turn_words l p) ∙ ap (λ o. cons_option o (found read rest)) (reads.turn l p)

  -- in an emission's
  found-emit_line : (e : Emission) (rest : List ℕ) → IsPrintableEmission e → found read (line (emit_words e) ++ rest) ≡ cons_option (of_emission e) (found read rest)
  found-emit_line e rest p =
      let front = codes "emit" ∷ decimal e.node ∷ decimal e.out.number ∷ [] in
      let parts = parts_at-join_before 32 front e.out.text (each_free 32 (omega arith) front (ink_emit_front e p)) in
      found-line read (emit_words e) (emit_parts e) rest (free_emit_words e p) parts ∙ ap (λ o. cons_option o (found read rest)) (reads.emission e p)

  -- in a restart's
  found-restart_line : (r : RestartLine) (rest : List ℕ) → IsWord r.node × IsWord r.turns → found read (line (restart_words r) ++ rest) ≡ cons_option (of_restart r) (found read rest)
  found-restart_line r rest p = found-ink_line read _ _ rest (ink_restart_words r p) ∙ ap (λ o. cons_option o (found read rest)) (reads.restart r p)

  -- nothing in a heap's
  found-heap_line : (node : ℕ) (value : Value) (rest : List ℕ) → IsWord node → IsPrintableHeap value → found read (line (heap_words node value) ++ rest) ≡ found read rest
  found-heap_line node value rest word p = found-ink_line read _ _ rest (ink_heap_words node value word p) ∙ ap (λ o. cons_option o (found read rest)) (reads.heap _)

  -- nor in many
  found-heap_lines : (node : ℕ) (values : List Value) (rest : List ℕ) → node + length values < 2 ^ 64 → AllByRecursion IsPrintableHeap values → found read (heap_lines node values ++ rest) ≡ found read rest
  unfolding heap_lines
  found-heap_lines node [] rest few fine = refl
  found-heap_lines node (v ∷ vs) rest few fine =
      ap (found read) (append_assoc (line (heap_words node v)) (heap_lines (node + 1) vs) rest)
      ∙ found-heap_line node v (heap_lines (node + 1) vs ++ rest) (omega arith) fine.0
      ∙ found-heap_lines (node + 1) vs rest (omega arith) fine.1

  -- nor in the end
  found-end_line : (ending : Ending) (turns waits : ℕ) → IsWord turns → IsWord waits → found read (line (end_words ending turns waits) ++ []) ≡ []
  found-end_line Settled turns waits t w = found-ink_line read _ _ [] (ink_end_words Settled turns waits t w) ∙ ap₂ cons_option (reads.ending _) (ap (λ o. cons_option o []) reads.nothing)
  found-end_line Cut turns waits t w = found-ink_line read _ _ [] (ink_end_words Cut turns waits t w) ∙ ap₂ cons_option (reads.ending _) (ap (λ o. cons_option o []) reads.nothing)

  -- so nothing in what closes a report
  found-closing : (l : Lines) → IsPrintable l → found read (closing l) ≡ []
  unfolding closing
  found-closing l p =
      let last = line (end_words l.ending (length l.turns) l.waiting) in
      found-heap_lines 0 l.heaps last (omega (arith, p.few_heaps)) p.heaps
      ∙ ap (found read) (sym (append-nil last))
      ∙ found-end_line l.ending (length l.turns) l.waiting p.few_turns p.waiting

  -- in a report: what is made of its turns, emissions and restarts
  pub found-text : (l : Lines) → IsPrintable l → found read (text l) ≡ filter_map of_turn l.turns ++ (filter_map of_emission l.emissions ++ filter_map of_restart l.restarts)
  unfolding text
  found-text l p =
      let from_restarts = flat_map (λ r. line (restart_words r)) l.restarts ++ closing l in
      let from_emissions = flat_map (λ e. line (emit_words e)) l.emissions ++ from_restarts in
      let turns = found-lines read turn_words IsPrintableTurn of_turn found-turn_line l.turns from_emissions p.turns in
      let emissions = found-lines read emit_words IsPrintableEmission of_emission found-emit_line l.emissions from_restarts p.emissions in
      let restarts = found-lines read restart_words (λ (r : RestartLine). IsWord r.node × IsWord r.turns) of_restart found-restart_line l.restarts (closing l) p.restarts in
      let none = ap (λ xs. filter_map of_restart l.restarts ++ xs) (found-closing l p) ∙ append-nil (filter_map of_restart l.restarts) in
      turns ∙ ap (λ xs. filter_map of_turn l.turns ++ xs) (emissions ∙ ap (λ xs. filter_map of_emission l.emissions ++ xs) (restarts ∙ none))
