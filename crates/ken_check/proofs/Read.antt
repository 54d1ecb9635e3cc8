-- What a right line tells is read from its text.
use Rattle.std.proofs.Common.{◌≡◌, ℕ, ◌+◌, List, [], ◌∷◌, ◌++◌, ◌==◌, if◌then◌else◌, true, refl, sym, ap, ◌∙◌, append-nil, arith}
use Rattle.ken_model.specs.declared.reports.TurnLine.{TurnLine}
use Rattle.ken_model.specs.declared.reports.Emission.{Emission}
use Rattle.ken_model.specs.declared.reports.RestartLine.{RestartLine}
use Rattle.ken_model.specs.declared.reports.Lines.{Lines}
use Rattle.ken_model.specs.declared.reports.Ending.TheVariants.{Settled, Cut}
use Rattle.ken_model.specs.Game.{Game}
use Rattle.ken_model.specs.Report.{line, turn_words, emit_words, restart_words, end_words, heap_lines, closing, text}
use Rattle.ken_model.specs.Schedule.{turn_line}
use Rattle.ken_model.specs.Spelling.{Spelling, spell, IsWord, IsPrintable, IsPrintableTurn, IsPrintableEmission}
use Rattle.ken_model.proofs.Spelled.{report_spells_its_run}
use Rattle.ken_check.specs.Right.{IsRightLine, Told}
use Rattle.ken_check.specs.Right.IsRightLine.{turn, emission, restart, heap, ends}

-- the third byte of a line tells its kind
abbrev kind : List ℕ → ℕ
kind [] = 0
kind (a ∷ []) = 0
kind (a ∷ b ∷ []) = 0
kind (a ∷ b ∷ c ∷ bytes) = c

-- what a line spells, as one of a report with so many turns
abbrev spelled : ℕ → List ℕ → Spelling
spelled turns bytes = spell (bytes ++ line (end_words Settled turns 0))

abbrev lone : List TurnLine → List Emission → List RestartLine → Lines
lone turns emissions restarts = record { turns = turns; emissions = emissions; restarts = restarts; heaps = []; ending = Settled; waiting = 0 }

spelled_turn : (l : TurnLine) → IsPrintableTurn l → (spelled 1 (line (turn_words l))).schedule ≡ l.step ∷ []
unfolding text closing heap_lines
spelled_turn l p =
    let ls = lone (l ∷ []) [] [] in
    let printable : IsPrintable ls = record { turns = (p, tt); emissions = tt; restarts = tt; heaps = tt; few_heaps = omega arith; few_turns = omega arith; waiting = omega arith } in
    let whole : text ls ≡ line (turn_words l) ++ line (end_words Settled 1 0) = simp append-nil in
    ap (λ (s : Spelling). s.schedule) (ap spell (sym whole) ∙ report_spells_its_run ls printable)

spelled_emission : (e : Emission) → IsPrintableEmission e → (spelled 0 (line (emit_words e))).emissions ≡ e ∷ []
unfolding text closing heap_lines
spelled_emission e p =
    let ls = lone [] (e ∷ []) [] in
    let printable : IsPrintable ls = record { turns = tt; emissions = (p, tt); restarts = tt; heaps = tt; few_heaps = omega arith; few_turns = omega arith; waiting = omega arith } in
    let whole : text ls ≡ line (emit_words e) ++ line (end_words Settled 0 0) = simp append-nil in
    ap (λ (s : Spelling). s.emissions) (ap spell (sym whole) ∙ report_spells_its_run ls printable)

spelled_restart : (r : RestartLine) → IsWord r.node × IsWord r.turns → (spelled 0 (line (restart_words r))).restarts ≡ r ∷ []
unfolding text closing heap_lines
spelled_restart r p =
    let ls = lone [] [] (r ∷ []) in
    let printable : IsPrintable ls = record { turns = tt; emissions = tt; restarts = (p, tt); heaps = tt; few_heaps = omega arith; few_turns = omega arith; waiting = omega arith } in
    let whole : text ls ≡ line (restart_words r) ++ line (end_words Settled 0 0) = simp append-nil in
    ap (λ (s : Spelling). s.restarts) (ap spell (sym whole) ∙ report_spells_its_run ls printable)

-- what is told with a line, by its bytes
abbrev pub told_with : Told → List ℕ → Told
told_with told bytes = record {
  schedule = if kind bytes == 114 then told.schedule ++ (spelled 1 bytes).schedule else told.schedule;
  emissions = if kind bytes == 105 then told.emissions ++ (spelled 0 bytes).emissions else told.emissions;
  restarts = if kind bytes == 115 then told.restarts ++ (spelled 0 bytes).restarts else told.restarts;
  heaps = if kind bytes == 97 then told.heaps + 1 else told.heaps;
  ended = if kind bytes == 100 then true else told.ended;
}

-- what is told with a right line is read from its bytes
pub read : (g : Game) (most : ℕ) (told told2 : Told) (bytes : List ℕ) → IsRightLine g most told bytes told2 → told2 ≡ told_with told bytes
unfolding line
read g most told told2 bytes (turn s t comes legal is p) = ap (λ ss. record told { schedule = told.schedule ++ ss }) (sym (spelled_turn (turn_line s t) p))
read g most told told2 bytes (emission e comes legal p) = ap (λ es. record told { emissions = told.emissions ++ es }) (sym (spelled_emission e p))
read g most told told2 bytes (restart r comes legal p) = ap (λ rs. record told { restarts = told.restarts ++ rs }) (sym (spelled_restart r p))
read g most told told2 bytes (heap comes few) = refl
read g most told told2 bytes (ends Settled comes all is) = refl
read g most told told2 bytes (ends Cut comes all is) = refl
