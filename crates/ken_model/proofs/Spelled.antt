-- The schedule, emissions and restarts that a report's text spells are those of its lines.
use Rattle.std.proofs.Common.{◌≡◌, ℕ, ◌<◌, List, [], ◌∷◌, map, length, false, bytes_eq, codes, decimal, Some, None, filter_map, refl, ap, ◌∙◌, append-nil, map-id, arith, ◌==◌}
use Rattle.std.specs.List.{join_with_byte}
use Rattle.std.proofs.lemmas.List.Splits.{length-slice_split, join_with_byte-slice_split}
use Rattle.ken_model.specs.declared.reports.TurnLine.{TurnLine}
use Rattle.ken_model.specs.declared.reports.Emission.{Emission}
use Rattle.ken_model.specs.declared.reports.RestartLine.{RestartLine}
use Rattle.ken_model.specs.declared.reports.Lines.{Lines}
use Rattle.ken_num.specs.Numbers.{value_from}
use Rattle.ken_model.specs.Report.{turn_words, restart_words, text}
use Rattle.ken_model.specs.Spelling.{parts_at, step_in, emission_in, restart_in, spell, IsPrintable, IsPrintableTurn, IsPrintableEmission, IsWord}
use Rattle.ken_model.specs.Laws.{steps_of, ReportSpellsItsRun}
use Rattle.ken_num.proofs.Decimals.{value_from-decimal}
use Rattle.ken_model.proofs.NumbersRead.{sender_of-sender_word, draws_of-draws_word}
use Rattle.ken_model.proofs.LinesRead.{Reads, emit_parts, found, found-text}

-- a reader that makes nothing of its items
filter_map-none : {X Y : Type 0} (xs : List X) → filter_map {X = X} {Y = Y} (λ x. None) xs ≡ []
filter_map-none [] = refl
filter_map-none (x ∷ xs) = filter_map-none xs

-- a reader that makes something of each
filter_map-some : {X Y : Type 0} (f : X → Y) (xs : List X) → filter_map (λ x. Some (f x)) xs ≡ map f xs
filter_map-some f [] = refl
filter_map-some f (x ∷ xs) = ap (λ ys. f x ∷ ys) (filter_map-some f xs)

-- a line that begins with another word is no turn's
step_in-other : (a : List ℕ) → bytes_eq a (codes "turn") ≡ false → (words : List (List ℕ)) → step_in (a ∷ words) ≡ None
unfolding step_in
step_in-other a other [] = refl
step_in-other a other (b ∷ []) = refl
step_in-other a other (b ∷ c ∷ []) = refl
step_in-other a other (b ∷ c ∷ d ∷ []) = refl
step_in-other a other (b ∷ c ∷ d ∷ e ∷ []) = refl
step_in-other a other (b ∷ c ∷ d ∷ e ∷ g ∷ []) = rw other
step_in-other a other (b ∷ c ∷ d ∷ e ∷ g ∷ i ∷ words) = refl

-- nor an emission's
emission_in-other : (a : List ℕ) → bytes_eq a (codes "emit") ≡ false → (words : List (List ℕ)) → emission_in (a ∷ words) ≡ None
unfolding emission_in
emission_in-other a other [] = refl
emission_in-other a other (b ∷ []) = refl
emission_in-other a other (b ∷ c ∷ []) = refl
emission_in-other a other (b ∷ c ∷ d ∷ words) = rw other

-- nor a restart's
restart_in-other : (a : List ℕ) → bytes_eq a (codes "restart") ≡ false → (words : List (List ℕ)) → restart_in (a ∷ words) ≡ None
unfolding restart_in
restart_in-other a other [] = refl
restart_in-other a other (b ∷ []) = refl
restart_in-other a other (b ∷ c ∷ []) = refl
restart_in-other a other (b ∷ c ∷ d ∷ []) = rw other
restart_in-other a other (b ∷ c ∷ d ∷ e ∷ words) = refl

-- a turn's line gives back its step
step_in-turn_words : (l : TurnLine) → IsPrintableTurn l → step_in (turn_words l) ≡ Some l.step
unfolding step_in
step_in-turn_words l p =
    let node = value_from-decimal l.step.node p.node in
    let from = sender_of-sender_word l.step.from p.from in
    let draws = draws_of-draws_word l.step.draws p.draws in
    rw (node, from, draws)

-- an emission's text is all after the third space, joined again
emission_in-parts : (node number : List ℕ) (parts : List (List ℕ)) → 0 < length parts → emission_in (codes "emit" ∷ node ∷ number ∷ parts) ≡ Some (record { node = value_from 0 node; out = record { number = value_from 0 number; text = join_with_byte 32 parts } })
unfolding emission_in
emission_in-parts node number [] some = absurd (omega arith)
emission_in-parts node number (part ∷ parts) some = refl

-- an emission's line gives it back
emission_in-emit_parts : (e : Emission) → IsPrintableEmission e → emission_in (emit_parts e) ≡ Some e
emission_in-emit_parts e p =
    let node = value_from-decimal e.node p.node in
    let number = value_from-decimal e.out.number p.number in
    let body = join_with_byte-slice_split 32 e.out.text in
    emission_in-parts (decimal e.node) (decimal e.out.number) (parts_at 32 e.out.text) (omega (arith, length-slice_split (λ b. b == 32) e.out.text)) ∙ rw (node, number, body) refl

-- a restart's line gives it back
restart_in-restart_words : (r : RestartLine) → IsWord r.node × IsWord r.turns → restart_in (restart_words r) ≡ Some r
unfolding restart_in
restart_in-restart_words r p =
    let node = value_from-decimal r.node p.0 in
    let turns = value_from-decimal r.turns p.1 in
    rw (node, turns)

-- what each reader makes of each kind of line
steps : Reads step_in (λ l. Some l.step) (λ e. None) (λ r. None)
unfolding step_in
steps = record {
  turn = step_in-turn_words;
  emission = λ e p. step_in-other (codes "emit") refl (decimal e.node ∷ decimal e.out.number ∷ parts_at 32 e.out.text);
  restart = λ r p. refl;
  heap = step_in-other (codes "heap") refl;
  ending = step_in-other (codes "end") refl;
  nothing = refl;
}

emissions : Reads emission_in (λ l. None) Some (λ r. None)
unfolding emission_in
emissions = record {
  turn = λ l p. refl;
  emission = emission_in-emit_parts;
  restart = λ r p. refl;
  heap = emission_in-other (codes "heap") refl;
  ending = emission_in-other (codes "end") refl;
  nothing = refl;
}

restarts : Reads restart_in (λ l. None) (λ e. None) Some
unfolding restart_in
restarts = record {
  turn = λ l p. refl;
  emission = λ e p. restart_in-other (codes "emit") refl (decimal e.node ∷ decimal e.out.number ∷ parts_at 32 e.out.text);
  restart = restart_in-restart_words;
  heap = restart_in-other (codes "heap") refl;
  ending = restart_in-other (codes "end") refl;
  nothing = refl;
}

-- the steps of the turns are found, in order
spelled_schedule : (l : Lines) → IsPrintable l → found step_in (text l) ≡ steps_of l.turns
spelled_schedule l p = found-text step_in steps l p ∙ simp (filter_map-none, filter_map-some, append-nil)

-- so are the emissions
spelled_emissions : (l : Lines) → IsPrintable l → found emission_in (text l) ≡ l.emissions
spelled_emissions l p = found-text emission_in emissions l p ∙ simp (filter_map-none, filter_map-some, append-nil, map-id)

-- and the restarts
spelled_restarts : (l : Lines) → IsPrintable l → found restart_in (text l) ≡ l.restarts
spelled_restarts l p = found-text restart_in restarts l p ∙ simp (filter_map-none, filter_map-some, map-id)

-- the text of a report gives back the run that it tells of
pub report_spells_its_run : ReportSpellsItsRun
unfolding spell
report_spells_its_run l p = rw (spelled_schedule l p, spelled_emissions l p, spelled_restarts l p)
