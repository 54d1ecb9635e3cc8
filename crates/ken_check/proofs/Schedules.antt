-- Schedules and their turn lines: a front, what follows it, and one more step.
use Rattle.std.proofs.Common.{◌≡◌, ℕ, List, [], ◌∷◌, ◌++◌, length, Option, Some, None, option_map, refl, sym, ap, ◌∙◌}
use Rattle.std.specs.List.{cons_option}
use Rattle.std.proofs.lemmas.List.{length-map}
use Rattle.ken_model.specs.declared.messages.Step.{Step}
use Rattle.ken_model.specs.declared.reports.TurnLine.{TurnLine}
use Rattle.ken_model.specs.Game.{Game}
use Rattle.ken_model.specs.Laws.{steps_of}
use Rattle.ken_model.specs.Network.{Network, Turn, turn_of, applied, stepped}
use Rattle.ken_model.specs.Schedule.{IsLegalFrom, played, turn_line, turn_lines}

cons_option-append : {X : Type 0} (o : Option X) (xs ys : List X) → cons_option o (xs ++ ys) ≡ cons_option o xs ++ ys
cons_option-append None xs ys = refl
cons_option-append (Some x) xs ys = refl

module _ (g : Game) where
  pub played-append : (w : Network) (ss us : List Step) → played g w (ss ++ us) ≡ played g (played g w ss) us
  unfolding played
  played-append w [] us = refl
  played-append w (s ∷ ss) us = played-append (stepped g w s) ss us

  turn_lines-append : (w : Network) (ss us : List Step) → turn_lines g w (ss ++ us) ≡ turn_lines g w ss ++ turn_lines g (played g w ss) us
  unfolding played turn_lines
  turn_lines-append w [] us = refl
  turn_lines-append w (s ∷ ss) us =
      let first : Option TurnLine = option_map (turn_line s) (turn_of g w s) in
      let later = stepped g w s in
      ap (cons_option first) (turn_lines-append later ss us) ∙ cons_option-append first (turn_lines g later ss) (turn_lines g (played g later ss) us)

  -- a step that is defined has a line
  pub turn_lines-step : (w : Network) (s : Step) (ss : List Step) (t : Turn) → turn_of g w s ≡ Some t → turn_lines g w (s ∷ ss) ≡ turn_line s t ∷ turn_lines g (stepped g w s) ss
  unfolding turn_lines
  turn_lines-step w s ss t is = ap (λ o. cons_option (option_map (turn_line s) o) (turn_lines g (stepped g w s) ss)) is

  pub turn_lines-push : (w : Network) (ss : List Step) (s : Step) (t : Turn) → turn_of g (played g w ss) s ≡ Some t → turn_lines g w (ss ++ s ∷ []) ≡ turn_lines g w ss ++ turn_line s t ∷ []
  unfolding turn_lines
  turn_lines-push w ss s t is = turn_lines-append w ss (s ∷ []) ∙ ap (λ ls. turn_lines g w ss ++ ls) (turn_lines-step (played g w ss) s [] t is)

  -- a front of a legal schedule is legal
  pub legal_front : (w : Network) (stamp node : ℕ) (ss us : List Step) → IsLegalFrom g w stamp node (ss ++ us) → IsLegalFrom g w stamp node ss
  unfolding IsLegalFrom
  legal_front w stamp node [] us legal = tt
  legal_front w stamp node (s ∷ ss) us legal = (legal.0, legal.1, legal.2, legal.3, legal_front (applied w s legal.0) legal.0.stamp s.node ss us legal.4)

  -- its last step is defined
  pub last_turn : (w : Network) (stamp node : ℕ) (ss : List Step) (s : Step) → IsLegalFrom g w stamp node (ss ++ s ∷ []) → (t : Turn) × (turn_of g (played g w ss) s ≡ Some t)
  unfolding IsLegalFrom played
  last_turn w stamp node [] s legal = (legal.0, legal.1)
  last_turn w stamp node (x ∷ ss) s legal = rw (legal.1, played) (last_turn (applied w x legal.0) legal.0.stamp x.node ss s legal.4)

  -- each step has a line
  pub steps_of-turn_lines : (w : Network) (stamp node : ℕ) (ss : List Step) → IsLegalFrom g w stamp node ss → steps_of (turn_lines g w ss) ≡ ss
  unfolding IsLegalFrom turn_lines
  steps_of-turn_lines w stamp node [] legal = refl
  steps_of-turn_lines w stamp node (s ∷ ss) legal = rw legal.1 (ap (λ us. s ∷ us) (steps_of-turn_lines (applied w s legal.0) legal.0.stamp s.node ss legal.4))

  pub length-turn_lines : (w : Network) (stamp node : ℕ) (ss : List Step) → IsLegalFrom g w stamp node ss → length (turn_lines g w ss) ≡ length ss
  length-turn_lines w stamp node ss legal = sym (length-map (turn_lines g w ss) (λ (l : TurnLine). l.step)) ∙ ap length (steps_of-turn_lines w stamp node ss legal)
