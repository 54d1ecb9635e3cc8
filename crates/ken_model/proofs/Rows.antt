-- Worked reports, computed from the definitions.
use Rattle.std.proofs.Common.{inl, Some, None, arith, ◌≡◌, ℕ, ◌-◌, ◌^◌, List, [], ◌∷◌, ◌++◌, refl, codes}
use Rattle.std.specs.Fmt.{digits}
use Rattle.ken_model.specs.declared.kinds.Kind.TheVariants.{Ring, Mix}
use Rattle.ken_model.specs.declared.messages.Step.{Step}
use Rattle.ken_model.specs.declared.messages.Out.{Out}
use Rattle.ken_model.specs.declared.reports.Emission.{Emission}
use Rattle.ken_model.specs.declared.reports.Ending.TheVariants.{Settled, Cut}
use Rattle.ken_num.specs.Numbers.{num}
use Rattle.ken_model.specs.Effects.{answered}
use Rattle.ken_model.specs.Handler.{Handler}
use Rattle.ken_model.specs.Kinds.{without_draws, after, handler_of}
use Rattle.ken_model.specs.Game.{Game}
use Rattle.ken_model.specs.Network.{Network, Turn, start, turn_at, turn_of}
use Rattle.ken_model.specs.Schedule.{IsLegal, IsLegalFrom, play, played, turn_lines}
use Rattle.ken_model.specs.Emissions.{AreLegalEmissions}
use Rattle.ken_model.specs.Ending.{waiting}
use Rattle.ken_model.specs.Report.{line, text, heap_lines, closing, lines_of, report}
use Rattle.ken_model.specs.Spelling.{spell, step_in, emission_in, restart_in}

-- three nodes, and one input `2` for node 0
three : Game
three = record { nodes = 3; size = 4096; turns = 1000; inputs = record { node = 0; text = codes "2" } ∷ []; handler = handler_of Ring }

schedule : List Step
schedule = record { node = 0; from = 255; draws = [] } ∷ record { node = 1; from = 0; draws = [] } ∷ record { node = 2; from = 1; draws = [] } ∷ []

emissions : List Emission
emissions = record { node = 0; out = record { number = 1; text = codes "2" } } ∷ record { node = 1; out = record { number = 1; text = codes "1" } } ∷ record { node = 2; out = record { number = 1; text = codes "0" } } ∷ []

ends : List ℕ → List ℕ → List ℕ
ends a b = a ++ 10 ∷ b

ring_of_three : List ℕ
ring_of_three = ends (codes "turn 1 0 out 1 -") (ends (codes "turn 2 1 0 1 -") (ends (codes "turn 3 2 1 1 -") (ends (codes "emit 0 1 2") (ends (codes "emit 1 1 1") (ends (codes "emit 2 1 0") (ends (codes "heap 0 1") (ends (codes "heap 1 1") (ends (codes "heap 2 1") (ends (codes "end settled 3") [])))))))))

its_report : report three schedule emissions [] Settled ≡ ring_of_three
unfolding three schedule emissions ends ring_of_three num after turn_at played turn_lines waiting line text heap_lines closing lines_of digits
its_report = refl

its_spelling : spell ring_of_three ≡ record { schedule = schedule; emissions = emissions; restarts = [] }
unfolding three schedule emissions ends ring_of_three spell step_in emission_in restart_in
its_spelling = refl

-- its schedule is legal: each step is defined in its place, and the stamps rise
its_legality : IsLegal three schedule
unfolding three schedule num after turn_at IsLegalFrom digits
its_legality =
    (_, refl, omega arith, inl (omega arith), (_, refl, omega arith, inl (omega arith), (_, refl, omega arith, inl (omega arith), tt)))

-- one node that has one turn, and the input `5`: what is left of the count waits
one : Game
one = record { nodes = 1; size = 4096; turns = 1; inputs = record { node = 0; text = codes "5" } ∷ []; handler = handler_of Ring }

first_step : List Step
first_step = record { node = 0; from = 255; draws = [] } ∷ []

cut_after_one : report one first_step (record { node = 0; out = record { number = 1; text = codes "5" } } ∷ []) [] Cut
    ≡ ends (codes "turn 1 0 out 1 -") (ends (codes "emit 0 1 5") (ends (codes "heap 0 1") (ends (codes "end cut 1 1") [])))
unfolding one first_step ends num after turn_at played turn_lines waiting line text heap_lines closing lines_of digits
cut_after_one = refl

-- a second step isn't defined: the node has made all its turns
no_second_turn : turn_of one (play one first_step) (record { node = 0; from = 0; draws = [] }) ≡ None
unfolding one first_step num after turn_at played digits
no_second_turn = refl

-- a payload that is no number
odd : Game
odd = record { nodes = 1; size = 4096; turns = 1000; inputs = record { node = 0; text = codes "aa" } ∷ []; handler = handler_of Ring }

bad_payload : report odd first_step (record { node = 0; out = record { number = 1; text = codes "bad" } } ∷ []) [] Settled
    ≡ ends (codes "turn 1 0 out 1 -") (ends (codes "emit 0 1 bad") (ends (codes "heap 0 0") (ends (codes "end settled 1") [])))
unfolding odd first_step ends num after turn_at played turn_lines waiting line text heap_lines closing lines_of digits
bad_payload = refl

-- one node of kind mix, which draws
drawing : Game
drawing = record { nodes = 1; size = 4096; turns = 1000; inputs = record { node = 0; text = codes "0" } ∷ []; handler = handler_of Mix }

draws_first : ℕ → Step
draws_first reading = record { node = 0; from = 255; draws = reading ∷ 1234 ∷ [] }

-- any word may be drawn
the_last_word : (t : Turn) × (turn_of drawing (start drawing) (draws_first (2 ^ 64 - 1)) ≡ Some t)
unfolding drawing draws_first num after turn_at digits
the_last_word = (_, refl)

-- and nothing past the words
no_word : turn_of drawing (start drawing) (draws_first (2 ^ 64)) ≡ None
unfolding drawing draws_first turn_at
no_word = refl

-- a node past those of the run emits nothing
no_such_node : (w : Network) (out : Out) → AreLegalEmissions three w (record { node = 3; out = out } ∷ []) → ⊥
unfolding three
no_such_node w out legal = omega (arith, legal.known.0)

-- a handler that is no kind: it outputs what it is sent
echo : Handler
echo = record { after = λ node nodes value message draws. without_draws draws (answered value message.bytes); clocks = λ draws. []; words = λ draws. [] }

echoing : Game
echoing = record { nodes = 1; size = 4096; turns = 1000; inputs = record { node = 0; text = codes "so" } ∷ []; handler = echo }

echoed : report echoing first_step (record { node = 0; out = record { number = 1; text = codes "so" } } ∷ []) [] Settled
    ≡ ends (codes "turn 1 0 out 1 -") (ends (codes "emit 0 1 so") (ends (codes "heap 0 0") (ends (codes "end settled 1") [])))
unfolding echoing echo first_step ends turn_at played turn_lines waiting line text heap_lines closing lines_of digits
echoed = refl
