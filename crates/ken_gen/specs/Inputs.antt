-- The inputs of a script, from a state of the generator.
use Rattle.std.specs.Prelude.{ℕ, zero, suc, List, [], ◌∷◌, decimal}
use Rattle.ken_model.specs.declared.facts.Input.{Input}
use Rattle.ken_gen.specs.Draws.{drawn, past}

-- an input: its node, and then the decimal text of a number below 1000
unfoldable pub input_at : ℕ → ℕ → Input
input_at nodes x = record { node = drawn nodes x; text = decimal (drawn 1000 (past x)) }

-- the state after its answers
unfoldable pub past_input : ℕ → ℕ
past_input x = past (past x)

-- so many inputs, one after another
unfoldable pub inputs_from : ℕ → ℕ → ℕ → List Input
inputs_from nodes zero x = []
inputs_from nodes (suc count) x = input_at nodes x ∷ inputs_from nodes count (past_input x)

-- the state after their answers
unfoldable pub past_inputs : ℕ → ℕ → ℕ
past_inputs zero x = x
past_inputs (suc count) x = past_inputs count (past_input x)
