-- What is drawn from a state of the generator.
use Rattle.std.specs.Prelude.{ℕ, ◌%◌}
use Rattle.ken_num.specs.Generator.{next_state, answer_of}

-- the next answer, modulo a bound
unfoldable pub drawn : ℕ → ℕ → ℕ
drawn bound x = answer_of (next_state x) % bound

-- the state after the next answer
unfoldable pub past : ℕ → ℕ
past x = next_state x
