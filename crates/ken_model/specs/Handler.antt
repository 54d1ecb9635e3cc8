-- What a handler is.
use Rattle.std.specs.Prelude.{ℕ, List, Option}
use Rattle.ken_model.specs.declared.values.Value.{Value}
use Rattle.ken_model.specs.declared.messages.Message.{Message}
use Rattle.ken_model.specs.Effects.{Effect}

-- what it makes of node, number of nodes, heap, message and draws: an effect, or nothing where it isn't defined at them;
-- and which of the draws are readings of the clock, and which are random words
pub record Handler : Type 0 where
  pub after : ℕ → ℕ → Value → Message → List ℕ → Option Effect
  pub clocks : List ℕ → List ℕ
  pub words : List ℕ → List ℕ
