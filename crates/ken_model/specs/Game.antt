-- What a run is of.
use Rattle.std.specs.Prelude.{ℕ, List}
use Rattle.ken_model.specs.declared.facts.Facts.{Facts}
use Rattle.ken_model.specs.declared.facts.Input.{Input}
use Rattle.ken_model.specs.Handler.{Handler}
use Rattle.ken_model.specs.Kinds.{handler_of}

-- how many nodes, the size of each heap in bytes, the most turns of a node, the inputs, and what each node makes of a message
pub record Game : Type 0 where
  pub nodes : ℕ
  pub size : ℕ
  pub turns : ℕ
  pub inputs : List Input
  pub handler : Handler

-- the game of a script's facts: its handler is that of the kind
abbrev pub game_of : Facts → Game
game_of f = record { nodes = f.nodes; size = f.size; turns = f.turns; inputs = f.inputs; handler = handler_of f.kind }
