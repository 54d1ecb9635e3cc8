-- What a run has come to.
use Rattle.ken_model.specs.declared.facts.Facts.{Facts}
use Rattle.ken_model.specs.Game.{Game}
use Rattle.ken_model.specs.Handler.{Handler}
use Rattle.ken_model.specs.Network.{Network}

-- the game of a script's facts, with this handler in place of the kind's
abbrev pub game_for : Handler → Facts → Game
game_for handler f = record { nodes = f.nodes; size = f.size; turns = f.turns; inputs = f.inputs; handler = handler }

pub record Playing : Type 0 where
  pub game : Game
  pub network : Network
