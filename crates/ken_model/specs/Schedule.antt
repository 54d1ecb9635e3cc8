-- Schedules: lists of steps, and the network after them.
use Rattle.std.specs.Prelude.{◌≡◌, ℕ, ◌<◌, ◌⊎◌, List, [], ◌∷◌, Some, option_map}
use Rattle.std.specs.List.{cons_option}
use Rattle.ken_model.specs.declared.messages.Step.{Step}
use Rattle.ken_model.specs.declared.reports.TurnLine.{TurnLine}
use Rattle.ken_model.specs.Game.{Game}
use Rattle.ken_model.specs.Network.{Network, Turn, start, turn_of, applied, stepped}

-- the pair (stamp, node) comes before another: by stamp, and at equal stamps by node
abbrev pub ComesBefore : ℕ → ℕ → ℕ → ℕ → Type 0
ComesBefore stamp node later_stamp later_node = (stamp < later_stamp) ⊎ ((stamp ≡ later_stamp) × (node < later_node))

-- each step is of a node of the game and defined in its place, and the pairs (stamp, node) rise strictly, from one that comes before all
unfoldable pub IsLegalFrom : Game → Network → ℕ → ℕ → List Step → Type 0
IsLegalFrom g w stamp node [] = Unit {0}
IsLegalFrom g w stamp node (s ∷ ss) = (t : Turn) × (turn_of g w s ≡ Some t) × (s.node < g.nodes) × ComesBefore stamp node t.stamp s.node × IsLegalFrom g (applied w s t) t.stamp s.node ss

-- a legal schedule; a turn's stamp is at least 1, so the pair (0, 0) comes before all
abbrev pub IsLegal : Game → List Step → Type 0
IsLegal g schedule = IsLegalFrom g (start g) 0 0 schedule

unfoldable pub played : Game → Network → List Step → Network
played g w [] = w
played g w (s ∷ ss) = played g (stepped g w s) ss

-- the network after a schedule
abbrev pub play : Game → List Step → Network
play g schedule = played g (start g) schedule

-- a step and its turn, as a line of the report
abbrev pub turn_line : Step → Turn → TurnLine
turn_line s t = record { stamp = t.stamp; step = s; number = t.message.number }

-- the lines of the turns that a schedule makes
unfoldable pub turn_lines : Game → Network → List Step → List TurnLine
turn_lines g w [] = []
turn_lines g w (s ∷ ss) = cons_option (option_map (turn_line s) (turn_of g w s)) (turn_lines g (stepped g w s) ss)
