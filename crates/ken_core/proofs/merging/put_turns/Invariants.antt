use Rattle.std.proofs.Common.{◌≡◌, ◌++◌, take, map}
use Rattle.ken_core.specs.Turns.{effects_line}
use Rattle.ken_core.proofs.merging.put_turns.Given as goal

abbrev pub invariant-loop-turn : goal.invariant-loop-turn
invariant-loop-turn l = l.all.items ≡ l.initial.all.items ++ map (effects_line l.node) (take l.turn-index l.turns)
