use Rattle.std.proofs.Common.{◌≡◌, ◌<◌, ◌≤◌, ℕ, [], map}
use Rattle.ken_model.specs.History.{lines_by}
use Rattle.ken_model.specs.Game.{game_of}
use Rattle.ken_core.specs.Turns.{effects_line}
use Rattle.ken_core.specs.Groups.{shown_at}
use Rattle.ken_core.proofs.group.Group.history.Given as goal

abbrev pub invariant-loop-node : goal.invariant-loop-node
invariant-loop-node l = record {
  done : (v : ℕ) → v < l.node → lines_by v l.timeline ≡ map (effects_line v) (shown_at (game_of l.self.facts.now) l.self.machines.items v).node.turning.turns;
  left : (v : ℕ) → l.node ≤ v → lines_by v l.timeline ≡ [];
}
