use Rattle.std.proofs.Common.{◌≡◌, length}
use Rattle.ken_ship.specs.Parts.{due_in}
use Rattle.ken_ship.proofs.backlog.Backlog.add_all.Given as goal

abbrev pub invariant-loop-self : goal.invariant-loop-self
invariant-loop-self l = (l.self.node ≡ l.fn.self.node) × (l.self.handed ≡ l.fn.self.handed) × (due_in l.self ≡ due_in l.fn.self)

abbrev pub decreases-loop-self : goal.decreases-loop-self
decreases-loop-self l = length l.self.turns.items
