use Rattle.std.proofs.Common.{◌≡◌, map, replicate}
use Rattle.ken_model.specs.Network.{empty_heap}
use Rattle.ken_actors.proofs.actors.heaps.Given as goal

abbrev pub invariant-loop-node : goal.invariant-loop-node
invariant-loop-node g l = map g.P.Player.value l.heaps.items ≡ replicate l._node (empty_heap l.facts.size)
