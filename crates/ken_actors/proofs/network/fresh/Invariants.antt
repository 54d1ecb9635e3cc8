use Rattle.std.proofs.Common.{◌≡◌, [], length}
use Rattle.std.specs.List.{All}
use Rattle.ken_actors.specs.Nodes.{held_of, new_node}
use Rattle.ken_actors.proofs.network.fresh.Given as goal

abbrev pub invariant-loop-node : goal.invariant-loop-node
invariant-loop-node l = record {
  long : length l.all.items ≡ l._node;
  fresh : All (λ n. held_of n ≡ new_node l.nodes []) l.all.items;
}
