use Rattle.std.proofs.Common.{◌≡◌, length, []}
use Rattle.std.specs.List.{All}
use Rattle.ken_core.proofs.first.no_lists.Given as goal

abbrev pub invariant-loop-node : goal.invariant-loop-node
invariant-loop-node l = record { width : length l.lists.items ≡ l._node; none : All (λ list. list.items ≡ []) l.lists.items }
