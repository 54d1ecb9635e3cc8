use Rattle.std.proofs.Common.{◌≡◌, take, map, length}
use Rattle.ken_core.proofs.sealing.counts.Given as goal

abbrev pub invariant-loop-list : goal.invariant-loop-list
invariant-loop-list l = l.counts.items ≡ map (λ list. length list.items) (take l.list-index l.sent)
