use Rattle.std.proofs.Common.{◌≡◌, ◌++◌, take}
use Rattle.ken_outbox.proofs.outbox.push_copies.Given as goal

abbrev pub invariant-loop-out : goal.invariant-loop-out
invariant-loop-out l = l.queue.items ≡ l.fn.queue.items ++ take l.out-index l.outs
