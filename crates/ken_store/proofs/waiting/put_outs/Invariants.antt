use Rattle.std.proofs.Common.{◌≡◌, ◌++◌, take}
use Rattle.ken_store.proofs.waiting.put_outs.Given as goal

abbrev pub invariant-loop-out : goal.invariant-loop-out
invariant-loop-out l = l.outs.items ≡ l.initial.outs.items ++ take l.out-index l.items
