use Rattle.std.proofs.Common.{◌≡◌, drop}
use Rattle.ken_record.specs.Grammar.{are_numbered}
use Rattle.ken_store.proofs.may_seal.are_numbered.Given as goal

abbrev pub invariant-loop-out : goal.invariant-loop-out
invariant-loop-out l = are_numbered (drop l.out-index l.outs) ≡ are_numbered l.outs
