use Rattle.std.proofs.Common.{drop, ◌↔◌}
use Rattle.std.specs.List.{AllByRecursion}
use Rattle.ken_record.specs.Grammar.{IsOut}
use Rattle.ken_store.proofs.may_seal.outs_fit.Given as goal

abbrev pub invariant-loop-out : goal.invariant-loop-out
invariant-loop-out l = AllByRecursion IsOut (drop l.out-index l.outs) ↔ AllByRecursion IsOut l.outs
