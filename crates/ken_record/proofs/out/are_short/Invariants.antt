use Rattle.std.proofs.Common.{◌≡◌, ◌↔◌, drop}
use Rattle.std.specs.List.{AllByRecursion}
use Rattle.ken_record.specs.Grammar.{IsOut, are_short}
use Rattle.ken_record.proofs.out.are_short.Given as goal

abbrev pub invariant-loop-out : goal.invariant-loop-out
invariant-loop-out l = (are_short (drop l.out-index l.outs) ≡ are_short l.outs) × (AllByRecursion IsOut (drop l.out-index l.outs) ↔ AllByRecursion IsOut l.outs)
