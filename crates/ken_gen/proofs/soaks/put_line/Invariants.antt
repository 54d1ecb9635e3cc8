use Rattle.std.proofs.Common.{◌≡◌, ◌∷◌, ◌++◌, map, drop, decimal}
use Rattle.std.specs.List.{join_with_byte}
use Rattle.ken_gen.proofs.Lines.{following}
use Rattle.ken_gen.proofs.soaks.put_line.Given as goal

-- the words so far, with those that are still to be written, are all
abbrev pub invariant-loop-number : goal.invariant-loop-number
invariant-loop-number l = l.out.items ++ following (map decimal (drop l.number-index l.numbers)) ≡ l.fn.out.items ++ join_with_byte 32 (l.name ∷ map decimal l.numbers)
