use Rattle.std.proofs.Common.{Some, take}
use Rattle.ken_check.specs.Endings.{EndsBy}
use Rattle.ken_check.proofs.ending.ending.Given as goal

abbrev pub invariant-loop-known : goal.invariant-loop-known
invariant-loop-known l = EndsBy l.turns (take l.known-index l.nodes) (Some l.ending)
