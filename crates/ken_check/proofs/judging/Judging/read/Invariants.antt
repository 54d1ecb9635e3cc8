use Rattle.std.proofs.Common.{length}
use Rattle.ken_check.specs.Incoming.{IsUnderWay}
use Rattle.ken_check.proofs.Pieces.{HasReadOn}
use Rattle.ken_check.proofs.judging.Judging.read.Given as goal

-- the lines before the rest were read
abbrev pub invariant-loop-self : goal.invariant-loop-self
invariant-loop-self gen l = record {
  under_way : IsUnderWay gen.P.Player.handler l.self;
  read : HasReadOn gen.P.Player.handler l.bytes l.rest l.initial.self l.self;
}

abbrev pub decreases-loop-self : goal.decreases-loop-self
decreases-loop-self gen l = length l.rest
