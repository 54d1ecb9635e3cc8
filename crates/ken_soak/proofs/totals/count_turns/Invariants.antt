use Rattle.std.proofs.Common.{take}
use Rattle.ken_soak.specs.Totals.{HaveCounted, turns_at}
use Rattle.ken_soak.proofs.totals.count_turns.Given as goal

-- the turns so far are counted
abbrev pub invariant-loop-turn : goal.invariant-loop-turn
invariant-loop-turn l = HaveCounted (λ v. turns_at v (take l.turn-index l.turns)) l.fn.totals l.totals
