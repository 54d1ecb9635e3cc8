use Rattle.std.proofs.Common.{◌≡◌, ◌-◌, ◌≤◌}
use Rattle.ken_top.specs.Pieces.{HasCome}
use Rattle.ken_top.proofs.incoming.let_go.Given as goal

-- what came is counted, and no call has failed
abbrev pub invariant-loop-taken : goal.invariant-loop-taken
invariant-loop-taken g l = record {
  few : l.taken ≤ l.room;
  come : HasCome (g.S.Source.left l.initial.source) (g.S.Source.left l.source) l.taken;
  faults : g.S.Source.faults l.source ≡ g.S.Source.faults l.initial.source;
}

abbrev pub decreases-loop-taken : goal.decreases-loop-taken
decreases-loop-taken g l = l.room - l.taken
