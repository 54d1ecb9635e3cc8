use Rattle.std.proofs.Common.{◌≡◌, ◌-◌, ◌≤◌}
use Rattle.ken_check.specs.Incoming.{IsUnderWay}
use Rattle.ken_top.specs.Pieces.{HasJudged}
use Rattle.ken_top.proofs.incoming.read_report.Given as goal

-- what came is judged and counted, and no call has failed
abbrev pub invariant-loop-taken : goal.invariant-loop-taken
invariant-loop-taken g l = record {
  few : l.taken ≤ l.room;
  under_way : IsUnderWay g.P.Player.handler l.judging;
  judged : HasJudged g.P.Player.handler (g.S.Source.left l.initial.source) (g.S.Source.left l.source) l.initial.judging l.judging l.taken;
  faults : g.S.Source.faults l.source ≡ g.S.Source.faults l.initial.source;
}

abbrev pub decreases-loop-taken : goal.decreases-loop-taken
decreases-loop-taken g l = l.room - l.taken
