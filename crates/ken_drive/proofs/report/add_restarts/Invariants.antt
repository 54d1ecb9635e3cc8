use Rattle.std.proofs.Common.{◌≡◌, ◌++◌, take}
use Rattle.ken_drive.specs.Ended.{AreWords, restart_lines}
use Rattle.ken_drive.proofs.report.add_restarts.Given as goal

abbrev pub invariant-loop-turns : goal.invariant-loop-turns
invariant-loop-turns l = record {
  lines : l.all.items ≡ l.fn.all.items ++ restart_lines l.node (take l.turns-index l.turns);
  words : AreWords l.fn.all.items → AreWords l.all.items;
}
