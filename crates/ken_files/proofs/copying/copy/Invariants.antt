use Rattle.std.proofs.Common.{◌≤◌, ◌-◌}
use Rattle.ken_files.proofs.Pieces.{IsCopied}
use Rattle.ken_files.proofs.copying.copy.Given as goal

abbrev pub invariant-loop-at : goal.invariant-loop-at
invariant-loop-at g l = record {
  copied : IsCopied g.D.Disk.told g.D.Disk.size g.D.Disk.faults g.D.Disk.fate g.F.Disk.told g.F.Disk.size g.F.Disk.faults l.at l.initial.disk l.disk l.initial.file l.file;
  within : l.at ≤ l.end;
}

abbrev pub decreases-loop-at : goal.decreases-loop-at
decreases-loop-at g l = l.end - l.at
