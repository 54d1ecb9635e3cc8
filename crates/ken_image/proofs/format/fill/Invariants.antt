use Rattle.ken_image.proofs.Filled.{Filled}
use Rattle.ken_image.proofs.format.fill.Given as goal

abbrev pub invariant-loop-page : goal.invariant-loop-page
invariant-loop-page g l = Filled g.D.Disk.told g.D.Disk.size g.D.Disk.faults g.D.Disk.fate l.first l.page l.initial.disk l.disk
