use Rattle.ken_store.proofs.Heaps.{Loaded}
use Rattle.ken_store.proofs.heap.load_image.Given as goal

abbrev pub invariant-loop-page : goal.invariant-loop-page
invariant-loop-page g l = Loaded g.D.Disk.told g.D.Disk.size g.D.Disk.faults g.D.Disk.fate l.initial.image l.page l.image l.heap
