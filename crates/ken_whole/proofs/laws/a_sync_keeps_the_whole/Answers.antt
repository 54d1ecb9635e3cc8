use Rattle.ken_whole.proofs.PatchesWhole.{sync_keeps_whole}
use Rattle.ken_whole.proofs.laws.a_sync_keeps_the_whole.Goals as goal

pub returns : goal.returns
returns g c = sync_keeps_whole g.D.Disk.told g.D.Disk.size g.D.Disk.faults g.D.Disk.fate
