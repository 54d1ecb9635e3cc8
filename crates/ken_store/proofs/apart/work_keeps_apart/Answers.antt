use Rattle.ken_store.proofs.ApartLaws.{work_keeps_apart}
use Rattle.ken_store.proofs.apart.work_keeps_apart.Goals as goal

pub returns : goal.returns
returns g c = work_keeps_apart g.D.Disk.told g.D.Disk.size
