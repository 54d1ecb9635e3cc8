use Rattle.ken_store.proofs.ApartLaws.{sync_keeps_told}
use Rattle.ken_store.proofs.apart.sync_keeps_told.Goals as goal

pub returns : goal.returns
returns g c = sync_keeps_told g.D.Disk.told g.D.Disk.size
