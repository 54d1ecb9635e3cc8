use Rattle.ken_store.proofs.ApartLaws.{sync_keeps_apart}
use Rattle.ken_store.proofs.apart.sync_keeps_apart.Goals as goal

pub returns : goal.returns
returns g c = sync_keeps_apart g.D.Disk.told g.D.Disk.size
