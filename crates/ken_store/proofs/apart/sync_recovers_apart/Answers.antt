use Rattle.ken_store.proofs.ApartRecovers.{sync_recovers_apart}
use Rattle.ken_store.proofs.apart.sync_recovers_apart.Goals as goal

pub returns : goal.returns
returns g c = sync_recovers_apart g.D.Disk.told g.D.Disk.size
