use Rattle.ken_store.proofs.ApartRecovers.{unsealed_recovers_apart}
use Rattle.ken_store.proofs.apart.unsealed_recovers_apart.Goals as goal

pub returns : goal.returns
returns g c = unsealed_recovers_apart g.D.Disk.told g.D.Disk.size
