use Rattle.ken_store.proofs.ApartRecovers.{seal_recovers_apart}
use Rattle.ken_store.proofs.apart.seal_recovers_apart.Goals as goal

pub returns : goal.returns
returns g c = seal_recovers_apart g.D.Disk.told g.D.Disk.size
