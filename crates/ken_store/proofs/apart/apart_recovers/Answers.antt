use Rattle.ken_store.proofs.ApartRecovers.{apart_recovers}
use Rattle.ken_store.proofs.apart.apart_recovers.Goals as goal

pub returns : goal.returns
returns g c = apart_recovers g.D.Disk.told g.D.Disk.size
