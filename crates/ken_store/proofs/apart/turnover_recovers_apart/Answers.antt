use Rattle.ken_store.proofs.ApartRecovers.{turnover_recovers_apart}
use Rattle.ken_store.proofs.apart.turnover_recovers_apart.Goals as goal

pub returns : goal.returns
returns g c = turnover_recovers_apart g.D.Disk.told g.D.Disk.size
