use Rattle.ken_store.proofs.ApartLaws.{turnover_keeps_apart}
use Rattle.ken_store.proofs.apart.turnover_keeps_apart.Goals as goal

pub returns : goal.returns
returns g c = turnover_keeps_apart g.D.Disk.told g.D.Disk.size
