use Rattle.ken_store.proofs.ApartLaws.{begin_keeps_apart}
use Rattle.ken_store.proofs.apart.begin_keeps_apart.Goals as goal

pub returns : goal.returns
returns g c = begin_keeps_apart g.D.Disk.told g.D.Disk.size
