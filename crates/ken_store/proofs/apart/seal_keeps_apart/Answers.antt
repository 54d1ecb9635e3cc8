use Rattle.ken_store.proofs.ApartLaws.{seal_keeps_apart}
use Rattle.ken_store.proofs.apart.seal_keeps_apart.Goals as goal

pub returns : goal.returns
returns g c = seal_keeps_apart g.D.Disk.told g.D.Disk.size
