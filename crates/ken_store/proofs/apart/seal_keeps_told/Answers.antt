use Rattle.ken_store.proofs.ApartLaws.{seal_keeps_told}
use Rattle.ken_store.proofs.apart.seal_keeps_told.Goals as goal

pub returns : goal.returns
returns g c = seal_keeps_told g.D.Disk.told g.D.Disk.size
