use Rattle.ken_store.proofs.ApartLaws.{told_is_sealed}
use Rattle.ken_store.proofs.apart.told_is_sealed.Goals as goal

pub returns : goal.returns
returns g c = told_is_sealed g.D.Disk.told g.D.Disk.size
