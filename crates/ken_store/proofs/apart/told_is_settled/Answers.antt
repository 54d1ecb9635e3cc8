use Rattle.ken_store.proofs.ApartLaws.{told_is_settled}
use Rattle.ken_store.proofs.apart.told_is_settled.Goals as goal

pub returns : goal.returns
returns g c = told_is_settled g.D.Disk.told g.D.Disk.size
