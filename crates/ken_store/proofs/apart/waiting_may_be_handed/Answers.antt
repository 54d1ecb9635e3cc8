use Rattle.ken_store.proofs.ApartLaws.{waiting_may_be_handed}
use Rattle.ken_store.proofs.apart.waiting_may_be_handed.Goals as goal

pub returns : goal.returns
returns g c = waiting_may_be_handed g.D.Disk.told g.D.Disk.size
