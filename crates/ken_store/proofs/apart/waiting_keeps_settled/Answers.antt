use Rattle.ken_store.proofs.ApartLaws.{waiting_keeps_settled}
use Rattle.ken_store.proofs.apart.waiting_keeps_settled.Goals as goal

pub returns : goal.returns
returns g c = waiting_keeps_settled g.D.Disk.told g.D.Disk.size
