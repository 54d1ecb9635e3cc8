use Rattle.ken_store.proofs.ApartLaws.{abort_keeps_apart}
use Rattle.ken_store.proofs.apart.abort_keeps_apart.Goals as goal

pub returns : goal.returns
returns g c = abort_keeps_apart g.D.Disk.told g.D.Disk.size
